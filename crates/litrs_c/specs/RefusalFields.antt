-- The fields of an answer for an error.
use Rattle.std.specs.Prelude.{◌≡◌, ℕ, Option, Some, None, is_some}
use Rattle.std.specs.declared.ops.Range.{Range}
use Rattle.litrs_base.specs.declared.err.ParseError.{ParseError}
use Rattle.litrs_base.specs.Refusal.{kind_of, span_of, char_span_of}
use Rattle.litrs_base.specs.Finality.{is_final, is_open}
use Rattle.litrs_c.specs.declared.Place.{Place}
use Rattle.litrs_c.specs.declared.RefusalFields.{RefusalFields}
use Rattle.litrs_c.specs.Codes.{error_code}
use Rattle.litrs_c.specs.Places.{nowhere}

-- The place of a span.
abbrev pub span_place : Option (Range ℕ) → Place
span_place None = nowhere
span_place (Some span) = record { start = span.start; end = span.end }

-- The fields are those of the error.
pub record IsRefusalFields (e : ParseError) (fields : RefusalFields) : Type 0 where
  pub kind : fields.kind ≡ error_code (kind_of e)
  pub final : fields.is_final ≡ is_final (kind_of e)
  pub lacks_closing : fields.is_open ≡ is_open (kind_of e)
  pub has_span : fields.has_span ≡ is_some (span_of e)
  pub span : fields.span ≡ span_place (span_of e)
  pub char_span : fields.char_span ≡ span_place (char_span_of e)
