-- The results of the parse of a text as a string.
use Rattle.std.specs.Prelude.{ℕ, Bool, List, take, drop}
use Rattle.std.specs.Str.{chars}
use Rattle.litrs_base.specs.declared.quotes.Switches.{Switches}
use Rattle.litrs_base.specs.declared.quotes.StringKind.{StringKind}
use Rattle.litrs_base.specs.declared.quotes.StringKind.TheVariants.{CString as c_string_kind}
use Rattle.litrs_grammar.specs.Quoted.{QuotedParts, IsQuoted}
use Rattle.litrs_grammar.specs.Raw.{RawParts, IsRawOf}
use Rattle.litrs_grammar.specs.Literal.{StringParts, quoted_parts, raw_parts, IsString}
use Rattle.litrs.specs.declared.kept_value.BodyPlace.{BodyPlace}
use Rattle.litrs.specs.declared.kept_value.KeptValue.{KeptValue}
use Rattle.litrs.specs.declared.kept_value.KeptValue.TheVariants.{InText}
use Rattle.litrs.specs.StringLiteral.{IsStringAt, IsCStringAt}

-- The text is a quoted string whose body starts at the offset, with this value and this start of
-- its suffix.
pub record IsParsedQuoted
    (w : Switches) (bytes : List ℕ) (offset : ℕ) (kept : KeptValue (List ℕ)) (start_suffix : ℕ)
    : Type 0 where
  pub parts : QuotedParts
  pub derives : IsQuoted (chars (take offset bytes)) w (chars bytes) parts
  pub at : IsStringAt kept start_suffix bytes (quoted_parts parts)

-- The text after the offset follows the `r` of a raw string, with these places of its body and its
-- suffix.
pub record IsParsedRaw
    (unicode allow_nul : Bool) (offset : ℕ) (bytes : List ℕ) (place : BodyPlace) (start_suffix : ℕ)
    : Type 0 where
  pub parts : RawParts
  pub derives : IsRawOf unicode allow_nul (chars (drop offset bytes)) parts
  pub at : IsStringAt (InText place) start_suffix bytes (raw_parts parts)

-- The text is a string of the kind, with this value and this start of its suffix.
pub record IsParsedString
    (kind : StringKind) (bytes : List ℕ) (kept : KeptValue (List ℕ)) (start_suffix : ℕ)
    : Type 0 where
  pub parts : StringParts
  pub derives : IsString kind (chars bytes) parts
  pub at : IsStringAt kept start_suffix bytes parts

-- The text is a C string, with this value and this start of its suffix.
pub record IsParsedCString (bytes : List ℕ) (value : List ℕ) (start_suffix : ℕ) : Type 0 where
  pub parts : StringParts
  pub derives : IsString c_string_kind (chars bytes) parts
  pub at : IsCStringAt value start_suffix bytes parts
