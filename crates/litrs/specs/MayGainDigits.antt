-- The refused numbers that a digit at their end makes numbers. The Rust Reference does not define
-- refusals.
use Rattle.std.specs.Prelude.{ℕ, Bool, true, false, ◌==◌, ◌&&◌, Option, Some, None}
use Rattle.std.specs.declared.ops.Range.{Range}
use Rattle.litrs_base.specs.declared.err.ParseErrorKind.{ParseErrorKind}
use Rattle.litrs_base.specs.declared.err.ParseErrorKind.TheVariants.{NoDigits, NoExponentDigits}
use Rattle.litrs_base.specs.Refusal.{Refusal}

-- `true` iff the kind is that of a main part or an exponent without a digit.
abbrev pub is_digits_kind : ParseErrorKind → Bool
is_digits_kind NoDigits = true
is_digits_kind NoExponentDigits = true
is_digits_kind _ = false

-- `true` iff there is a span that ends at the place.
abbrev pub ends_at : Option (Range ℕ) → ℕ → Bool
ends_at None place = false
ends_at (Some span) place = span.end == place

-- `true` iff the part without a digit ends a text of this length. It does in `0x` and `1e+_`, but
-- not in `0xg`.
abbrev pub may_gain_digits : Refusal → ℕ → Bool
may_gain_digits r len = is_digits_kind r.kind && ends_at r.span len
