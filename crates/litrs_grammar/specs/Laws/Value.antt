-- Laws of the values of strings, byte strings and C strings.
use Rattle.std.specs.Prelude.{◌≡◌, ℕ, List, IsFalse}
use Rattle.std.specs.List.{list_any}
use Rattle.std.specs.Str.{IsUtf8, encode_utf8_all}
use Rattle.litrs_base.specs.Text.{IsText}
use Rattle.litrs_base.specs.declared.quotes.Switches.{Switches}
use Rattle.litrs_base.specs.declared.quotes.StringKind.TheVariants.{String as string_kind, CString as c_string_kind}
use Rattle.litrs_grammar.specs.Quoted.{Item, body_value, IsBodyOf}
use Rattle.litrs_grammar.specs.Raw.{is_nul}
use Rattle.litrs_grammar.specs.Literal.{StringParts, IsString, string_value}
use Rattle.litrs_grammar.specs.Allocation.{has_backslash}

-- Of quoted bodies.

-- The value of a quoted body without a backslash is its UTF-8.
abbrev pub PlainBodiesAreTheirValues : Type 0
PlainBodiesAreTheirValues = (w : Switches) (t : List ℕ) (items : List Item) →
    IsBodyOf w t items → IsFalse (has_backslash t) → body_value items ≡ encode_utf8_all t

-- The value of a quoted body is the UTF-8 of some text if byte escapes are off.
abbrev pub ValuesWithoutByteEscapesAreUtf8 : Type 0
ValuesWithoutByteEscapesAreUtf8 = (w : Switches) (t : List ℕ) (items : List Item) → IsText t →
    IsFalse w.byte_escapes → IsBodyOf w t items → IsUtf8 (body_value items)

-- Of strings, quoted and raw.

-- The value of a string, quoted or raw, is the UTF-8 of some text.
abbrev pub StringValuesAreUtf8 : Type 0
StringValuesAreUtf8 = (t : List ℕ) (d : StringParts) → IsText t → IsString string_kind t d →
    IsUtf8 (string_value d)

-- No byte of the value of a C string, quoted or raw, is zero.
abbrev pub NoNulInCStrings : Type 0
NoNulInCStrings = (t : List ℕ) (d : StringParts) → IsString c_string_kind t d →
    IsFalse (list_any is_nul (string_value d))
