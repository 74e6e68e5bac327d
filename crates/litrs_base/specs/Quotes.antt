-- The kinds of literals between quotes, with the fronts and switches of each. The Rust Reference,
-- Tokens, Literals: "Character literals", "Byte literals", "String literals", "Byte string
-- literals" and "C string literals", and the raw forms of strings.
use Rattle.std.specs.Prelude.{ℕ, true, false, List, [], ◌∷◌, codes}
use Rattle.litrs_base.specs.Characters.{single_quote, double_quote, letter_b, letter_c}
pub use Rattle.litrs_base.specs.declared.quotes.Switches.{Switches}
pub use Rattle.litrs_base.specs.declared.quotes.CharKind.{CharKind}
pub use Rattle.litrs_base.specs.declared.quotes.CharKind.TheVariants.{Char as char_kind}
pub use Rattle.litrs_base.specs.declared.quotes.CharKind.TheVariants.{Byte as byte_kind}
pub use Rattle.litrs_base.specs.declared.quotes.StringKind.{StringKind}
pub use Rattle.litrs_base.specs.declared.quotes.StringKind.TheVariants.{String as string_kind}
pub use Rattle.litrs_base.specs.declared.quotes.StringKind.TheVariants.{ByteString as byte_string_kind}
pub use Rattle.litrs_base.specs.declared.quotes.StringKind.TheVariants.{CString as c_string_kind}

-- The front of a char or a byte: `'` or `b'`.
abbrev pub char_front : CharKind → List ℕ
char_front char_kind = single_quote ∷ []
char_front byte_kind = letter_b ∷ single_quote ∷ []

-- The front of a quoted string: `"`, `b"` or `c"`.
abbrev pub quoted_front : StringKind → List ℕ
quoted_front string_kind = double_quote ∷ []
quoted_front byte_string_kind = letter_b ∷ double_quote ∷ []
quoted_front c_string_kind = letter_c ∷ double_quote ∷ []

-- The front of a raw string: `r`, `br` or `cr`.
abbrev pub raw_front : StringKind → List ℕ
raw_front string_kind = codes "r"
raw_front byte_string_kind = codes "br"
raw_front c_string_kind = codes "cr"

-- The switches of a kind. In its escapes a literal may allow `\u{..}`, `\x` above 7F, and the value
-- 0. In its body a string allows characters that are not ASCII if it allows `\u{..}`, and NUL if it
-- allows the value 0.

abbrev pub char_switches : Switches
char_switches = record { unicode = true; byte_escapes = false; allow_nul = true }

abbrev pub byte_switches : Switches
byte_switches = record { unicode = false; byte_escapes = true; allow_nul = true }

abbrev pub string_switches : Switches
string_switches = record { unicode = true; byte_escapes = false; allow_nul = true }

abbrev pub byte_string_switches : Switches
byte_string_switches = record { unicode = false; byte_escapes = true; allow_nul = true }

abbrev pub c_string_switches : Switches
c_string_switches = record { unicode = true; byte_escapes = true; allow_nul = false }

abbrev pub char_switches_of : CharKind → Switches
char_switches_of char_kind = char_switches
char_switches_of byte_kind = byte_switches

abbrev pub switches_of : StringKind → Switches
switches_of string_kind = string_switches
switches_of byte_string_kind = byte_string_switches
switches_of c_string_kind = c_string_switches
