-- Strings as tokens: how a text is written between quotes. The Rust Reference, Tokens, Literals:
-- "String literals".
use Rattle.std.specs.Prelude.{◌≡◌, ℕ, ◌==◌, List, [], ◌∷◌, ◌++◌, codes, if◌then◌else◌}
use Rattle.std.specs.List.{flat_map}
use Rattle.std.specs.Str.{encode_utf8_all}
use Rattle.litrs_base.specs.Characters.{double_quote, backslash, line_feed, carriage_return, tab, nul}
use Rattle.litrs_base.specs.Derivations.{IsOnlyDerivation}
use Rattle.litrs_grammar.specs.Literal.{IsLiteral, a_string, quoted_parts}
use Rattle.litrs_grammar.specs.Quoted.{QuotedParts, body_value}

-- A character between the quotes: `"`, backslash, LF, CR, tab and NUL as escapes, and every other
-- character as it is.
abbrev pub escaped : ℕ → List ℕ
escaped c =
    if c == double_quote then codes "\\\""
    else if c == backslash then codes "\\\\"
    else if c == line_feed then codes "\\n"
    else if c == carriage_return then codes "\\r"
    else if c == tab then codes "\\t"
    else if c == nul then codes "\\0"
    else c ∷ []

-- The value `t`, escaped and between quotes.
abbrev pub string_token : List ℕ → List ℕ
string_token t = double_quote ∷ (flat_map escaped t ++ double_quote ∷ [])

-- `t` is a quoted string and no other literal: its only derivation has the value `value` and no
-- suffix.
pub record IsStringOf (t value : List ℕ) : Type 0 where
  pub parts : QuotedParts
  pub only : IsOnlyDerivation (IsLiteral t) (a_string (quoted_parts parts))
  pub is_value : body_value parts.items ≡ value
  pub no_suffix : parts.suffix ≡ []

-- The string token of a value `t` is a string whose value is the UTF-8 of `t`.
abbrev pub WrittenTextsAreStrings : Type 0
WrittenTextsAreStrings = (t : List ℕ) → IsStringOf (string_token t) (encode_utf8_all t)
