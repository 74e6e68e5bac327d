-- The literal at the front of a longer text. The Rust Reference, Tokens: "Literals", "Suffixes",
-- "Reserved forms similar to number literals", "Reserved prefixes"; and that a token is the
-- longest.
use Rattle.std.specs.Prelude.{◌≡◌, ℕ, Bool, true, false, not, ◌==◌, ◌&&◌, ◌||◌, List, [], ◌∷◌, ◌++◌, Option, Some, None, IsTrue}
use Rattle.std.specs.Char.{is_ascii_digit}
use Rattle.unicode_ident.specs.Ident.{is_xid_continue}
use Rattle.litrs_base.specs.Characters.{double_quote, single_quote, hash}
use Rattle.litrs_base.specs.Text.{is_empty, first_passes}
use Rattle.litrs_grammar.specs.Suffix.{starts_identifier}
use Rattle.litrs_grammar.specs.Float.{FloatParts, is_period}
use Rattle.litrs_grammar.specs.Integer.{IntegerParts}
use Rattle.litrs_grammar.specs.Literal.{Derivation, a_bool, an_integer, a_float, a_char, a_byte, a_string, a_byte_string, a_c_string, IsLiteral, string_suffix}

-- `true` iff the character would continue the suffix, or begin one if there is none.
abbrev pub is_of_suffix : (none : Bool) → ℕ → Bool
is_of_suffix true = starts_identifier
is_of_suffix false = is_xid_continue

-- `true` iff the suffix ends before the rest.
abbrev pub ends_suffix : (suffix rest : List ℕ) → Bool
ends_suffix suffix rest = not (first_passes (is_of_suffix (is_empty suffix)) rest)

-- `true` for `"`, `'` and `#`, before which a name is a prefix.
abbrev pub is_quote_or_hash : ℕ → Bool
is_quote_or_hash c = (c == double_quote) || (c == single_quote) || (c == hash)

-- `true` iff a bool ends before the rest: it is a whole name, and not a reserved prefix.
abbrev pub ends_bool : List ℕ → Bool
ends_bool rest =
    not (first_passes is_xid_continue rest) && not (first_passes is_quote_or_hash rest)

-- `true` iff a period before the text does not belong to a number: the text starts with another
-- period or a name.
abbrev pub keeps_period : List ℕ → Bool
keeps_period t = first_passes is_period t || first_passes starts_identifier t

-- `true` iff the text starts with a period that an integer before it would take.
abbrev pub gives_period : List ℕ → Bool
gives_period [] = false
gives_period (c ∷ t) = is_period c && not (keeps_period t)

-- `true` iff an integer ends before the rest: no digit follows and, if it has no suffix, no period
-- that it would take.
abbrev pub ends_integer : IntegerParts → List ℕ → Bool
ends_integer d rest =
    not (first_passes is_ascii_digit rest) && not (gives_period rest && is_empty d.suffix)

-- `true` iff the float ends with its period.
abbrev pub is_bare : Option (List ℕ) → Bool
is_bare None = false
is_bare (Some fraction) = is_empty fraction

-- `true` iff a float ends before the rest: no digit follows and, if it ends with its period, no
-- other period.
abbrev pub ends_float : FloatParts → List ℕ → Bool
ends_float d rest =
    not (first_passes is_ascii_digit rest)
    && not (first_passes is_period rest && is_bare d.fraction)

-- `true` iff the rest may follow the literal in a longer text. At most two of its characters
-- decide.
abbrev pub may_follow : Derivation → List ℕ → Bool
may_follow (a_bool b) rest = ends_bool rest
may_follow (an_integer d) rest = ends_suffix d.suffix rest && ends_integer d rest
may_follow (a_float d) rest = ends_suffix d.suffix rest && ends_float d rest
may_follow (a_char d) rest = ends_suffix d.suffix rest
may_follow (a_byte d) rest = ends_suffix d.suffix rest
may_follow (a_string d) rest = ends_suffix (string_suffix d) rest
may_follow (a_byte_string d) rest = ends_suffix (string_suffix d) rest
may_follow (a_c_string d) rest = ends_suffix (string_suffix d) rest

-- `t` is a literal with the derivation `d`, followed by a rest that may follow it.
pub record HasPrefix (t : List ℕ) (d : Derivation) (rest : List ℕ) : Type 0 where
  pub front : List ℕ
  pub spells : front ++ rest ≡ t
  pub literal : IsLiteral front d
  pub follows : IsTrue (may_follow d rest)

-- The text has no literal at its front.
abbrev pub HasNoPrefix : List ℕ → Type 0
HasNoPrefix t = (d : Derivation) (rest : List ℕ) → HasPrefix t d rest → ⊥
