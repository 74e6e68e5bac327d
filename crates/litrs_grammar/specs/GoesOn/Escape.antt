-- The refused escapes that begin an escape. The Rust Reference, Tokens, Literals, the tables of
-- escapes. It does not define refusals.
use Rattle.std.specs.Prelude.{◌≡◌, ℕ, ◌+◌, Bool, true, false, ◌&&◌, ◌||◌, ◌==◌, nat_le, List, [], ◌∷◌, ◌++◌, count_by}
use Rattle.std.specs.Char.{is_ascii_hexdigit}
use Rattle.std.specs.List.{list_all}
use Rattle.litrs_base.specs.Characters.{digit_zero, letter_u, letter_x, open_brace}
use Rattle.litrs_base.specs.Text.{is_empty, first_passes}
use Rattle.litrs_base.specs.declared.quotes.Switches.{Switches}
use Rattle.litrs_grammar.specs.Escape.{Escape, unicode_escape, escape_text, is_escape, IsEscape, allows_byte, pair_value, is_hex_or_underscore}

-- `t` begins an escape iff `t` followed by some text, which may be empty, is one.
abbrev pub BeginsEscape : Switches → List ℕ → Type 0
BeginsEscape w t = (e : Escape) × (more : List ℕ) × (t ++ more ≡ escape_text e) × IsEscape w e

-- After `\u{`, without a `}`: nothing, or hex digits and underscores that start with a digit. They
-- have at most five digits, so that one more can make the value valid, or a `}` makes them an
-- escape.
abbrev pub inner_goes_on : Switches → List ℕ → Bool
inner_goes_on w t =
    w.unicode
    && (is_empty t
    || ((first_passes is_ascii_hexdigit t && list_all is_hex_or_underscore t
    && nat_le (count_by is_ascii_hexdigit t) 5)
    || is_escape w (unicode_escape t)))

-- After `\x`: nothing, or one hex digit that another one completes to an allowed byte. The digit 1
-- does so if any does: it is small, and never makes the value 0.
abbrev pub hex_goes_on : Switches → List ℕ → Bool
hex_goes_on w [] = true
hex_goes_on w (high ∷ []) =
    is_ascii_hexdigit high && allows_byte w (pair_value high (digit_zero + 1))
hex_goes_on w (high ∷ low ∷ t) = false

-- After `\u`: nothing, or an open brace and a text that can be continued.
abbrev pub braces_go_on : Switches → List ℕ → Bool
braces_go_on w [] = true
braces_go_on w (c ∷ t) = (c == open_brace) && inner_goes_on w t

-- After the backslash of a refused escape: nothing, or `x` (or `u`, if Unicode escapes are on) and
-- a text that can be continued.
abbrev pub escape_goes_on : Switches → List ℕ → Bool
escape_goes_on w [] = true
escape_goes_on w (c ∷ t) =
    ((c == letter_x) && hex_goes_on w t)
    || ((c == letter_u) && (w.unicode && braces_go_on w t))
