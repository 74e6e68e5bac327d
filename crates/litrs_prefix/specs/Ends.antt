-- The ends of literals, as the code finds them.
use Rattle.std.specs.Prelude.{◌≡◌, ℕ, Bool, true, false, not, ◌==◌, ◌&&◌, List, [], ◌∷◌, ◌++◌, drop, if◌then◌else◌, IsTrue, IsFalse}
use Rattle.std.specs.List.{prefix_len}
use Rattle.std.specs.Str.{chars, IsUtf8, IsCharBoundary}
use Rattle.unicode_ident.specs.Ident.{is_xid_continue}
use Rattle.litrs_base.specs.Characters.{single_quote, backslash, line_feed}
use Rattle.litrs_base.specs.Text.{first_passes}
use Rattle.litrs_base.specs.declared.quotes.CharKind.{CharKind}
use Rattle.litrs_grammar.specs.CharByte.{CharItem, char_item_text, is_char_item}
use Rattle.litrs_grammar.specs.Float.{is_decimal_char, is_period, is_sign}
use Rattle.litrs_grammar.specs.Integer.{is_e}
use Rattle.litrs_grammar.specs.Literal.{Derivation}
use Rattle.litrs_prefix.specs.Prefix.{HasPrefix}

-- The second text is the end of the first.
abbrev pub IsEndOf : (text rest : List ℕ) → Type 0
IsEndOf text rest = (front : List ℕ) × (front ++ rest ≡ text)

-- The part of a text after the decimal digits and underscores at its front.
abbrev pub after_digits : List ℕ → List ℕ
after_digits t = drop (prefix_len is_decimal_char t) t

-- The part of a text after a period at its front, and the digits and underscores after it.
abbrev pub after_fraction : List ℕ → List ℕ
after_fraction [] = []
after_fraction (c ∷ t) = if is_period c then after_digits t else (c ∷ t)

-- The part of a text after the sign at its front.
abbrev pub after_sign : List ℕ → List ℕ
after_sign [] = []
after_sign (c ∷ t) = if is_sign c then t else (c ∷ t)

-- The part of a text after the exponent at its front, which need not have a digit.
abbrev pub after_exponent : List ℕ → List ℕ
after_exponent [] = []
after_exponent (c ∷ t) = if is_e c then after_digits (after_sign t) else (c ∷ t)

-- The text after the first `quote` that is not escaped, or the empty text if there is none. If
-- `in_line`, it is the rest from the end of the line on if the line has none. If `escaped`, a
-- backslash precedes the text.
abbrev pub past_closing : (quote : ℕ) (in_line escaped : Bool) → List ℕ → List ℕ
past_closing quote in_line escaped [] = []
past_closing quote in_line escaped (c ∷ t) =
    if in_line && (c == line_feed) then c ∷ t
    else if (c == quote) && not escaped then t
    else past_closing quote in_line ((c == backslash) && not escaped) t

-- Like `past_closing`, in the whole text.
abbrev pub past_quote : (quote : ℕ) (escaped : Bool) → List ℕ → List ℕ
past_quote quote = past_closing quote false

-- Like `past_closing`, for a `'` in the line.
abbrev pub past_single_quote : (escaped : Bool) → List ℕ → List ℕ
past_single_quote = past_closing single_quote true

-- The rest starts at this place of the text with these bytes.
abbrev pub EndsBefore : (bytes rest : List ℕ) → ℕ → Type 0
EndsBefore bytes rest end = IsCharBoundary bytes end × (chars (drop end bytes) ≡ rest)

-- The text with these bytes starts with the item of a char or a byte, and has this rest.
pub record IsItemBefore (kind : CharKind) (bytes rest : List ℕ) : Type 0 where
  pub item : CharItem
  pub grammar : IsTrue (is_char_item kind item)
  pub spells : char_item_text item ++ chars rest ≡ chars bytes

-- A literal is at the front of the text with these bytes, before this rest, if the rest does not
-- continue a name.
pub record IsPlainEnd (bytes rest : List ℕ) : Type 0 where
  pub utf8 : IsUtf8 rest
  pub literal : IsFalse (first_passes is_xid_continue (chars rest)) →
      (d : Derivation) × HasPrefix (chars bytes) d (chars rest)

-- Each literal at the front of the text has this rest.
abbrev pub IsOnlyRest : (t rest : List ℕ) → Type 0
IsOnlyRest t rest = (d : Derivation) (r : List ℕ) → HasPrefix t d r → r ≡ rest
