-- The text before a delimiter is a front of the text.
use Rattle.litrs_prefix.proofs.Words.{◌≡◌, take_at, cases_Bool, inl, inr, ℕ, ◌-◌, ◌&&◌, List, [], ◌∷◌, ◌++◌, length, take, refl, sym, append_assoc, length-append, arith, ◌==◌, if◌then◌else◌, chars, IsUtf8, drop_trailing_whitespace, IsEndOf, opens, from_first, after_literal, from_delimiter, before_delimiter, StartsWithDelimiter, is_whitespace}
use Rattle.std.specs.Str.{trim_end}
use Rattle.std.proofs.lemmas.Str.{chars_from_encodes}
use Rattle.litrs_prefix.proofs.Ends.{all as whole, bytes_spell, end_of_end}
use Rattle.litrs_prefix.proofs.PieceEnds.{EndsAt, ends_at, next, either, opened_piece}

-- the searched text ends with the text, and so does the found rest
found_end : (ds : List ℕ) (t : List ℕ) → IsEndOf t (from_first ds t)
found_end ds [] = ([], refl)
found_end ds (c ∷ t) = either _ _ _ _ (whole (c ∷ t)) (next c t _ (found_end ds t))

literal_end : (t : List ℕ) → IsEndOf t (after_literal t)
literal_end t = elim (cases_Bool (opens t)) [
  | inl is ↦ (let piece = opened_piece t is in rw is (piece.first ∷ piece.piece, piece.spells))
  | inr is ↦ rw is (whole t)
]

pub delimiter_end : (ds t : List ℕ) → IsEndOf t (from_delimiter ds t)
delimiter_end ds t = end_of_end t (after_literal t) _ (literal_end t) (found_end ds (after_literal t))

-- a delimiter comes first in what is found
pub starts_with_delimiter : (ds t : List ℕ) → StartsWithDelimiter ds (from_first ds t)
starts_with_delimiter ds [] = refl
starts_with_delimiter ds (c ∷ t) = grind (arith, starts_with_delimiter ds t)

-- the white space at the end of a text
trailing : (t : List ℕ) → (white : List ℕ) × (drop_trailing_whitespace t ++ white ≡ t)
trailing [] = ([], refl)
trailing (c ∷ t) = ((if is_whitespace c && (length (drop_trailing_whitespace t) == 0) then c ∷ t else (trailing t).0), grind (arith, trailing t))

-- a text without its end
before_end : (t x : List ℕ) → IsEndOf t x → take (length t - length x) t ++ x ≡ t
before_end t x end = grind (arith, take_at end.0 x, length-append end.0 x)

-- the text before a delimiter, and all that follows it
pub before_front : (ds t : List ℕ) → (more : List ℕ) × (before_delimiter ds t ++ more ≡ t)
before_front ds t =
    let x : List ℕ = from_delimiter ds t in
    let white = trailing (take (length t - length x) t) in
    (white.0 ++ x, grind (arith, append_assoc, before_end t x (delimiter_end ds t)))

-- a text without the white space at its end, in bytes
pub trimmed : (bs r : List ℕ) → IsUtf8 r → r ≡ trim_end bs → chars r ≡ drop_trailing_whitespace (chars bs)
unfolding trim_end
trimmed bs r u is = sym (chars_from_encodes (drop_trailing_whitespace (chars bs)) r u (sym is))

-- the place of the delimiter, in bytes
pub delimiter_at : (ds text after rest : List ℕ) → IsUtf8 text → IsUtf8 rest → after ≡ after_literal (chars text) → chars rest ≡ from_first ds after →
    EndsAt text rest (take (length (chars text) - length (from_delimiter ds (chars text))) (chars text)) × IsEndOf text rest
delimiter_at ds text after rest u v is from =
    let front : List ℕ = take (length (chars text) - length (from_delimiter ds (chars text))) (chars text) in
    let spells : front ++ chars rest ≡ chars text = rw (from, is) (before_end (chars text) _ (delimiter_end ds (chars text))) in
    (ends_at text rest front u v spells, (_, bytes_spell text rest front u v spells))
