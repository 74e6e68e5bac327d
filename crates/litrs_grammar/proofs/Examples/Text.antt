-- Characters, texts and spans by computation.
use Rattle.std.proofs.Common.{arith}
use Rattle.std.proofs.lemmas.Bool.{false≢true}
use Rattle.std.specs.Prelude.{◌≡◌, ℕ, [], ◌∷◌, codes, refl, true, false}
use Rattle.std.specs.declared.ops.Range.{Range}
use Rattle.litrs_base.specs.Characters.{nul, tab, line_feed, carriage_return, space, double_quote, hash, single_quote, plus, minus, period, digit_zero, capital_e, backslash, underscore, letter_b, letter_c, letter_e, letter_n, letter_r, letter_t, letter_u, letter_x, open_brace, close_brace, is_ascii, is_scalar, fits_charset, nul_is_allowed}
use Rattle.litrs_base.specs.Text.{IsText, byte_len, is_empty, first_passes, begins_with, is_text}
use Rattle.litrs_base.specs.CharEnd.{PointsAtCharacters}
use Rattle.litrs_grammar.proofs.Computing.{computing}

-- Characters

named :
    (nul ∷ tab ∷ line_feed ∷ carriage_return ∷ space ∷ double_quote ∷ hash ∷ single_quote ∷ plus ∷ minus ∷ period ∷ digit_zero ∷ []
    ≡ codes "\0\t\n\r \"#'+-.0")
    × (capital_e ∷ backslash ∷ underscore ∷ letter_b ∷ letter_c ∷ letter_e ∷ letter_n ∷ letter_r ∷ letter_t ∷ letter_u ∷ letter_x ∷ open_brace ∷ close_brace ∷ []
    ≡ codes "E\\_bcenrtux{}")
named = (refl, refl)

ascii :
    (is_ascii 127 ≡ true)
    × (is_ascii 128 ≡ false)
    × (fits_charset true 128 ≡ true)
    × (fits_charset false 128 ≡ false)
    × (fits_charset false 127 ≡ true)
ascii = (refl, refl, refl, refl, refl)

not_nul :
    (nul_is_allowed true 0 ≡ true)
    × (nul_is_allowed false 0 ≡ false)
    × (nul_is_allowed false 1 ≡ true)
not_nul = (refl, refl, refl)

scalars :
    (is_scalar 0 ≡ true)
    × (is_scalar 0xD7FF ≡ true)
    × (is_scalar 0xD800 ≡ false)
    × (is_scalar 0xDFFF ≡ false)
    × (is_scalar 0xE000 ≡ true)
    × (is_scalar 0x10FFFF ≡ true)
    × (is_scalar 0x110000 ≡ false)
scalars = (refl, refl, refl, refl, refl, refl, refl)

-- Texts

texts : IsText [] × IsText (codes "a🦊") × ¬ IsText (0xD800 ∷ []) × ¬ IsText (97 ∷ 0xD800 ∷ []) × ¬ IsText (0x110000 ∷ 97 ∷ [])
texts = (refl, refl, λ h. absurd (false≢true h), λ h. absurd (false≢true h), λ h. absurd (false≢true h))

lengths :
    (byte_len [] ≡ 0)
    × (byte_len (codes "a") ≡ 1)
    × (byte_len (codes "é") ≡ 2)
    × (byte_len (codes "క") ≡ 3)
    × (byte_len (codes "🦊") ≡ 4)
    × (byte_len (codes "aé🦊") ≡ 7)
unfolding computing
lengths = (refl, refl, refl, refl, refl, refl)

tests :
    (is_empty [] ≡ true)
    × (is_empty (codes "a") ≡ false)
    × (first_passes is_ascii [] ≡ false)
    × (first_passes is_ascii (codes "aé") ≡ true)
    × (first_passes is_ascii (codes "éa") ≡ false)
    × (begins_with [] [] ≡ true)
    × (begins_with [] (codes "a") ≡ true)
    × (begins_with (codes "ab") (codes "abc") ≡ true)
    × (begins_with (codes "ab") (codes "a") ≡ false)
    × (begins_with (codes "ab") (codes "acb") ≡ false)
    × (is_text (codes "ab") (codes "ab") ≡ true)
    × (is_text (codes "ab") (codes "abc") ≡ false)
    × (is_text (codes "ab") (codes "a") ≡ false)
    × (is_text (codes "ab") (codes "ac") ≡ false)
tests = (refl, refl, refl, refl, refl, refl, refl, refl, refl, refl, refl, refl, refl, refl)

-- Spans that do not begin or end on character boundaries, that end before they start or after the text

abbrev span : ℕ → ℕ → Range ℕ
span start end = record { start = start; end = end }

not_at_characters :
    ¬ PointsAtCharacters (codes "é") (span 0 1)
    × ¬ PointsAtCharacters (codes "é") (span 1 2)
    × ¬ PointsAtCharacters (codes "ab") (span 2 1)
    × ¬ PointsAtCharacters (codes "ab") (span 0 3)
unfolding computing
not_at_characters = (
  λ p. absurd (omega (arith, p.end.1 (omega arith) (omega arith))),
  λ p. absurd (omega (arith, p.start.1 (omega arith) (omega arith))),
  λ p. absurd (omega (arith, p.in_order)),
  λ p. absurd (omega (arith, p.within)),
)
