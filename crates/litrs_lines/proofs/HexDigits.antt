-- The digits of the crate `hex` are those of a report.
use Rattle.std.proofs.Common.{◌≡◌, ℕ, zero, suc, ◌<◌, ◌/◌, ◌%◌, ◌==◌, ◌&&◌, Bool, true, inl, inr, List, [], ◌∷◌, ◌++◌, refl, sym, ap, ◌∙◌, append_assoc, arith}
use Rattle.std.specs.Char.{digit_char}
use Rattle.std.specs.Prelude.{slice_index}
use Rattle.std.specs.Str.{IsAscii, IsUtf8}
use Rattle.std.proofs.lemmas.Bool.{and_parts, cases_lt, eqb-true}
use Rattle.std.proofs.lemmas.Grind.{flat_map-append}
use Rattle.std.proofs.lemmas.List.{get_or_past}
use Rattle.std.proofs.lemmas.Str.{IsUtf8-from_ascii}
use Rattle.hex.specs.Hex.{IsBytes, encode_lower, encode_with, lower_digits}
use Rattle.hex.proofs.HexLemmas.{IsAscii-encode_with}
use Rattle.litrs_lines.specs.Report.{hex_byte, hex_bytes}

-- `true` if the first n digits are the same
same_digits : ℕ → Bool
same_digits zero = true
same_digits (suc n) = (slice_index lower_digits n == digit_char n) && same_digits n

same_digits-at : (n d : ℕ) → same_digits n ≡ true → d < n → slice_index lower_digits d ≡ digit_char d
unfolding same_digits
same_digits-at zero d same below = absurd (omega arith)
same_digits-at (suc n) d same below =
    let parts = and_parts (slice_index lower_digits n == digit_char n) (same_digits n) same in
    elim (cases_lt d n) [
      | inl less ↦ same_digits-at n d parts.1 less
      | inr last ↦ let e : d ≡ n = omega arith in rw e (eqb-true (slice_index lower_digits n) (digit_char n) parts.0)
    ]

pub encode_lower-is : (bytes : List ℕ) → IsBytes bytes → encode_lower bytes ≡ hex_bytes bytes
unfolding encode_with same_digits
encode_lower-is [] all = refl
encode_lower-is (b ∷ rest) all =
    let fits : b < 256 = all 0 in
    let high = same_digits-at 16 (b / 16) refl (omega arith) in
    let low = same_digits-at 16 (b % 16) refl (omega arith) in
    rw (high, low) (ap (λ (t : List ℕ). hex_byte b ++ t) (encode_lower-is rest (λ i. all (suc i))))

IsAscii-lower_digits : IsAscii lower_digits
unfolding same_digits
IsAscii-lower_digits i =
    elim (cases_lt i 16) [
      | inl below ↦ rw (same_digits-at 16 i refl below) (grind (arith))
      | inr past ↦ rw (get_or_past lower_digits i 0 past) (omega arith)
    ]

pub IsUtf8-encode_lower : (bytes : List ℕ) → IsUtf8 (encode_lower bytes)
IsUtf8-encode_lower bytes = IsUtf8-from_ascii (encode_lower bytes) (IsAscii-encode_with lower_digits bytes IsAscii-lower_digits)

-- one more piece
pub hex_piece : (old now next piece rest all : List ℕ) → all ≡ piece ++ rest → next ≡ now ++ hex_bytes piece → now ++ hex_bytes all ≡ old → next ++ hex_bytes rest ≡ old
hex_piece old now next piece rest all parts more so_far =
    ap (λ (xs : List ℕ). xs ++ hex_bytes rest) more ∙ append_assoc now (hex_bytes piece) (hex_bytes rest)
    ∙ ap (λ (xs : List ℕ). now ++ xs) (sym (ap hex_bytes parts ∙ flat_map-append hex_byte piece rest)) ∙ so_far
