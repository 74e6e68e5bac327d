-- The places of the parts of a literal, by the sizes of their bytes.
use Rattle.std.proofs.Common.{◌≡◌, ℕ, ◌+◌, ◌-◌, ◌≤◌, List, ◌++◌, length, refl, ap, subst, ◌∙◌, arith}
use Rattle.std.specs.Prelude.{Option, Some}
use Rattle.std.specs.Str.{chars, IsUtf8}
use Rattle.litrs_base.specs.Text.{byte_len}
use Rattle.litrs_grammar.specs.Float.{FloatParts, fraction_text, number_part}
use Rattle.litrs_grammar.specs.Literal.{Derivation, a_float, IsLiteral, suffix_of}
use Rattle.litrs_c.specs.declared.Place.{Place}
use Rattle.litrs_c.specs.Places.{place_of, fraction_after, exponent_place, IsSuffixPlace}
use Rattle.litrs_c.proofs.Sizes.{length-chars, byte_len-after, suffix_fits}

-- from one place to another
abbrev between : ℕ → ℕ → Place
between start end = record { start = start; end = end }

pub place_by_size : (start : ℕ) (part : List ℕ) → IsUtf8 part → between start (start + length part) ≡ place_of start (chars part)
place_by_size start part utf8 = ap (λ (n : ℕ). between start (start + n)) (length-chars part (chars part) utf8 refl)

pub fraction_found : (integer bytes digits : List ℕ) (fraction : Option (List ℕ)) (place : Place) → IsUtf8 bytes → chars bytes ≡ integer →
    Some digits ≡ fraction → place ≡ place_of (length bytes + 1) digits → place ≡ fraction_after integer fraction
fraction_found integer bytes digits fraction place utf8 is found made =
    subst (λ (o : Option (List ℕ)). place ≡ fraction_after integer o) found (made ∙ ap (λ (n : ℕ). place_of (n + 1) digits) (length-chars bytes integer utf8 is))

-- the text before the exponent, and the exponent, are the number
exponent_size : (d : FloatParts) (number exponent : List ℕ) → IsUtf8 number → IsUtf8 exponent → chars number ≡ number_part d → chars exponent ≡ d.exponent →
    byte_len (d.integer ++ fraction_text d.fraction) + length exponent ≡ length number
exponent_size d number exponent number_utf8 utf8 number_is is =
    let whole : length number ≡ byte_len (number_part d) = length-chars number (number_part d) number_utf8 number_is in
    let part : length exponent ≡ byte_len d.exponent = length-chars exponent d.exponent utf8 is in
    let sum : byte_len (number_part d) ≡ byte_len (d.integer ++ fraction_text d.fraction) + byte_len d.exponent = byte_len-after d.integer (fraction_text d.fraction) d.exponent in
    omega arith

pub exponent_fits : (d : FloatParts) (number exponent : List ℕ) → IsUtf8 number → IsUtf8 exponent → chars number ≡ number_part d → chars exponent ≡ d.exponent →
    length exponent ≤ length number
exponent_fits d number exponent number_utf8 utf8 number_is is =
    let sum : byte_len (d.integer ++ fraction_text d.fraction) + length exponent ≡ length number = exponent_size d number exponent number_utf8 utf8 number_is is in
    omega arith

pub exponent_found : (d : FloatParts) (number exponent : List ℕ) → IsUtf8 number → IsUtf8 exponent → chars number ≡ number_part d → chars exponent ≡ d.exponent →
    between (length number - length exponent) (length number) ≡ exponent_place (a_float d)
exponent_found d number exponent number_utf8 utf8 number_is is =
    let before : ℕ = byte_len (d.integer ++ fraction_text d.fraction) in
    let sum : before + length exponent ≡ length number = exponent_size d number exponent number_utf8 utf8 number_is is in
    let start : length number - length exponent ≡ before = omega arith in
    ap (λ (n : ℕ). between n (length number)) start
    ∙ ap (λ (n : ℕ). between before n) (length-chars number (number_part d) number_utf8 number_is)

pub suffix_within : (bytes suffix : List ℕ) (d : Derivation) → IsUtf8 bytes → IsUtf8 suffix → chars suffix ≡ suffix_of d → IsLiteral (chars bytes) d →
    length suffix ≤ length bytes
suffix_within bytes suffix d utf8 suffix_utf8 is literal =
    let fits = suffix_fits bytes suffix d utf8 suffix_utf8 is literal in
    let sum : fits.0 + length suffix ≡ length bytes = fits.1 in
    omega arith

pub suffix_found : (raw bytes suffix : List ℕ) (d : Derivation) → bytes ≡ raw → IsUtf8 bytes → IsUtf8 suffix → chars suffix ≡ suffix_of d → IsLiteral (chars bytes) d →
    IsSuffixPlace (length raw) d (between (length bytes - length suffix) (length bytes))
suffix_found raw bytes suffix d same utf8 suffix_utf8 is literal =
    let fits = suffix_fits bytes suffix d utf8 suffix_utf8 is literal in
    let sum : fits.0 + length suffix ≡ length bytes = fits.1 in
    let size : length suffix ≡ byte_len (suffix_of d) = fits.2 in
    let len : length bytes ≡ length raw = ap length same in
    record { start = omega arith; end = len }
