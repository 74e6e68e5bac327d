-- A text that is cut off at one end has fewer characters if it has fewer bytes.
use Rattle.std.proofs.Common.{◌≡◌, ◌<◌, ◌+◌, ℕ, nat_lt, List, [], ◌∷◌, ◌++◌, length, take, drop, refl, sym, ap, subst, ◌∙◌, arith, length-append, lt-ltb, le-ltb}
use Rattle.std.specs.Str.{chars, IsUtf8, IsCharBoundary, encode_utf8_all}
use Rattle.std.proofs.lemmas.List.{take_at, drop_at}
use Rattle.std.proofs.lemmas.Str.{chars-append, chars-nil, encodes-chars, IsUtf8-take, IsUtf8-drop, IsCharBoundary-at_seam, IsCharBoundary-from_take}
use Rattle.litrs_diagnostic.specs.Window.{is_shorter}

-- a text of some bytes has some characters
some_chars : (bs cs : List ℕ) → IsUtf8 bs → chars bs ≡ cs → 0 < length bs → 0 < length cs
some_chars bs [] u is some =
    let size : length bs ≡ 0 = ap length (sym (encodes-chars bs u) ∙ ap encode_utf8_all is) in
    absurd (omega arith)
some_chars bs (c ∷ cs) u is some = omega arith

compared : (part rest whole : List ℕ) → IsUtf8 rest → length whole ≡ length part + length rest →
    length (chars whole) ≡ length (chars part) + length (chars rest) →
    nat_lt (length part) (length whole) ≡ is_shorter (chars part) (chars whole)
compared part [] whole u bytes characters =
    let none : length (chars []) ≡ 0 = ap length chars-nil in
    le-ltb (length part) (length whole) (omega arith)
    ∙ sym (le-ltb (length (chars part)) (length (chars whole)) (omega arith))
compared part (b ∷ rest) whole u bytes characters =
    let some = some_chars (b ∷ rest) (chars (b ∷ rest)) u refl (omega arith) in
    lt-ltb (length part) (length whole) (omega arith)
    ∙ sym (lt-ltb (length (chars part)) (length (chars whole)) (omega arith))

pub shorter_prefix : (part rest whole : List ℕ) → IsUtf8 part → IsUtf8 whole → whole ≡ part ++ rest →
    nat_lt (length part) (length whole) ≡ is_shorter (chars part) (chars whole)
shorter_prefix part rest whole u v is =
    let front : take (length part) whole ≡ part = ap (take (length part)) is ∙ take_at part rest (length part) refl in
    let back : drop (length part) whole ≡ rest = ap (drop (length part)) is ∙ drop_at part rest (length part) refl in
    let cuts : IsCharBoundary whole (length part) =
    IsCharBoundary-from_take whole (length part) v (omega (arith, ap length is, length-append part rest)) (subst IsUtf8 (sym front) u) in
    let utf8 : IsUtf8 rest = subst IsUtf8 back (IsUtf8-drop whole (length part) v cuts) in
    compared part rest whole utf8 (ap length is ∙ length-append part rest)
    (ap (λ (l : List ℕ). length (chars l)) is ∙ (ap length (chars-append part rest u) ∙ length-append (chars part) (chars rest)))

pub shorter_suffix : (part rest whole : List ℕ) → IsUtf8 part → IsUtf8 whole → whole ≡ rest ++ part →
    nat_lt (length part) (length whole) ≡ is_shorter (chars part) (chars whole)
shorter_suffix part rest whole u v is =
    let front : take (length rest) whole ≡ rest = ap (take (length rest)) is ∙ take_at rest part (length rest) refl in
    let utf8 : IsUtf8 rest = subst IsUtf8 front (IsUtf8-take whole (length rest) v (IsCharBoundary-at_seam whole rest part is u)) in
    let bytes = length-append rest part in
    let characters : length (chars whole) ≡ length (chars rest) + length (chars part) =
    ap (λ (l : List ℕ). length (chars l)) is ∙ (ap length (chars-append rest part utf8) ∙ length-append (chars rest) (chars part)) in
    let sum : length whole ≡ length rest + length part = ap length is ∙ bytes in
    compared part rest whole utf8 (omega arith) (omega arith)
