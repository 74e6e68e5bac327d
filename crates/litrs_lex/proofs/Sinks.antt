-- Values in a room and in a container.
use Rattle.std.proofs.Common.{◌≡◌, ℕ, ◌+◌, ◌-◌, ◌≤◌, ◌<◌, Bool, true, false, ◌||◌, List, [], ◌∷◌, ◌++◌, length, drop, take, sym, ap, subst, ◌∙◌, append_assoc, length-append, arith, Option, Some}
use Rattle.std.specs.Prelude.{if◌then◌else◌, encode_utf8, IfSome, IsTrue}
use Rattle.std.specs.Str.{IsUtf8}
use Rattle.std.proofs.Math.Seq.{take-append-add}
use Rattle.std.proofs.Math.Utf8.{low_scalar}
use Rattle.std.proofs.lemmas.Bool.{ltb-true, true≢false}
use Rattle.std.proofs.lemmas.List.{take-take, length-take-le, length-drop}
use Rattle.std.proofs.lemmas.Str.{IsUtf8-encode, IsUtf8-append, encode_ascii, length-encode, len_utf8_bounds}
use Rattle.litrs_base.specs.Characters.{is_ascii}
use Rattle.litrs_base.specs.declared.escape.Unescape.{Unescape}
use Rattle.litrs_base.specs.declared.escape.Unescape.TheVariants.{Byte, Unicode}
use Rattle.litrs_grammar.specs.Escape.{value_bytes}
use Rattle.litrs_lex.specs.Container.{is_pushable, IsFilledTo}

-- if 16 bytes are moved, those after the part do not belong to the value
pub part_moved : (room before text piece : List ℕ) (len start count : ℕ) → piece ≡ take (start + 16 - start) (drop start text) → count ≤ 16 → 16 ≤ length text - start →
    length before ≡ len → take (len + length piece) room ≡ before ++ piece → take (len + count) room ≡ before ++ take count (drop start text)
part_moved room before text piece len start count is few enough size copied =
    let n : start + 16 - start ≡ 16 = omega arith in
    let moved : piece ≡ take 16 (drop start text) = is ∙ ap (λ k. take k (drop start text)) n in
    let long : length piece ≡ 16 = ap length moved ∙ length-take-le 16 (drop start text) (omega (arith, length-drop start text)) in
    sym (take-take (len + count) (len + length piece) room (omega arith)) ∙ (ap (take (len + count)) copied
    ∙ (ap (λ n. take (n + count) (before ++ piece)) (sym size) ∙ (take-append-add before piece count
    ∙ ap (λ l. before ++ l) (ap (take count) moved ∙ take-take count 16 (drop start text) few))))

-- a piece with more bytes
pub piece_grows : (takes : Bool) (contents piece new v part : List ℕ) → new ≡ piece ++ part → (takes ≡ false → IsUtf8 part) → IsFilledTo takes contents piece v →
    IsFilledTo takes contents new (v ++ part)
piece_grows takes contents piece new v part is text held = (
  ap (λ l. contents ++ l) is ∙ (sym (append_assoc contents piece part) ∙ ap (λ l. l ++ part) held.0),
  λ none. subst IsUtf8 (sym is) (IsUtf8-append piece part (held.1 none) (text none)),
)

-- a byte is a text if bytes above 7F are not taken
pub byte_text : (takes : Bool) (b : ℕ) → (takes || is_ascii b) ≡ true → takes ≡ false → IsUtf8 (b ∷ [])
byte_text true b h none = absurd (true≢false none)
byte_text false b h none = let low = ltb-true b 128 h in subst IsUtf8 (encode_ascii b low) (IsUtf8-encode b (low_scalar b (omega arith)))

-- an ASCII character is a text
pub low_text : (c : ℕ) → c < 128 → IsUtf8 (encode_utf8 c)
low_text c low = IsUtf8-encode c (low_scalar c (omega arith))

-- the same bytes, in another form
pub grown : (takes : Bool) (contents piece v a b : List ℕ) → a ≡ b → IsFilledTo takes contents piece (v ++ a) → IsFilledTo takes contents piece (v ++ b)
grown takes contents piece v a b is held = (held.0 ∙ ap (λ l. v ++ l) is, held.1)

-- a part that goes into an empty piece, after the piece before it
pub refilled : (takes : Bool) (contents old piece kept into new v part : List ℕ) → kept ≡ piece → into ≡ contents ++ kept → old ≡ [] → new ≡ old ++ part →
    (takes ≡ false → IsUtf8 part) → IsFilledTo takes contents piece v → IsFilledTo takes into new (v ++ part)
refilled takes contents old piece kept into new v part same flushed empty is text held =
    let whole : new ≡ part = is ∙ ap (λ l. l ++ part) empty in (
      ap (λ l. l ++ new) flushed ∙ (ap (λ l. (contents ++ l) ++ new) same ∙ (ap (λ l. l ++ new) held.0 ∙ ap (λ l. v ++ l) whole)),
      λ none. subst IsUtf8 (sym whole) (text none),
    )

-- a value that may be pushed
pub pushed : (takes : Bool) (given : Option Unescape) (value : Unescape) → given ≡ Some value → IfSome given (λ v. IsTrue (is_pushable takes v)) → IsTrue (is_pushable takes value)
pushed takes given value is pushable = subst (λ o. IfSome o (λ v. IsTrue (is_pushable takes v))) is pushable

-- a value has few bytes
pub few_bytes : (value : Unescape) → length (value_bytes value) ≤ 4
few_bytes (Byte b) = omega arith
few_bytes (Unicode c) = omega (arith, length-encode c, (len_utf8_bounds c).1)

-- more bytes than fit, as a run or as an item
pub longer_by_run : (bytes v : List ℕ) (first room at place : ℕ) → first ≤ room → place ≤ length bytes → room < length v + (place - at) →
    first < length (v ++ take (place - at) (drop at bytes))
longer_by_run bytes v first room at place kept within more =
    let run : length (take (place - at) (drop at bytes)) ≡ place - at = length-take-le (place - at) (drop at bytes) (omega (arith, length-drop at bytes)) in
    omega (arith, length-append v (take (place - at) (drop at bytes)))

pub longer_by_item : (v item : List ℕ) (first room : ℕ) → first ≤ room → room < length v + length item → first < length (v ++ item)
longer_by_item v item first room kept more = omega (arith, length-append v item)

-- a value fits into its container, with a closing zero or without
pub room_of : (no_zero : Bool) (len capacity : ℕ) → capacity ≡ (if no_zero then len else (len + 1)) → len ≤ capacity
room_of true len capacity is = omega arith
room_of false len capacity is = omega arith
