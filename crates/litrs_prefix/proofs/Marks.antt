-- The bytes of the source can be cut at the places that an error at the front of a text marks.
use Rattle.litrs_prefix.proofs.Words.{◌≡◌, add_comm, ℕ, ◌+◌, ◌≤◌, List, ◌++◌, length, take, drop, Option, Some, None, IfSome, IsUtf8, inl, inr, refl, sym, ap, ◌∙◌, length-drop, arith, chars, IsCharBoundary, byte_len, literal_parse, IsMalformedOrOutOfMemory, IsMarkedAt, unwrap_or, Refusal, char_span_of, shifted_span, ParseError, IsRefusedOrOutOfMemory, MalformedPrefix, prefix_span, length-take-le, IsUtf8-drop, IsUtf8-take, IsCharBoundary-start, cut_at}
use Rattle.std.specs.declared.ops.Range.{Range}
use Rattle.std.proofs.lemmas.List.{get_or-take}
use Rattle.std.proofs.lemmas.Str.{IsCharBoundary-from_rest}
use Rattle.litrs_base.specs.CharEnd.{PointsAtCharacters, IsCutBy}
use Rattle.litrs_base.proofs.CharEnds.{points_cut}
use Rattle.litrs_prefix.proofs.Ends.{front_is}

pub cut_in : (bs : List ℕ) (n : ℕ) (span : Range ℕ) → IsCharBoundary bs n → IsCutBy (take n bs) span → IsCutBy bs span
cut_in bs n span end cut = grind (arith, length-take-le, get_or-take)

-- places of what follows `start` bytes
place_after : (bs : List ℕ) (start i : ℕ) → start ≤ length bs → IsCharBoundary (drop start bs) i → IsCharBoundary bs (i + start)
place_after bs start i fits cut = rw (add_comm i start) (IsCharBoundary-from_rest bs start i fits cut)

cut_after : (bs : List ℕ) (start : ℕ) (span : Range ℕ) → start ≤ length bs → IsCutBy (drop start bs) span → IsCutBy bs (record { start = span.start + start; end = span.end + start })
cut_after bs start span fits cut = grind (arith, place_after, length-drop)

-- a span in a front of what follows, moved; or the front, if there is no span
span_cut : (bs front rest : List ℕ) (start : ℕ) (piece : Range ℕ) (o p : Option (Range ℕ)) → IsUtf8 bs → IsCharBoundary bs start → front ++ rest ≡ chars (drop start bs) →
    IsCutBy bs piece → p ≡ shifted_span start o → IfSome o (PointsAtCharacters front) → IsCutBy bs (unwrap_or p piece)
span_cut bs front rest start piece None p utf8 bound spells whole same all = rw same whole
span_cut bs front rest start piece (Some span) p utf8 bound spells whole same all =
    let text : List ℕ = drop start bs in
    let after = IsUtf8-drop bs start utf8 bound in
    let cut = cut_at text front rest after (sym spells) in
    let is = front_is text (byte_len front) front rest after cut.boundary cut.rest spells in
    let inside = points_cut (take (byte_len front) text) span (IsUtf8-take text (byte_len front) after cut.boundary) (rw is all) in
    rw same (cut_after bs start span bound.0 (cut_in text (byte_len front) span cut.boundary inside))

piece_cut : (bs front rest : List ℕ) (start : ℕ) (e : MalformedPrefix) → IsUtf8 bs → IsCharBoundary bs start → front ++ rest ≡ chars (drop start bs) → byte_len front ≡ e.len →
    IsCutBy bs (prefix_span start e)
piece_cut bs front rest start e utf8 bound spells len =
    let cut = cut_at (drop start bs) front rest (IsUtf8-drop bs start utf8 bound) (sym spells) in
    grind (arith, IsCharBoundary-from_rest bs start (byte_len front) bound.0 cut.boundary)

points : (t : List ℕ) (e : ParseError) → IsRefusedOrOutOfMemory literal_parse t e → IfSome (char_span_of e) (PointsAtCharacters t)
points t e (inl is) = is.char_ends
points t e (inr is) = (let none = ap (λ (r : Refusal). r.span) is.error in grind arith)

-- the error of a front of what follows `start` bytes of the text
pub front_marks : (bs front rest : List ℕ) (start : ℕ) (e : MalformedPrefix) (of_text : ParseError) → IsUtf8 bs → IsCharBoundary bs start → front ++ rest ≡ chars (drop start bs) → byte_len front ≡ e.len →
    char_span_of e.error ≡ shifted_span start (char_span_of of_text) → IsRefusedOrOutOfMemory literal_parse front of_text → IsMarkedAt start bs e
front_marks bs front rest start e of_text utf8 bound spells len same refused =
    grind (arith, piece_cut bs front rest start e utf8 bound spells len, span_cut bs front rest start (prefix_span start e) (char_span_of of_text) (char_span_of e.error) utf8 bound spells, points front of_text refused)

-- the error of what follows `start` bytes of the text
pub moved_marks : (bs : List ℕ) (start : ℕ) (e f : MalformedPrefix) → IsUtf8 bs → IsCharBoundary bs start → IsMalformedOrOutOfMemory (chars (drop start bs)) f → e.len ≡ f.len →
    char_span_of e.error ≡ shifted_span start (char_span_of f.error) → IsMarkedAt start bs e
moved_marks bs start e f utf8 bound (inl is) len same = front_marks bs is.front is.rest start e f.error utf8 bound is.spells (is.len ∙ sym len) same (inl is.refused)
moved_marks bs start e f utf8 bound (inr is) len same = front_marks bs is.front is.rest start e f.error utf8 bound is.spells (is.len ∙ sym len) same (inr is.refused)

-- the error of the text
pub malformed_marks : (bs : List ℕ) (e : MalformedPrefix) → IsUtf8 bs → IsMalformedOrOutOfMemory (chars bs) e → IsMarkedAt 0 bs e
malformed_marks bs e utf8 is = moved_marks bs 0 e e utf8 (IsCharBoundary-start bs utf8) is refl (grind arith)
