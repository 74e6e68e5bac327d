-- A part of a text can be cut where the text can.
use Rattle.std.proofs.Common.{◌≡◌, ◌∙◌, ℕ, ◌+◌, ◌-◌, ◌≤◌, List, [], length, take, drop, ap, sym, subst, length-drop, arith}
use Rattle.std.specs.Prelude.{slice_index, slice_range}
use Rattle.std.specs.Str.{chars, IsUtf8, IsCharBoundary}
use Rattle.std.specs.declared.ops.Range.{Range}
use Rattle.std.proofs.lemmas.List.{get_or-take, get_or-drop, length-take-le}
use Rattle.std.proofs.lemmas.Str.{chars-nil, IsCharBoundary-start, IsCharBoundary-from_rest}
use Rattle.litrs_base.specs.CharEnd.{IsCutBy}
use Rattle.litrs_diagnostic.specs.Position.{line_number, column_in}
use Rattle.litrs_prefix.proofs.Marks.{cut_in}
use Rattle.litrs_explain.specs.Places.{IsMark}
use Rattle.litrs_explain.specs.declared.explainer.Mark.{Mark}

boundary_before : (text : List ℕ) (n i : ℕ) → n ≤ length text → i ≤ n → IsCharBoundary text i → IsCharBoundary (take n text) i
boundary_before text n i fits within cut =
    let size : length (take n text) ≡ n = length-take-le n text fits in (
      omega (arith, size, within),
      λ inside high. (
          let same : slice_index (take n text) i ≡ slice_index text i = get_or-take n text i 0 (omega (arith, size, inside)) in
          let h = cut.1 (omega (arith, size, inside, fits)) (omega (arith, same, high)) in
          omega (arith, same, h)),
    )

boundary_after : (text : List ℕ) (start i : ℕ) → start ≤ length text → IsCharBoundary text (start + i) → IsCharBoundary (drop start text) i
boundary_after text start i fits cut =
    let size : length (drop start text) ≡ length text - start = length-drop start text in (
      omega (arith, size, fits, cut.0),
      λ inside high. (
          let same : slice_index (drop start text) i ≡ slice_index text (start + i) = get_or-drop start text i 0 in
          let h = cut.1 (omega (arith, size, inside, fits)) (omega (arith, same, high)) in
          omega (arith, same, h)),
    )

boundary_within : (text : List ℕ) (start end i : ℕ) → end ≤ length text → start ≤ i → i ≤ end → IsCharBoundary text i → IsCharBoundary (slice_range text start end) (i - start)
boundary_within text start end i fits low high cut =
    let place : i ≡ start + (i - start) = omega (arith, low) in
    boundary_before (drop start text) (end - start) (i - start) (omega (arith, length-drop start text, fits, low, high)) (omega (arith, low, high))
    (boundary_after text start (i - start) (omega (arith, low, high, fits)) (subst (IsCharBoundary text) place cut))

-- The text between two places can be cut by a span between them.
pub cut_within : (text : List ℕ) (start end : ℕ) (span : Range ℕ) → end ≤ length text → start ≤ span.start → span.end ≤ end → IsCutBy text span →
    IsCutBy (slice_range text start end) (record { start = span.start - start; end = span.end - start })
cut_within text start end span fits low high cut =
    let order = cut.in_order in
    let last = boundary_within text start end span.end fits (omega (arith, low, order)) high cut.end in
    record {
      start = boundary_within text start end span.start fits low (omega (arith, high, order)) cut.start;
      end = last;
      in_order = omega (arith, low, order);
      within = last.0;
    }

-- A span that cuts a part of a text cuts the text.
pub cut_of_part : (text : List ℕ) (piece span : Range ℕ) → IsCutBy text piece → IsCutBy (slice_range text piece.start piece.end) span →
    IsCutBy text (record { start = piece.start + span.start; end = piece.start + span.end })
cut_of_part text piece span whole part =
    let start = piece.start in
    let fits = whole.start.0 in
    let order = whole.in_order in
    let place : piece.end ≡ start + (piece.end - start) = omega (arith, order) in
    let end : IsCharBoundary (drop start text) (piece.end - start) = boundary_after text start (piece.end - start) fits (subst (IsCharBoundary text) place whole.end) in
    let inside : IsCutBy (drop start text) span = cut_in (drop start text) (piece.end - start) span end part in
    let last = IsCharBoundary-from_rest text start span.end fits inside.end in
    record {
      start = IsCharBoundary-from_rest text start span.start fits inside.start;
      end = last;
      in_order = omega (arith, inside.in_order);
      within = last.0;
    }

-- The start of a text is a mark before each place.
pub start_mark : (text : List ℕ) (at : ℕ) (mark : Mark) → IsUtf8 text → mark.at ≡ 0 → IsMark text at mark
start_mark text at mark utf8 start = record {
  boundary = subst (IsCharBoundary text) (sym start) (IsCharBoundary-start text utf8);
  before = omega (arith, start);
}

-- nothing is between a place and itself
no_part : (text : List ℕ) (at : ℕ) → chars (slice_range text at at) ≡ []
no_part text at =
    let none : at - at ≡ 0 = omega arith in
    ap (λ (n : ℕ). chars (take n (drop at text))) none ∙ chars-nil

-- so its line and its column stay
pub line_stays : (line : ℕ) (text : List ℕ) (at : ℕ) → line ≡ line_number line (chars (slice_range text at at))
line_stays line text at =
    let is = ap (line_number line) (no_part text at) in
    omega (arith, is)

pub column_stays : (column : ℕ) (text : List ℕ) (at : ℕ) → column ≡ column_in column (chars (slice_range text at at))
unfolding column_in
column_stays column text at =
    let is = ap (column_in column) (no_part text at) in
    omega (arith, is)
