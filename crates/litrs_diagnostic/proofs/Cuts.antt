-- A text that is cut at both ends of a range.
use Rattle.std.proofs.Common.{◌≡◌, ◌≤◌, ◌+◌, ◌-◌, ℕ, Bool, true, false, ◌&&◌, cond, eqb, get_or, inl, inr, true≢false, min, ◌∷◌, List, [], ◌++◌, length, take, drop, refl, sym, ap, subst, ◌∙◌, arith, append_assoc, length-append, length-drop, length-take, drop-drop}
use Rattle.std.specs.List.{slice_range}
use Rattle.std.specs.Str.{chars, IsUtf8, IsCharBoundary}
use Rattle.std.proofs.lemmas.Bool.{cases_lt}
use Rattle.std.proofs.lemmas.List.{take-append-drop, take_at, drop_at}
use Rattle.std.proofs.lemmas.Str.{chars-append, IsUtf8-append, IsUtf8-between, IsUtf8-drop, IsCharBoundary-at_seam}
use Rattle.litrs_base.specs.Text.{first_passes}
use Rattle.litrs_diagnostic.specs.Position.{is_line_feed, last_line}
use Rattle.litrs_diagnostic.specs.Line.{Line, first_line, is_carriage_return, is_in_line_end, last_passes, before_line_end, place_on_line, without_line_end, start_line, end_line, start_line_at, end_line_at}

-- the text after the start of the range: the range, and the text after its end
pub record IsCutAtEnd (bs : List ℕ) (start end : ℕ) : Type 0 where
  pub whole : drop start bs ≡ slice_range bs start end ++ drop end bs
  pub characters : chars (drop start bs) ≡ chars (slice_range bs start end) ++ chars (drop end bs)
  pub len : length (slice_range bs start end) ≡ end - start
  pub boundary : IsCharBoundary (drop start bs) (end - start)

pub cut_at_end : (bs : List ℕ) (start end : ℕ) → IsUtf8 bs → IsCharBoundary bs start →
    IsCharBoundary bs end → start ≤ end → IsCutAtEnd bs start end
cut_at_end bs start end u on_start on_end order =
    let sum : start + (end - start) ≡ end = omega arith in
    let past : drop (end - start) (drop start bs) ≡ drop end bs = drop-drop (end - start) start bs
    ∙ ap (λ (n : ℕ). drop n bs) sum in
    let whole : drop start bs ≡ slice_range bs start end ++ drop end bs =
    sym (take-append-drop (end - start) (drop start bs))
    ∙ ap (λ (l : List ℕ). slice_range bs start end ++ l) past in
    let len : length (slice_range bs start end) ≡ end - start =
    length-take (end - start) (drop start bs) ∙ (let all = length-drop start bs in
    let within = on_end.0 in omega arith) in
    record {
      whole = whole;
      characters = ap chars whole ∙ chars-append (slice_range bs start end) (drop end bs)
          (IsUtf8-between bs start end u order on_start on_end);
      len = len;
      boundary =
          subst (IsCharBoundary (drop start bs)) len
          (IsCharBoundary-at_seam (drop start bs) (slice_range bs start end) (drop end bs) whole
          (IsUtf8-drop bs end u on_end));
    }

-- the end m of the range, and what is after it
pub record IsCutWithin (bs m : List ℕ) (end : ℕ) : Type 0 where
  pub fits : length m ≤ end
  pub boundary : IsCharBoundary bs (end - length m)
  pub whole : drop (end - length m) bs ≡ m ++ drop end bs
  pub characters : chars (drop (end - length m) bs) ≡ chars m ++ chars (drop end bs)
  pub cuts : IsCharBoundary (drop (end - length m) bs) (length m)
  pub mark : take (length m) (drop (end - length m) bs) ≡ m

pub cut_within_range : (bs f m : List ℕ) (start end : ℕ) → IsUtf8 bs → IsCharBoundary bs start →
    IsCharBoundary bs end → start ≤ end →
    IsUtf8 m → slice_range bs start end ≡ f ++ m → IsCutWithin bs m end
cut_within_range bs f m start end u on_start on_end order v parts =
    let cut = cut_at_end bs start end u on_start on_end order in
    let after : IsUtf8 (drop end bs) = IsUtf8-drop bs end u on_end in
    let both : drop start bs ≡ f ++ (m ++ drop end bs) = cut.whole
    ∙ (ap (λ (l : List ℕ). l ++ drop end bs) parts ∙ append_assoc f m (drop end bs)) in
    let all : bs ≡ (take start bs ++ f) ++ (m ++ drop end bs) =
    sym (take-append-drop start bs) ∙ (ap (λ (l : List ℕ). take start bs ++ l) both
    ∙ sym (append_assoc (take start bs) f (m ++ drop end bs))) in
    let size : length f + length m ≡ end - start = sym (length-append f m)
    ∙ (sym (ap length parts) ∙ cut.len) in
    let within = on_start.0 in
    let front : length (take start bs) ≡ start = length-take start bs ∙ (omega arith) in
    let count : length (take start bs ++ f) ≡ end - length m = length-append (take start bs) f
    ∙ (omega (arith, front, size)) in
    let whole : drop (end - length m) bs ≡ m ++ drop end bs =
    ap (drop (end - length m)) all ∙ drop_at (take start bs ++ f) (m ++ drop end bs)
    (end - length m) count in
    record {
      fits = omega (arith, size);
      boundary =
          subst (IsCharBoundary bs) count
          (IsCharBoundary-at_seam bs (take start bs ++ f) (m ++ drop end bs) all
          (IsUtf8-append m (drop end bs) v after));
      whole = whole;
      characters = ap chars whole ∙ chars-append m (drop end bs) v;
      cuts = IsCharBoundary-at_seam (drop (end - length m) bs) m (drop end bs) whole after;
      mark = ap (take (length m)) whole ∙ take_at m (drop end bs) (length m) refl;
    }

-- ---- the lines

abbrev pub line : (before marked after : List ℕ) → Line
line before marked after = record { before = before; marked = marked; after = after }

same_line : (a b c d e f : List ℕ) → a ≡ d → b ≡ e → c ≡ f → line a b c ≡ line d e f
same_line a b c d e f p q r =
    ap (λ (x : List ℕ). line x b c) p ∙ (ap (λ (x : List ℕ). line d x c) q
    ∙ ap (λ (x : List ℕ). line d e x) r)

pub start_line_is : (bs front rest before marked after : List ℕ) (start end : ℕ) →
    IsUtf8 bs → IsCharBoundary bs start → IsCharBoundary bs end → start ≤ end →
    front ≡ take start bs → rest ≡ drop start bs → before ≡ last_line (chars front) →
    marked ≡ take (length (chars (take (end - start) rest))) (first_line (chars rest)) →
    after ≡ drop (length (chars (take (end - start) rest))) (first_line (chars rest)) →
    line before marked after ≡ start_line (chars (take start bs))
    (chars (slice_range bs start end)) (chars (drop end bs))
unfolding start_line
start_line_is bs front rest before marked after start end u on_start on_end order is_front is_rest
    is_before is_marked is_after =
    let cut = cut_at_end bs start end u on_start on_end order in
    let count = length (chars (slice_range bs start end)) in
    same_line _ _ _ _ _ _ (is_before ∙ ap (λ (l : List ℕ). last_line (chars l)) is_front)
    (is_marked ∙ (ap (λ (l : List ℕ). take (length (chars (take (end - start) l)))
    (first_line (chars l))) is_rest
    ∙ ap (λ (l : List ℕ). take count (first_line l)) cut.characters))
    (is_after ∙ (ap (λ (l : List ℕ). drop (length (chars (take (end - start) l)))
    (first_line (chars l))) is_rest
    ∙ ap (λ (l : List ℕ). drop count (first_line l)) cut.characters))

pub end_line_is : (bs m rest before marked after : List ℕ) (start end : ℕ) →
    IsCutWithin bs m end → before ≡ [] →
    chars m ≡ last_line (chars (slice_range bs start end)) → rest ≡ drop (end - length m) bs →
    marked ≡ take (length (chars (take (length m) rest))) (first_line (chars rest)) →
    after ≡ drop (length (chars (take (length m) rest))) (first_line (chars rest)) →
    line before marked after ≡ end_line (chars (slice_range bs start end)) (chars (drop end bs))
unfolding end_line
end_line_is bs m rest before marked after start end cut is_before is_mark is_rest is_marked
    is_after =
    let tail = chars (drop end bs) in
    same_line _ _ _ _ _ _ is_before
    (is_marked ∙ (ap (λ (l : List ℕ). take (length (chars (take (length m) l)))
    (first_line (chars l))) is_rest
    ∙ (ap (λ (l : List ℕ). take (length (chars l))
    (first_line (chars (drop (end - length m) bs)))) cut.mark
    ∙ (ap (λ (l : List ℕ). take (length (chars m)) (first_line l)) cut.characters
    ∙ ap (λ (l : List ℕ). take (length l) (first_line (l ++ tail))) is_mark))))
    (is_after ∙ (ap (λ (l : List ℕ). drop (length (chars (take (length m) l)))
    (first_line (chars l))) is_rest
    ∙ (ap (λ (l : List ℕ). drop (length (chars l))
    (first_line (chars (drop (end - length m) bs)))) cut.mark
    ∙ (ap (λ (l : List ℕ). drop (length (chars m)) (first_line l)) cut.characters
    ∙ ap (λ (l : List ℕ). drop (length l) (first_line (l ++ tail))) is_mark))))

-- the lines of a range whose ends are places on lines
pub start_line_at_is : (source : List ℕ) (start end from to : ℕ) (l : Line) →
    from ≡ place_on_line source start → to ≡ place_on_line source end →
    l ≡ start_line (chars (take from source)) (chars (slice_range source from to))
    (chars (drop to source)) → l ≡ start_line_at source start end
unfolding start_line_at
start_line_at_is source start end from to l is_from is_to is = rw (is_from, is_to) at is

pub end_line_at_is : (source : List ℕ) (start end from to : ℕ) (l : Line) →
    from ≡ place_on_line source start → to ≡ place_on_line source end →
    l ≡ end_line (chars (slice_range source from to)) (chars (drop to source)) →
    l ≡ end_line_at source start end
unfolding end_line_at
end_line_at_is source start end from to l is_from is_to is = rw (is_from, is_to) at is

-- ---- places in line ends

pub first_passes-is : (t : List ℕ) → first_passes is_line_feed t ≡ eqb (get_or t 0 0) 10
first_passes-is [] = refl
first_passes-is (c ∷ t) = refl

pub before_line_end_is : (bs before after : List ℕ) (place : ℕ) (last first : Bool) →
    before ≡ take place bs → after ≡ drop place bs →
    last_passes is_carriage_return before ≡ last → first_passes is_line_feed after ≡ first →
    before_line_end bs place ≡ cond (last && first) (place - 1) place
unfolding before_line_end
before_line_end_is bs before after place last first is_before is_after ends begins =
    rw (sym is_before, sym is_after, ends, begins) refl

pub not_both : (last : Bool) (place : ℕ) → cond (last && false) (place - 1) place ≡ place
not_both true place = refl
not_both false place = refl

-- a text can be cut at the lesser of two places if it can be cut at both
pub boundary_of_min : (bs : List ℕ) (m n at : ℕ) → at ≡ min m n → IsCharBoundary bs m →
    IsCharBoundary bs n → IsCharBoundary bs at
boundary_of_min bs m n at is first second = elim (cases_lt m n) [
  | inl less ↦ (let same : m ≡ at = omega arith in subst (IsCharBoundary bs) same first)
  | inr other ↦ (let same : n ≡ at = omega arith in subst (IsCharBoundary bs) same second)
]

-- the order of two places stays as it is
in_order_after : (m n : ℕ) (p q : Bool) → m ≤ n → (m ≡ n → p ≡ q) →
    cond p (m - 1) m ≤ cond q (n - 1) n
in_order_after m n true true order same = omega arith
in_order_after m n true false order same = omega arith
in_order_after m n false false order same = order
in_order_after m n false true order same = elim (cases_lt m n) [
  | inl less ↦ omega arith
  | inr other ↦ absurd (true≢false (sym (same (omega arith))))
]

pub place_on_line-order : (bs : List ℕ) (start end : ℕ) → start ≤ end →
    place_on_line bs start ≤ place_on_line bs end
unfolding before_line_end
place_on_line-order bs start end order =
    let last = length (without_line_end bs) in
    in_order_after (min start last) (min end last) (is_in_line_end bs (min start last))
    (is_in_line_end bs (min end last)) (omega arith) (ap (is_in_line_end bs))
