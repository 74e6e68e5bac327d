-- Lemmas on lines: how the words of specs/Lines go along a list that grows at its end, and one that is taken from the front.
use Rattle.std.proofs.Common.{◌≡◌, ℕ, suc, ◌+◌, ◌-◌, ◌<◌, ◌≤◌, Bool, true, false, ◌⊎◌, inl, inr, List, [], ◌∷◌, ◌++◌, length, take, drop, Some, None, refl, sym, ap, ◌∙◌, subst, append_assoc, append-nil, arith}
use Rattle.std.specs.Prelude.{All, IsSome, ◌^◌, flat_map, map, position}
use Rattle.std.specs.List.{slice_split, onto_first}
use Rattle.std.proofs.lemmas.List.Splits.{slice_split-cons_yes, slice_split-cons_no, slice_split_none}
use Rattle.std.proofs.lemmas.List.Elements.{All-nil, All-cons, All-append, All-head, All-tail}
use Rattle.std.proofs.lemmas.List.Quantifiers.{position-Some}
use Rattle.std.proofs.lemmas.List.Sums.{fails_before_first}
use Rattle.std.specs.List.{position_or_len}
use Rattle.std.specs.Io.KnownBytes.{Appends, Keeps, Consumes, IsAtEnd}
use Rattle.std.proofs.KnownBytes.{Appends-nil, Appends-trans, Consumes-nil, Consumes-trans, Consumes-kept, Consumes-whole, starts_with_rest}
use Rattle.std.proofs.Math.Seq.{take-append_seam, get_or-append_seam}
use Rattle.std.proofs.lemmas.Option.{none-some}
use Rattle.std.proofs.lemmas.Bool.{ltb-false, false≢true}
use Rattle.std.proofs.Common.{Option, Result, Ok, Err, OnOk, OnErr, IfSome, length-append}
use Rattle.std.specs.Prelude.{is_ok, ◌==◌, slice_index, if◌then◌else◌}
use Rattle.litrs_lines.specs.LinesLaws.{spelled, LinesSpellTheBytes, NoLineFeedInLines, LinesAreUnique, OneCrEndsALine, LinesWithoutCr}
use Rattle.litrs_lines.specs.Stopped.{AppendsBeginning, AppendsBeginningOfReports, whole_lines, StopsWithin}
use Rattle.std.proofs.Common.{eqb-true, ltb, cond, add-one, get_or, take-append-drop, drop-cons, length-take}
use Rattle.std.proofs.lemmas.List.{get_or-take, take_rest}
use Rattle.litrs_lines.specs.Ended.{AreEndedReports, AreLastReports}
use Rattle.litrs_lines.specs.Reports.{AreGroupReports, AppendsReports}
use Rattle.litrs_lines.proofs.GroupReports.{group_reports, last_reports, have_last_reports, ended-none, ended-append, ended-longer, last-append}
use Rattle.litrs_lines.specs.Lines.{is_line_feed, HasNoLineFeed, before_last_part, last_part, ended_parts, open_part, unless_empty, strip_cr, ended_parts_of, ended_lines, open_line, lines_of}

-- the first part of a split, and those after it
record Parts (parts : List (List ℕ)) : Type 0 where
  first : List ℕ
  after : List (List ℕ)
  is : parts ≡ first ∷ after

onto_first-parts : (b : ℕ) (parts : List (List ℕ)) → Parts parts → Parts (onto_first b parts)
onto_first-parts b parts some = record { first = b ∷ some.first; after = some.after; is = ap (onto_first b) some.is }

split_parts : (bytes : List ℕ) → Parts (slice_split is_line_feed bytes)
split_parts [] = record { first = []; after = []; is = refl }
split_parts (b ∷ bs) = split_cons b bs (is_line_feed b) refl (split_parts bs)
  where
    split_cons : (b : ℕ) (bs : List ℕ) (test : Bool) → is_line_feed b ≡ test → Parts (slice_split is_line_feed bs) → Parts (slice_split is_line_feed (b ∷ bs))
    split_cons b bs true is some = record { first = []; after = slice_split is_line_feed bs; is = slice_split-cons_yes is_line_feed b bs is }
    split_cons b bs false is some = subst Parts (sym (slice_split-cons_no is_line_feed b bs is)) (onto_first-parts b _ some)

-- ---- a list that is split after an LF

before_last_part-append : (part : List ℕ) (parts : List (List ℕ)) (next : List ℕ) (more : List (List ℕ)) → before_last_part part (parts ++ next ∷ more) ≡ (part ∷ parts) ++ before_last_part next more
before_last_part-append part [] next more = refl
before_last_part-append part (other ∷ parts) next more = ap (λ ps. part ∷ ps) (before_last_part-append other parts next more)

last_part-append : (part : List ℕ) (parts : List (List ℕ)) (next : List ℕ) (more : List (List ℕ)) → last_part part (parts ++ next ∷ more) ≡ last_part next more
last_part-append part [] next more = refl
last_part-append part (other ∷ parts) next more = last_part-append other parts next more

onto_first-append : (b : ℕ) (parts more : List (List ℕ)) → Parts parts → onto_first b (parts ++ more) ≡ onto_first b parts ++ more
onto_first-append b [] more some = cc (some.is)
onto_first-append b (part ∷ parts) more some = refl

slice_split-line_feed_cons : (b : ℕ) (bs after : List ℕ) (test : Bool) → is_line_feed b ≡ test
    → slice_split is_line_feed (bs ++ 10 ∷ after) ≡ slice_split is_line_feed bs ++ slice_split is_line_feed after
    → slice_split is_line_feed (b ∷ (bs ++ 10 ∷ after)) ≡ slice_split is_line_feed (b ∷ bs) ++ slice_split is_line_feed after
slice_split-line_feed_cons b bs after true is same =
    slice_split-cons_yes is_line_feed b (bs ++ 10 ∷ after) is ∙ ap (λ ps. [] ∷ ps) same
    ∙ ap (λ ps. ps ++ slice_split is_line_feed after) (sym (slice_split-cons_yes is_line_feed b bs is))
slice_split-line_feed_cons b bs after false is same =
    slice_split-cons_no is_line_feed b (bs ++ 10 ∷ after) is ∙ ap (onto_first b) same
    ∙ onto_first-append b _ _ (split_parts bs)
    ∙ ap (λ ps. ps ++ slice_split is_line_feed after) (sym (slice_split-cons_no is_line_feed b bs is))

-- an LF ends the parts before it
slice_split-line_feed : (front after : List ℕ) → slice_split is_line_feed (front ++ 10 ∷ after) ≡ slice_split is_line_feed front ++ slice_split is_line_feed after
slice_split-line_feed [] after = refl
slice_split-line_feed (b ∷ bs) after = slice_split-line_feed_cons b bs after (is_line_feed b) refl (slice_split-line_feed bs after)

ended_parts_of-line_feed : (front after : List ℕ) → ended_parts_of (front ++ 10 ∷ after) ≡ slice_split is_line_feed front ++ ended_parts_of after
unfolding ended_parts_of
ended_parts_of-line_feed front after =
    let f = split_parts front in let b = split_parts after in
    ap ended_parts (slice_split-line_feed front after)
    ∙ ap (λ ps. ended_parts (ps ++ slice_split is_line_feed after)) f.is
    ∙ ap (λ ps. ended_parts ((f.first ∷ f.after) ++ ps)) b.is
    ∙ before_last_part-append f.first f.after b.first b.after
    ∙ ap (λ ps. (f.first ∷ f.after) ++ ended_parts ps) (sym b.is)
    ∙ ap (λ ps. ps ++ ended_parts (slice_split is_line_feed after)) (sym f.is)

open_line-line_feed : (front after : List ℕ) → open_line (front ++ 10 ∷ after) ≡ open_line after
unfolding open_line
open_line-line_feed front after =
    let f = split_parts front in let b = split_parts after in
    ap open_part (slice_split-line_feed front after)
    ∙ ap (λ ps. open_part (ps ++ slice_split is_line_feed after)) f.is
    ∙ ap (λ ps. open_part ((f.first ∷ f.after) ++ ps)) b.is
    ∙ last_part-append f.first f.after b.first b.after
    ∙ ap open_part (sym b.is)

-- ---- a line that continues

pub ended_parts_of-none : (line : List ℕ) → HasNoLineFeed line → ended_parts_of line ≡ []
unfolding ended_parts_of
ended_parts_of-none line h = ap ended_parts (slice_split_none is_line_feed line h)

pub open_line-none : (line : List ℕ) → HasNoLineFeed line → open_line line ≡ line
unfolding open_line
open_line-none line h = ap open_part (slice_split_none is_line_feed line h)

-- ---- a list that grows at its end

-- not an LF
abbrev EndsNoLine : ℕ → Type 0
EndsNoLine b = is_line_feed b ≡ false

-- the bytes up to the last LF, and those after it
record Cut (bytes : List ℕ) : Type 0 where
  front : List ℕ
  after : List ℕ
  is : bytes ≡ front ++ 10 ∷ after
  none : HasNoLineFeed after

cut_at_byte : (b : ℕ) (bs : List ℕ) (test : Bool) → is_line_feed b ≡ test → HasNoLineFeed bs → HasNoLineFeed (b ∷ bs) ⊎ Cut (b ∷ bs)
cut_at_byte b bs true is none = inr (record { front = []; after = bs; is = ap (λ x. x ∷ bs) (eqb-true b 10 is); none = none })
cut_at_byte b bs false is none = inl (All-cons EndsNoLine b bs is none)

cut_bytes : (bytes : List ℕ) → HasNoLineFeed bytes ⊎ Cut bytes
cut_bytes [] = inl (All-nil EndsNoLine)
cut_bytes (b ∷ bs) = elim (cut_bytes bs) [
  | inl none ↦ cut_at_byte b bs (is_line_feed b) refl none
  | inr cut ↦ inr (record { front = b ∷ cut.front; after = cut.after; is = ap (λ xs. b ∷ xs) cut.is; none = cut.none })
]

pub open_line-append : (bytes more : List ℕ) → open_line (bytes ++ more) ≡ open_line (open_line bytes ++ more)
open_line-append bytes more = elim (cut_bytes bytes) [
  | inl none ↦ ap (λ line. open_line (line ++ more)) (sym (open_line-none bytes none))
  | inr cut ↦
      ap (λ xs. open_line (xs ++ more)) cut.is ∙ ap open_line (append_assoc cut.front (10 ∷ cut.after) more) ∙ open_line-line_feed cut.front (cut.after ++ more)
      ∙ ap (λ line. open_line (line ++ more)) (sym (ap open_line cut.is ∙ open_line-line_feed cut.front cut.after ∙ open_line-none cut.after cut.none))
]

pub ended_parts_of-append : (bytes more : List ℕ) → ended_parts_of (bytes ++ more) ≡ ended_parts_of bytes ++ ended_parts_of (open_line bytes ++ more)
ended_parts_of-append bytes more = elim (cut_bytes bytes) [
  | inl none ↦ ap (λ line. ended_parts_of (line ++ more)) (sym (open_line-none bytes none)) ∙ ap (λ ls. ls ++ ended_parts_of (open_line bytes ++ more)) (sym (ended_parts_of-none bytes none))
  | inr cut ↦
      let line : open_line bytes ≡ cut.after = ap open_line cut.is ∙ open_line-line_feed cut.front cut.after ∙ open_line-none cut.after cut.none in
      let ended : ended_parts_of bytes ≡ slice_split is_line_feed cut.front =
      ap ended_parts_of cut.is ∙ ended_parts_of-line_feed cut.front cut.after ∙ ap (λ ls. slice_split is_line_feed cut.front ++ ls) (ended_parts_of-none cut.after cut.none) ∙ append-nil _ in
      ap (λ xs. ended_parts_of (xs ++ more)) cut.is ∙ ap ended_parts_of (append_assoc cut.front (10 ∷ cut.after) more) ∙ ended_parts_of-line_feed cut.front (cut.after ++ more)
      ∙ ap (λ xs. slice_split is_line_feed cut.front ++ ended_parts_of (xs ++ more)) (sym line) ∙ ap (λ ls. ls ++ ended_parts_of (open_line bytes ++ more)) (sym ended)
]

pub open_line-has_no_line_feed : (bytes : List ℕ) → HasNoLineFeed (open_line bytes)
open_line-has_no_line_feed bytes = elim (cut_bytes bytes) [
  | inl none ↦ subst HasNoLineFeed (sym (open_line-none bytes none)) none
  | inr cut ↦ subst HasNoLineFeed (sym (ap open_line cut.is ∙ open_line-line_feed cut.front cut.after ∙ open_line-none cut.after cut.none)) cut.none
]

-- ---- lines, each a part without one CR at its end

pub ended_lines-none : (line : List ℕ) → HasNoLineFeed line → ended_lines line ≡ []
ended_lines-none line h = ap (map strip_cr) (ended_parts_of-none line h)

map-append : (parts more : List (List ℕ)) → map strip_cr (parts ++ more) ≡ map strip_cr parts ++ map strip_cr more
map-append [] more = refl
map-append (part ∷ parts) more = ap (λ (ls : List (List ℕ)). strip_cr part ∷ ls) (map-append parts more)

pub ended_lines-append : (bytes more : List ℕ) → ended_lines (bytes ++ more) ≡ ended_lines bytes ++ ended_lines (open_line bytes ++ more)
ended_lines-append bytes more = ap (map strip_cr) (ended_parts_of-append bytes more) ∙ map-append (ended_parts_of bytes) (ended_parts_of (open_line bytes ++ more))

-- ---- a piece, from the front: the line so far, and the rest of the piece

-- an LF in the rest ends the line
pub record EndsLine (line rest : List ℕ) (end : ℕ) : Type 0 where
  pub within : end < length rest
  pub leaves : open_line (line ++ rest) ≡ open_line (drop (end + 1) rest)
  pub lines : ended_lines (line ++ rest) ≡ strip_cr (line ++ take end rest) ∷ ended_lines (drop (end + 1) rest)

cut_at : (bytes : List ℕ) (end : ℕ) → end < length bytes → get_or bytes end 0 ≡ 10 → bytes ≡ take end bytes ++ 10 ∷ drop (end + 1) bytes
cut_at bytes end within is =
    sym (take-append-drop end bytes)
    ∙ ap (λ xs. take end bytes ++ xs) (drop-cons bytes end 0 within ∙ ap (λ b. b ∷ drop (suc end) bytes) is ∙ ap (λ n. 10 ∷ drop n bytes) (sym (add-one end)))

before_end : (bytes : List ℕ) (end : ℕ) → position is_line_feed bytes ≡ Some end → HasNoLineFeed (take end bytes)
before_end bytes end at = λ k d h.
    let found = position-Some is_line_feed bytes end d at in
    let below : k < end = omega (arith, length-take end bytes) in
    subst (λ b. is_line_feed b ≡ false) (sym (get_or-take end bytes k d below)) (found.2 k below)

none_found : (bytes : List ℕ) → position is_line_feed bytes ≡ None → HasNoLineFeed bytes
none_found bytes at = λ k d h.
    let far : length bytes ≤ position_or_len is_line_feed bytes = not_below (ltb (position_or_len is_line_feed bytes) (length bytes)) refl in
    fails_before_first is_line_feed bytes k d (omega arith)
  where
    not_below : (test : Bool) → ltb (position_or_len is_line_feed bytes) (length bytes) ≡ test → length bytes ≤ position_or_len is_line_feed bytes
    not_below true is = absurd (none-some (position_or_len is_line_feed bytes) (sym at ∙ ap (λ t. cond t (Some (position_or_len is_line_feed bytes)) None) is))
    not_below false is = ltb-false _ _ is

pub ends_line : (line rest : List ℕ) (end : ℕ) → HasNoLineFeed line → position is_line_feed rest ≡ Some end → EndsLine line rest end
ends_line line rest end held at =
    let found = position-Some is_line_feed rest end 0 at in
    let cut : rest ≡ take end rest ++ 10 ∷ drop (end + 1) rest = cut_at rest end found.0 (eqb-true _ 10 found.1) in
    let before : HasNoLineFeed (take end rest) = before_end rest end at in
    let none : HasNoLineFeed (line ++ take end rest) = All-append EndsNoLine line (take end rest) held before in
    let joined : line ++ rest ≡ (line ++ take end rest) ++ 10 ∷ drop (end + 1) rest = ap (λ xs. line ++ xs) cut ∙ sym (append_assoc line (take end rest) (10 ∷ drop (end + 1) rest)) in
    record {
      within = found.0;
      leaves = ap open_line joined ∙ open_line-line_feed (line ++ take end rest) (drop (end + 1) rest);
      lines =
          ap (map strip_cr) (ap ended_parts_of joined ∙ ended_parts_of-line_feed (line ++ take end rest) (drop (end + 1) rest)
          ∙ ap (λ ps. ps ++ ended_parts_of (drop (end + 1) rest)) (slice_split_none is_line_feed (line ++ take end rest) none));
    }

-- without an LF the line continues
pub record GoesOn (line rest : List ℕ) : Type 0 where
  pub leaves : open_line (line ++ rest) ≡ line ++ rest
  pub lines : ended_lines (line ++ rest) ≡ []

pub goes_on : (line rest : List ℕ) → HasNoLineFeed line → position is_line_feed rest ≡ None → GoesOn line rest
goes_on line rest held at =
    let none : HasNoLineFeed (line ++ rest) = All-append EndsNoLine line rest held (none_found rest at) in
    record { leaves = open_line-none (line ++ rest) none; lines = ended_lines-none (line ++ rest) none }

-- of all lines some were taken, and these are the reports on the groups that end with them; the rest is left
pub record TakesOn (held : List ℕ) (all rest : List (List ℕ)) (left out : List ℕ) : Type 0 where
  pub lines : List (List ℕ)
  pub is : all ≡ lines ++ rest
  pub ended : AreEndedReports held lines left out

pub takes_line : (held line : List ℕ) (all rest more : List (List ℕ)) (between left out next : List ℕ) → rest ≡ line ∷ more → TakesOn held all rest between out →
    AreEndedReports between (line ∷ []) left next → TakesOn held all more left (out ++ next)
takes_line held line all rest more between left out next cut so_far ended = record {
  lines = so_far.lines ++ line ∷ [];
  is = so_far.is ∙ ap (λ (ls : List (List ℕ)). so_far.lines ++ ls) cut ∙ sym (append_assoc so_far.lines (line ∷ []) more);
  ended = ended-append held so_far.lines (line ∷ []) between left out next so_far.ended ended;
}

-- those on all lines begin with them
pub takes_longer : (held : List ℕ) (all rest : List (List ℕ)) (between out : List ℕ) → TakesOn held all rest between out →
    (left : List ℕ) × (next : List ℕ) × AreEndedReports held all left (out ++ next)
takes_longer held all rest between out so_far =
    let longer = ended-longer held so_far.lines rest between out so_far.ended in
    (longer.0, longer.1, subst (λ (ls : List (List ℕ)). AreEndedReports held ls longer.0 (out ++ longer.1)) (sym so_far.is) longer.2)

-- if no line is left, all were taken
pub takes_all : (held : List ℕ) (all rest : List (List ℕ)) (left out : List ℕ) → rest ≡ [] → TakesOn held all rest left out → AreEndedReports held all left out
takes_all held all rest left out none so_far =
    subst (λ (ls : List (List ℕ)). AreEndedReports held ls left out) (sym (so_far.is ∙ ap (λ (ls : List (List ℕ)). so_far.lines ++ ls) none ∙ append-nil so_far.lines)) so_far.ended

-- a step over a line that ends
pub record StepsOn (line rest line' rest' : List ℕ) (end : ℕ) : Type 0 where
  pub unended : HasNoLineFeed line'
  pub leaves : open_line (line ++ rest) ≡ open_line (line' ++ rest')
  pub lines : ended_lines (line ++ rest) ≡ strip_cr (line ++ take end rest) ∷ ended_lines (line' ++ rest')

pub steps_on : (line rest line' : List ℕ) (end : ℕ) → HasNoLineFeed line → Some end ≡ position is_line_feed rest → line' ≡ [] →
    StepsOn line rest line' (take (length rest - (end + 1)) (drop (end + 1) rest)) end
steps_on line rest line' end unended at none =
    let step = ends_line line rest end unended (sym at) in
    let rest' = take (length rest - (end + 1)) (drop (end + 1) rest) in
    let empty : line' ++ rest' ≡ drop (end + 1) rest = ap (λ xs. xs ++ rest') none ∙ take_rest rest (end + 1) in
    record {
      unended = subst HasNoLineFeed (sym none) (All-nil EndsNoLine);
      leaves = step.leaves ∙ ap open_line (sym empty);
      lines = step.lines ∙ ap (λ (ls : List (List ℕ)). strip_cr (line ++ take end rest) ∷ ls) (ap ended_lines (sym empty));
    }

-- ---- appended bytes

pub OnOk-appended : {T E : Type 0} (r : Result T E) (new old more whole : List ℕ) → new ≡ (if is_ok r then old ++ more else old) → whole ≡ old ++ more → OnOk r (new ≡ whole)
OnOk-appended (Ok x) new old more whole is same = is ∙ sym same
OnOk-appended (Err e) new old more whole is same = tt

-- ---- writing

-- the bytes before the rest were written
pub record WritesOn (old new : Option (List ℕ)) (bytes rest : List ℕ) : Type 0 where
  pub front : List ℕ
  pub is : bytes ≡ front ++ rest
  pub appends : Appends old new front

pub writes_more : (old mid new : Option (List ℕ)) (bytes rest : List ℕ) (count : ℕ) → WritesOn old mid bytes rest → Appends mid new (take count rest) → WritesOn old new bytes (take (length rest - count) (drop count rest))
writes_more old mid new bytes rest count so_far more = subst (WritesOn old new bytes) (sym (take_rest rest count)) (record {
  front = so_far.front ++ take count rest;
  is = so_far.is ∙ ap (λ xs. so_far.front ++ xs) (sym (take-append-drop count rest)) ∙ sym (append_assoc so_far.front (take count rest) (drop count rest));
  appends = Appends-trans old mid new _ _ so_far.appends more;
})

pub OnOk-holds : {T E P : Type 0} (r : Result T E) → P → OnOk r P
OnOk-holds (Ok x) p = p
OnOk-holds (Err e) p = tt

pub OnErr-holds : {T E P : Type 0} (r : Result T E) → P → OnErr r P
OnErr-holds (Ok x) p = tt
OnErr-holds (Err e) p = p

-- ---- reads

-- no read was made, or these were
abbrev pub AreReadsOrNone : {S : Type 0} → (ℕ → S → S → Type 0) → ℕ → S → S → Type 0
AreReadsOrNone are_reads count first now = ((count ≡ 0) × (first ≡ now)) ⊎ are_reads count first now

pub one_more_read : {S : Type 0} (are_reads : ℕ → S → S → Type 0) (count : ℕ) (first old new : S) → AreReadsOrNone are_reads count first old →
    are_reads 1 old new → ((n : ℕ) (s : S) → are_reads n s old → are_reads (n + 1) s new) → AreReadsOrNone are_reads (count + 1) first new
one_more_read are_reads count first old new (inl none) one more =
    let is : 1 ≡ count + 1 = omega (arith, none.0) in
    inr (subst (λ (n : ℕ). are_reads n first new) is (subst (λ s. are_reads 1 s new) (sym none.1) one))
one_more_read are_reads count first old new (inr reads) one more = inr (more count first reads)

-- ---- the whole lines

-- the reports on all lines begin with those on the groups that ended
all_reports : (taken held so_far : List ℕ) → AreEndedReports [] (ended_lines taken) held so_far → (last : List ℕ) × AreLastReports [] (lines_of taken) (so_far ++ last)
unfolding lines_of
all_reports taken held so_far ended =
    let last = have_last_reports held (unless_empty (open_line taken)) in
    (last.0, last-append [] (ended_lines taken) (unless_empty (open_line taken)) held so_far last.0 ended last.1)

-- and so do those on the whole lines
whole_reports : (left : Option (List ℕ)) (taken held so_far : List ℕ) → AreEndedReports [] (ended_lines taken) held so_far → (last : List ℕ) × AreLastReports [] (whole_lines left taken) (so_far ++ last)
whole_reports None taken held so_far ended = all_reports taken held so_far ended
whole_reports (Some []) taken held so_far ended = all_reports taken held so_far ended
whole_reports (Some (b ∷ bs)) taken held so_far ended = last_reports [] (ended_lines taken) held so_far ended

-- at the end of the input all lines are whole
all_whole : (left : Option (List ℕ)) (taken : List ℕ) → IsAtEnd left → lines_of taken ≡ whole_lines left taken
all_whole None taken at_end = refl
all_whole (Some []) taken at_end = refl
all_whole (Some (b ∷ bs)) taken at_end = cc

-- the reports on all lines of a longer text begin with those on the groups that ended
longer_reports : (taken rest held so_far : List ℕ) → AreEndedReports [] (ended_lines taken) held so_far → (last : List ℕ) × AreLastReports [] (lines_of (taken ++ rest)) (so_far ++ last)
unfolding lines_of
longer_reports taken rest held so_far ended =
    let lines = ended_lines (open_line taken ++ rest) in
    let end = unless_empty (open_line (taken ++ rest)) in
    let last = have_last_reports held (lines ++ end) in
    let is : ended_lines taken ++ (lines ++ end) ≡ ended_lines (taken ++ rest) ++ end =
    sym (append_assoc (ended_lines taken) lines end) ∙ ap (λ (ls : List (List ℕ)). ls ++ end) (sym (ended_lines-append taken rest)) in
    (last.0, subst (λ (ls : List (List ℕ)). AreLastReports [] ls (so_far ++ last.0)) is (last-append [] (ended_lines taken) (lines ++ end) held so_far last.0 ended last.1))

-- a known input is the bytes that were taken, and others
of_taken : (left_old left_new : Option (List ℕ)) (taken : List ℕ) (P : List ℕ → Type 0) → Consumes left_old left_new taken → ((rest : List ℕ) → P (taken ++ rest)) → IfSome left_old P
of_taken None left_new taken P takes all = tt
of_taken (Some bytes) None taken P takes all = absurd takes
of_taken (Some bytes) (Some rest) taken P takes all = subst P (sym takes) (all rest)

-- so a prefix of its reports was written
begins_reports : (left_old left_new contents_old contents_new : Option (List ℕ)) (taken held so_far : List ℕ) → Consumes left_old left_new taken
    → AreEndedReports [] (ended_lines taken) held so_far → ((more : List ℕ) → AppendsBeginning contents_old contents_new (so_far ++ more))
    → IfSome left_old (AppendsBeginningOfReports contents_old contents_new)
begins_reports left_old left_new contents_old contents_new taken held so_far takes ended begins =
    of_taken left_old left_new taken (AppendsBeginningOfReports contents_old contents_new) takes (λ rest.
    let all = longer_reports taken rest held so_far ended in
    (so_far ++ all.0, group_reports (lines_of (taken ++ rest)) (so_far ++ all.0) all.1, begins all.0))

-- ---- a run

-- of the bytes taken so far all groups that ended were reported on, and each read took one at least
pub record RunsOn (left_old left_new contents_old contents_new : Option (List ℕ)) (line held : List ℕ) (reads : ℕ) : Type 0 where
  pub taken : List ℕ
  pub takes : Consumes left_old left_new taken
  pub goes_on : line ≡ open_line taken
  pub so_far : List ℕ
  pub reports : AreEndedReports [] (ended_lines taken) held so_far
  pub writes : Appends contents_old contents_new so_far
  pub few : reads ≤ length taken

pub runs_none : (left contents : Option (List ℕ)) (line held : List ℕ) → line ≡ [] → held ≡ [] → RunsOn left left contents contents line held 0
runs_none left contents line held none nothing =
    let no : ended_lines [] ≡ [] = ended_lines-none [] (All-nil EndsNoLine) in
    record {
      taken = [];
      takes = Consumes-nil left;
      goes_on = none ∙ sym (open_line-none [] (All-nil EndsNoLine));
      so_far = [];
      reports = subst (λ (h : List ℕ). AreEndedReports [] (ended_lines []) h []) (sym nothing)
          (subst (λ (ls : List (List ℕ)). AreEndedReports [] ls [] []) (sym no) (ended-none []));
      writes = Appends-nil contents;
      few = omega arith;
    }

module _ {left_old left contents_old contents : Option (List ℕ)} {line held : List ℕ} {reads : ℕ} (run : RunsOn left_old left contents_old contents line held reads) where
  pub line_unended : HasNoLineFeed line
  line_unended = subst HasNoLineFeed (sym run.goes_on) (open_line-has_no_line_feed run.taken)

  lines_of_piece : (piece : List ℕ) → ended_lines (run.taken ++ piece) ≡ ended_lines run.taken ++ ended_lines (line ++ piece)
  lines_of_piece piece = ended_lines-append run.taken piece ∙ ap (λ xs. ended_lines run.taken ++ ended_lines (xs ++ piece)) (sym run.goes_on)

  -- the reports on a piece, after those before it
  reports_on_piece : (piece left_held out : List ℕ) → AreEndedReports held (ended_lines (line ++ piece)) left_held out → AreEndedReports [] (ended_lines (run.taken ++ piece)) left_held (run.so_far ++ out)
  reports_on_piece piece left_held out is =
      subst (λ (ls : List (List ℕ)). AreEndedReports [] ls left_held (run.so_far ++ out)) (sym (lines_of_piece piece))
      (ended-append [] (ended_lines run.taken) (ended_lines (line ++ piece)) held left_held run.so_far out run.reports is)

  -- and on all lines, if nothing more is taken
  reports_on_all : (last out : List ℕ) → last ≡ line → AreLastReports held (unless_empty last) out → AreLastReports [] (lines_of run.taken) (run.so_far ++ out)
  unfolding lines_of
  reports_on_all last out is all =
      last-append [] (ended_lines run.taken) (unless_empty (open_line run.taken)) held run.so_far out run.reports
      (subst (λ (xs : List ℕ). AreLastReports held (unless_empty xs) out) (is ∙ run.goes_on) all)

  pub runs_more : (left_new contents_new : Option (List ℕ)) (line_new held_new piece out : List ℕ) → Consumes left left_new piece → line_new ≡ open_line (line ++ piece)
      → AreEndedReports held (ended_lines (line ++ piece)) held_new out → Appends contents contents_new out → 0 < length piece
      → RunsOn left_old left_new contents_old contents_new line_new held_new (reads + 1)
  runs_more left_new contents_new line_new held_new piece out takes goes_on reports writes some = record {
    taken = run.taken ++ piece;
    takes = Consumes-trans left_old left left_new run.taken piece run.takes takes;
    goes_on = goes_on ∙ ap (λ xs. open_line (xs ++ piece)) run.goes_on ∙ sym (open_line-append run.taken piece);
    so_far = run.so_far ++ out;
    reports = reports_on_piece piece held_new out reports;
    writes = Appends-trans contents_old contents contents_new run.so_far out run.writes writes;
    few = let before = run.few in omega (arith, length-append run.taken piece);
  }

  -- the written bytes are a prefix of the whole
  writes_prefix : (contents_new : Option (List ℕ)) (bytes more whole : List ℕ) → AppendsBeginning contents contents_new bytes
      → whole ≡ run.so_far ++ (bytes ++ more) → AppendsBeginning contents_old contents_new whole
  writes_prefix contents_new bytes more whole part is =
      let so_far : List ℕ = run.so_far in
      let rest : List ℕ = drop (length part.written) bytes in
      let inner : bytes ++ more ≡ part.written ++ (rest ++ more) =
      ap (λ xs. xs ++ more) (starts_with_rest bytes part.written part.begins) ∙ append_assoc part.written rest more in
      let cut : whole ≡ (so_far ++ part.written) ++ (rest ++ more) = is ∙ ap (λ xs. so_far ++ xs) inner ∙ sym (append_assoc so_far part.written (rest ++ more)) in
      record {
        written = so_far ++ part.written;
        appends = Appends-trans contents_old contents contents_new so_far part.written run.writes part.appends;
        begins = ap (take (length (so_far ++ part.written))) cut ∙ take-append_seam (so_far ++ part.written) (rest ++ more);
      }

  begins_so_far : (more : List ℕ) → AppendsBeginning contents_old contents (run.so_far ++ more)
  begins_so_far more = record { written = run.so_far; appends = run.writes; begins = take-append_seam run.so_far more }

  -- a read failed
  pub stops_at_read : (left_new : Option (List ℕ)) → Keeps left left_new → StopsWithin left_old left_new contents_old contents
  stops_at_read left_new kept =
      let all = whole_reports left_new run.taken held run.so_far run.reports in
      record {
        taken = run.taken;
        takes = Consumes-kept left_old left left_new run.taken run.takes kept;
        out = run.so_far ++ all.0;
        reports = group_reports (whole_lines left_new run.taken) (run.so_far ++ all.0) all.1;
        writes = begins_so_far all.0;
        begins = begins_reports left_old left_new contents_old contents run.taken held run.so_far (Consumes-kept left_old left left_new run.taken run.takes kept) run.reports begins_so_far;
      }

  -- a piece was not reported on as a whole
  pub stops_in_piece : (left_new contents_new : Option (List ℕ)) (piece left_held out : List ℕ) → Consumes left left_new piece
      → AreEndedReports held (ended_lines (line ++ piece)) left_held out → AppendsBeginning contents contents_new out → StopsWithin left_old left_new contents_old contents_new
  stops_in_piece left_new contents_new piece left_held out takes is writes =
      let ended = reports_on_piece piece left_held out is in
      let all = whole_reports left_new (run.taken ++ piece) left_held (run.so_far ++ out) ended in
      let whole = Consumes-trans left_old left left_new run.taken piece run.takes takes in
      record {
        taken = run.taken ++ piece;
        takes = whole;
        out = (run.so_far ++ out) ++ all.0;
        reports = group_reports (whole_lines left_new (run.taken ++ piece)) ((run.so_far ++ out) ++ all.0) all.1;
        writes = writes_prefix contents_new out all.0 ((run.so_far ++ out) ++ all.0) writes (append_assoc run.so_far out all.0);
        begins = begins_reports left_old left_new contents_old contents_new (run.taken ++ piece) left_held (run.so_far ++ out) whole ended (λ more.
            writes_prefix contents_new out more ((run.so_far ++ out) ++ more) writes (append_assoc run.so_far out more));
      }

  consumes_end : (left_new : Option (List ℕ)) (piece : List ℕ) → Consumes left left_new piece → piece ≡ [] → Consumes left_old left_new run.taken
  consumes_end left_new piece takes none =
      subst (Consumes left_old left_new) (ap (λ xs. run.taken ++ xs) none ∙ append-nil run.taken) (Consumes-trans left_old left left_new run.taken piece run.takes takes)

  -- the end was not reported on as a whole
  pub stops_at_end : (left_new contents_new : Option (List ℕ)) (piece last out : List ℕ) → last ≡ line → Consumes left left_new piece → piece ≡ [] → IsAtEnd left_new
      → AreLastReports held (unless_empty last) out → AppendsBeginning contents contents_new out → StopsWithin left_old left_new contents_old contents_new
  stops_at_end left_new contents_new piece last out is takes none at_end all writes =
      let whole = consumes_end left_new piece takes none in
      let reports = group_reports (lines_of run.taken) (run.so_far ++ out) (reports_on_all last out is all) in
      let begins = writes_prefix contents_new out [] (run.so_far ++ out) writes (ap (λ xs. run.so_far ++ xs) (sym (append-nil out))) in
      record {
        taken = run.taken;
        takes = whole;
        out = run.so_far ++ out;
        reports = subst (λ (lines : List (List ℕ)). AreGroupReports lines (run.so_far ++ out)) (all_whole left_new run.taken at_end) reports;
        writes = begins;
        begins = Consumes-whole left_old left_new run.taken (AppendsBeginningOfReports contents_old contents_new) whole at_end (run.so_far ++ out, reports, begins);
      }

  -- the end was reported on
  pub ends_run : (left_new contents_new : Option (List ℕ)) (piece last out : List ℕ) → last ≡ line → Consumes left left_new piece → piece ≡ [] → IsAtEnd left_new
      → AreLastReports held (unless_empty last) out → Appends contents contents_new out → IfSome left_old (λ bytes. AppendsReports (lines_of bytes) contents_old contents_new)
  ends_run left_new contents_new piece last out is takes none at_end all writes =
      Consumes-whole left_old left_new run.taken (λ bytes. AppendsReports (lines_of bytes) contents_old contents_new) (consumes_end left_new piece takes none) at_end (record {
        out = run.so_far ++ out;
        reports = group_reports (lines_of run.taken) (run.so_far ++ out) (reports_on_all last out is all);
        appends = Appends-trans contents_old contents contents_new run.so_far out run.writes writes;
      })

-- nothing is taken from an input without bytes
none_taken : (new : Option (List ℕ)) (bytes : List ℕ) → Consumes (Some []) new bytes → (bytes ≡ []) × (new ≡ Some [])
none_taken None bytes takes = absurd takes
none_taken (Some []) [] takes = (refl, refl)
none_taken (Some (b ∷ bs)) [] takes = cc
none_taken (Some ys) (b ∷ bytes) takes = cc

-- nor is a line of it begun or held
pub none_run : {left_old left contents_old contents : Option (List ℕ)} {line held : List ℕ} {reads : ℕ} → RunsOn left_old left contents_old contents line held reads → left_old ≡ Some [] →
    (line ≡ []) × (held ≡ []) × (left ≡ Some [])
none_run {left_old} {left} {contents_old} {contents} {line} {held} run none =
    let all = none_taken left run.taken (subst (λ (o : Option (List ℕ)). Consumes o left run.taken) none run.takes) in
    let no : ended_lines [] ≡ [] = ended_lines-none [] (All-nil EndsNoLine) in
    let reports : AreEndedReports [] [] held run.so_far =
    subst (λ (ls : List (List ℕ)). AreEndedReports [] ls held run.so_far) (ap ended_lines all.0 ∙ no) run.reports in
    (run.goes_on ∙ (ap open_line all.0 ∙ open_line-none [] (All-nil EndsNoLine)), reports.1.1, all.1)

-- nor does a read of it give bytes
pub none_read : {left_old left contents_old contents : Option (List ℕ)} {line held : List ℕ} {reads : ℕ} → RunsOn left_old left contents_old contents line held reads → left_old ≡ Some [] →
    (new : Option (List ℕ)) (piece : List ℕ) → Consumes left new piece → piece ≡ []
none_read run none new piece takes = (none_taken new piece (subst (λ (o : Option (List ℕ)). Consumes o new piece) (none_run run none).2 takes)).0

-- equal bytes have the same value
pub same_of : {A B : Type 0} (f : A → B) (a b : A) (v : B) → a ≡ b → f b ≡ v → f a ≡ v
same_of f a b v same is = ap f same ∙ is

-- a known input is not read that often
pub known_reads : (old new contents_old contents_new : Option (List ℕ)) (line held : List ℕ) (reads : ℕ) → RunsOn old new contents_old contents_new line held reads →
    IsSome old → IfSome old (λ bytes. length bytes < 2 ^ 63) → reads < 2 ^ 63
known_reads None new contents_old contents_new line held reads run known few = absurd (false≢true known)
known_reads (Some xs) None contents_old contents_new line held reads run known few = absurd run.takes
known_reads (Some xs) (Some ys) contents_old contents_new line held reads run known few =
    let count = run.few in
    let all : length xs ≡ length (run.taken ++ ys) = ap length run.takes in
    omega (arith, length-append run.taken ys)

-- the same run, of the same contents and of the same lines that are held
pub runs_same : (left_old left contents_old a b : Option (List ℕ)) (line held same : List ℕ) (reads : ℕ) → b ≡ a → same ≡ held →
    RunsOn left_old left contents_old a line held reads → RunsOn left_old left contents_old b line same reads
runs_same left_old left contents_old a b line held same reads is is_held run =
    subst (λ (c : Option (List ℕ)). RunsOn left_old left contents_old c line same reads) (sym is) (subst (λ (h : List ℕ). RunsOn left_old left contents_old a line h reads) (sym is_held) run)

pub take_none : (count : ℕ) (bytes : List ℕ) → count ≡ 0 → take count bytes ≡ []
take_none count bytes none = ap (λ n. take n bytes) none

-- ---- bytes that are spelled by parts

spelled-cons : (line : List ℕ) (lines : List (List ℕ)) (last : List ℕ) → spelled (line ∷ lines) last ≡ line ++ 10 ∷ spelled lines last
spelled-cons line lines last =
    append_assoc (line ++ 10 ∷ []) (flat_map (λ l. l ++ 10 ∷ []) lines) last ∙ append_assoc line (10 ∷ []) (spelled lines last)

-- parts with an LF after each, and bytes after them
pub ended_parts_of-spelled : (lines : List (List ℕ)) (last : List ℕ) → All HasNoLineFeed lines → HasNoLineFeed last → ended_parts_of (spelled lines last) ≡ lines
ended_parts_of-spelled [] last each none = ended_parts_of-none last none
ended_parts_of-spelled (line ∷ lines) last each none =
    let held : HasNoLineFeed line = All-head HasNoLineFeed line lines each in
    ap ended_parts_of (spelled-cons line lines last) ∙ ended_parts_of-line_feed line (spelled lines last)
    ∙ ap (λ ps. ps ++ ended_parts_of (spelled lines last)) (slice_split_none is_line_feed line held)
    ∙ ap (λ ls. line ∷ ls) (ended_parts_of-spelled lines last (All-tail HasNoLineFeed line lines each) none)

pub open_line-spelled : (lines : List (List ℕ)) (last : List ℕ) → HasNoLineFeed last → open_line (spelled lines last) ≡ last
open_line-spelled [] last none = open_line-none last none
open_line-spelled (line ∷ lines) last none =
    ap open_line (spelled-cons line lines last) ∙ open_line-line_feed line (spelled lines last) ∙ open_line-spelled lines last none

record Spelling (bytes : List ℕ) : Type 0 where
  lines : List (List ℕ)
  last : List ℕ
  spells : spelled lines last ≡ bytes
  each : All HasNoLineFeed lines
  none : HasNoLineFeed last

longer_spelling : (b : ℕ) (lines : List (List ℕ)) (last bytes : List ℕ) → is_line_feed b ≡ false → spelled lines last ≡ bytes → All HasNoLineFeed lines → HasNoLineFeed last → Spelling (b ∷ bytes)
longer_spelling b [] last bytes is spells each none = record {
  lines = [];
  last = b ∷ last;
  spells = ap (λ xs. b ∷ xs) spells;
  each = each;
  none = All-cons EndsNoLine b last is none;
}
longer_spelling b (line ∷ lines) last bytes is spells each none = record {
  lines = (b ∷ line) ∷ lines;
  last = last;
  spells = ap (λ xs. b ∷ xs) spells;
  each = All-cons HasNoLineFeed (b ∷ line) lines (All-cons EndsNoLine b line is (All-head HasNoLineFeed line lines each)) (All-tail HasNoLineFeed line lines each);
  none = none;
}

spelling_at_byte : (b : ℕ) (bytes : List ℕ) (test : Bool) → is_line_feed b ≡ test → Spelling bytes → Spelling (b ∷ bytes)
spelling_at_byte b bytes true is s = record {
  lines = [] ∷ s.lines;
  last = s.last;
  spells = ap (λ x. x ∷ spelled s.lines s.last) (sym (eqb-true b 10 is)) ∙ ap (λ xs. b ∷ xs) s.spells;
  each = All-cons HasNoLineFeed [] s.lines (All-nil EndsNoLine) s.each;
  none = s.none;
}
spelling_at_byte b bytes false is s = longer_spelling b s.lines s.last bytes is s.spells s.each s.none

spelling : (bytes : List ℕ) → Spelling bytes
spelling [] = record { lines = []; last = []; spells = refl; each = All-nil HasNoLineFeed; none = All-nil EndsNoLine }
spelling (b ∷ bs) = spelling_at_byte b bs (is_line_feed b) refl (spelling bs)

pub ended_parts_of-spell : LinesSpellTheBytes
ended_parts_of-spell bytes =
    let s = spelling bytes in
    let ended : ended_parts_of bytes ≡ s.lines = ap ended_parts_of (sym s.spells) ∙ ended_parts_of-spelled s.lines s.last s.each s.none in
    let open_is : open_line bytes ≡ s.last = ap open_line (sym s.spells) ∙ open_line-spelled s.lines s.last s.none in
    ap (λ ls. spelled ls (open_line bytes)) ended ∙ ap (spelled s.lines) open_is ∙ s.spells

pub ended_parts_of-have_no_line_feed : (bytes : List ℕ) → All HasNoLineFeed (ended_parts_of bytes)
ended_parts_of-have_no_line_feed bytes =
    let s = spelling bytes in
    subst (All HasNoLineFeed) (sym (ap ended_parts_of (sym s.spells) ∙ ended_parts_of-spelled s.lines s.last s.each s.none)) s.each

pub no_line_feed_in_lines : NoLineFeedInLines
no_line_feed_in_lines bytes = (ended_parts_of-have_no_line_feed bytes, open_line-has_no_line_feed bytes)

pub lines_are_unique : LinesAreUnique
lines_are_unique lines last each none = (ended_parts_of-spelled lines last each none, open_line-spelled lines last none)

-- ---- returns

-- the byte is not CR
abbrev NoCr : ℕ → Type 0
NoCr b = b ≡ 13 → ⊥

kept_by_test : (b : ℕ) (short long : List ℕ) (test : Bool) → (b == 13) ≡ test → NoCr b → (if test then short else long) ≡ long
kept_by_test b short long true is other = absurd (other (eqb-true b 13 is))
kept_by_test b short long false is other = refl

-- without a CR at the end, nothing is left out
kept : (bytes : List ℕ) → NoCr (slice_index bytes (length bytes - 1)) → strip_cr bytes ≡ bytes
kept bytes other = kept_by_test (slice_index bytes (length bytes - 1)) (take (length bytes - 1) bytes) bytes (slice_index bytes (length bytes - 1) == 13) refl other

last_place : (line : List ℕ) (b : ℕ) → length (line ++ b ∷ []) - 1 ≡ length line
last_place line b = let long : length (line ++ b ∷ []) ≡ length line + 1 = length-append line (b ∷ []) in omega arith

last_byte : (line : List ℕ) (b : ℕ) → slice_index (line ++ b ∷ []) (length (line ++ b ∷ []) - 1) ≡ b
last_byte line b = ap (λ (i : ℕ). slice_index (line ++ b ∷ []) i) (last_place line b) ∙ get_or-append_seam line b [] 0

last_kept : (line : List ℕ) (b : ℕ) → NoCr b → strip_cr (line ++ b ∷ []) ≡ line ++ b ∷ []
last_kept line b other = kept (line ++ b ∷ []) (λ is. other (sym (last_byte line b) ∙ is))

cr_left_out : (line : List ℕ) → strip_cr (line ++ 13 ∷ []) ≡ line
cr_left_out line =
    let bytes : List ℕ = line ++ 13 ∷ [] in
    let by_last : strip_cr bytes ≡ take (length bytes - 1) bytes =
    λ i. if last_byte line 13 i == 13 then take (length bytes - 1) bytes else bytes in
    by_last ∙ ap (λ (n : ℕ). take n bytes) (last_place line 13) ∙ take-append_seam line (13 ∷ [])

pub one_cr_ends_a_line : OneCrEndsALine
one_cr_ends_a_line line = (cr_left_out line, λ b other. last_kept line b other)

nothing_left_out : (line : List ℕ) → All NoCr line → strip_cr line ≡ line
nothing_left_out [] all = refl
nothing_left_out (b ∷ line) all = kept (b ∷ line) (all (length (b ∷ line) - 1) 0 (omega arith))

All-front : (front rest : List ℕ) → All NoCr (front ++ rest) → All NoCr front
All-front [] rest all = All-nil NoCr
All-front (b ∷ front) rest all = All-cons NoCr b front (All-head NoCr b (front ++ rest) all) (All-front front rest (All-tail NoCr b (front ++ rest) all))

All-after : (front rest : List ℕ) → All NoCr (front ++ rest) → All NoCr rest
All-after [] rest all = all
All-after (b ∷ front) rest all = All-after front rest (All-tail NoCr b (front ++ rest) all)

-- a fact about each byte is one about each byte of each part
each_part : (parts : List (List ℕ)) (last : List ℕ) → All NoCr (spelled parts last) → All (All NoCr) parts
each_part [] last all = All-nil (All NoCr)
each_part (part ∷ parts) last all =
    let rest : All NoCr (part ++ 10 ∷ spelled parts last) = subst (All NoCr) (spelled-cons part parts last) all in
    All-cons (All NoCr) part parts (All-front part (10 ∷ spelled parts last) rest)
    (each_part parts last (All-tail NoCr 10 (spelled parts last) (All-after part (10 ∷ spelled parts last) rest)))

each_kept : (parts : List (List ℕ)) → All (All NoCr) parts → map strip_cr parts ≡ parts
each_kept [] all = refl
each_kept (part ∷ parts) all =
    λ i. nothing_left_out part (All-head (All NoCr) part parts all) i ∷ each_kept parts (All-tail (All NoCr) part parts all) i

pub lines_without_cr : LinesWithoutCr
lines_without_cr bytes all =
    each_kept (ended_parts_of bytes) (each_part (ended_parts_of bytes) (open_line bytes) (subst (All NoCr) (sym (ended_parts_of-spell bytes)) all))
