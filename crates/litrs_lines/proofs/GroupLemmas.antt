-- The groups of lines: each list of lines has them, and no other; and how their texts are found from line to line.
use Rattle.std.proofs.Common.{◌≡◌, ◌∙◌, ◌⊎◌, inl, inr, ℕ, Bool, true, false, List, [], ◌∷◌, ◌++◌, refl, sym, ap, subst, append_assoc, append-nil}
use Rattle.std.specs.Prelude.{All, map}
use Rattle.std.specs.Str.{IsUtf8, is_utf8}
use Rattle.std.proofs.lemmas.Str.{is_utf8-from_IsUtf8, IsUtf8-from_is_utf8}
use Rattle.std.proofs.lemmas.List.Elements.{All-nil, All-cons, All-append, All-head, All-tail}
use Rattle.litrs_lines.specs.Steps.{IsUnfinished}
use Rattle.litrs_lines.specs.StepLaws.{HasStep}
use Rattle.litrs_lines.proofs.StepLemmas.{steps_are_decided, without_line_feed}
use Rattle.litrs_lines.specs.Groups.{IsNoText, joined, IsFinished, NoTextNext, EndsGroup, IsGroup, IsOtherLine, AreGroups}
use Rattle.litrs_lines.specs.GroupsLaws.{LinesHaveGroups, GroupsAreUnique}
use Rattle.litrs_lines.specs.Ended.{unless_held, LineEnds, LinesEnd}

-- ---- one line

-- never both
finished_is_not : (t : List ℕ) → IsFinished t → IsUnfinished t → ⊥
finished_is_not t (inl d) more = more.0 d.0 d.1
finished_is_not t (inr none) more = none more.1

-- the groups that some line ends, and the lines that it leaves
abbrev LineHasEnds : (held line : List ℕ) → Type 0
LineHasEnds held line = (texts : List (List ℕ)) × (left : List ℕ) × LineEnds held line texts left

text_ends : (held line : List ℕ) → IsUtf8 line → HasStep (held ++ line) → LineHasEnds held line
text_ends held line u (inl d) = ((held ++ line) ∷ [], [], inr (inl (u, inl d, refl, refl)))
text_ends held line u (inr (inl more)) = ([], (held ++ line) ++ 10 ∷ [], inl (u, more, refl, refl))
text_ends held line u (inr (inr r)) = ((held ++ line) ∷ [], [], inr (inl (u, inr r.2, refl, refl)))

line_ends : (held line : List ℕ) (v : Bool) → is_utf8 line ≡ v → LineHasEnds held line
line_ends held line true is = text_ends held line (IsUtf8-from_is_utf8 line is) (steps_are_decided (held ++ line))
line_ends held line false is =
    let none : IsNoText line = λ u. let both : true ≡ false = sym (is_utf8-from_IsUtf8 line u) ∙ is in cc in
    (unless_held held ++ line ∷ [], [], inr (inr (none, refl, refl)))

pub unless_held-some : (held t : List ℕ) → held ≡ t ++ 10 ∷ [] → unless_held held ≡ t ∷ []
unless_held-some held [] is = ap unless_held is
unless_held-some held (b ∷ t) is = ap unless_held is ∙ ap (λ (x : List ℕ). x ∷ []) (without_line_feed (b ∷ t))

-- ---- more lines

-- all lines end some groups
pub lines_end : (held : List ℕ) (lines : List (List ℕ)) → (texts : List (List ℕ)) × (left : List ℕ) × LinesEnd held lines texts left
lines_end held [] = ([], held, (refl, refl))
lines_end held (line ∷ lines) =
    let one = line_ends held line (is_utf8 line) refl in
    let rest = lines_end one.1 lines in
    (one.0 ++ rest.0, rest.1, (one.0, one.1, rest.0, one.2, rest.2, refl))

pub LinesEnd-one : (held line : List ℕ) (texts : List (List ℕ)) (left : List ℕ) → LineEnds held line texts left → LinesEnd held (line ∷ []) texts left
LinesEnd-one held line texts left is = (texts, left, [], is, (refl, refl), sym (append-nil texts))

pub LinesEnd-append : (held : List ℕ) (lines more : List (List ℕ)) (between left : List ℕ) (texts next : List (List ℕ)) →
    LinesEnd held lines texts between → LinesEnd between more next left → LinesEnd held (lines ++ more) (texts ++ next) left
LinesEnd-append held [] more between left texts next none b =
    subst (λ (h : List ℕ). LinesEnd h more (texts ++ next) left) none.1
    (subst (λ (ts : List (List ℕ)). LinesEnd between more ts left) (sym (ap (λ (ts : List (List ℕ)). ts ++ next) none.0)) b)
LinesEnd-append held (line ∷ lines) more between left texts next a b =
    (a.0, a.1, a.2 ++ next, a.3, LinesEnd-append a.1 lines more between left a.2 next a.4 b, ap (λ (ts : List (List ℕ)). ts ++ next) a.5 ∙ append_assoc a.0 a.2 next)

-- ---- lists that are joined

nothing_before : {A : Type 0} (front rest : List A) → front ++ rest ≡ [] → front ≡ []
nothing_before [] rest is = refl
nothing_before (x ∷ front) rest is = let no : x ∷ (front ++ rest) ≡ [] = is in cc

nothing_after : {A : Type 0} (front rest : List A) → front ++ rest ≡ [] → rest ≡ []
nothing_after [] rest is = is
nothing_after (x ∷ front) rest is = let no : x ∷ (front ++ rest) ≡ [] = is in cc

-- the first of a list, and what follows it
abbrev first_or : {A : Type 0} → A → List A → A
first_or d [] = d
first_or d (x ∷ xs) = x

abbrev after_first : {A : Type 0} → List A → List A
after_first [] = []
after_first (x ∷ xs) = xs

-- a prefix of a list with one more is a prefix of the list, if something follows it
shorter_front : {A : Type 0} (front rest list : List A) (last : A) → (rest ≡ [] → ⊥) → front ++ rest ≡ list ++ last ∷ [] → (more : List A) × (front ++ more ≡ list)
shorter_front [] rest list last some is = (list, refl)
shorter_front (x ∷ front) rest [] last some is =
    let none : front ++ rest ≡ [] = ap after_first is in
    absurd (some (nothing_after front rest none))
shorter_front (x ∷ front) rest (y ∷ list) last some is =
    let tail : front ++ rest ≡ list ++ last ∷ [] = ap after_first is in
    let head : x ≡ y = ap (first_or x) is in
    let shorter = shorter_front front rest list last some tail in
    (shorter.0, λ i. head i ∷ shorter.1 i)

-- of two prefixes of a list one is a prefix of the other
compare_fronts : {A : Type 0} (front after other after' : List A) → front ++ after ≡ other ++ after' →
    ((more : List A) × (front ++ more ≡ other) × (after ≡ more ++ after')) ⊎ ((more : List A) × (other ++ more ≡ front) × (after' ≡ more ++ after))
compare_fronts [] after other after' is = inl (other, refl, is)
compare_fronts (x ∷ front) after [] after' is = inr (x ∷ front, refl, sym is)
compare_fronts (x ∷ front) after (y ∷ other) after' is =
    let head : x ≡ y = ap (first_or x) is in
    let tail : front ++ after ≡ other ++ after' = ap after_first is in
    elim (compare_fronts front after other after' tail) [
      | inl longer ↦ inl (longer.0, (λ i. head i ∷ longer.1 i), longer.2)
      | inr longer ↦ inr (longer.0, (λ i. sym head i ∷ longer.1 i), longer.2)
    ]

-- a fact about all is one about the first after a front
of_next : (P : List ℕ → Type 0) (front : List (List ℕ)) (line : List ℕ) (rest : List (List ℕ)) → All P (front ++ line ∷ rest) → P line
of_next P [] line rest all = All-head P line rest all
of_next P (x ∷ front) line rest all = of_next P front line rest (All-tail P x (front ++ line ∷ rest) all)

-- ---- the text of lines

-- lines with an LF after each
abbrev pub with_ends : List (List ℕ) → List ℕ
with_ends [] = []
with_ends (line ∷ lines) = line ++ 10 ∷ with_ends lines

joined-last : (lines : List (List ℕ)) (last : List ℕ) → joined (lines ++ last ∷ []) ≡ with_ends lines ++ last
joined-last [] last = refl
joined-last (line ∷ []) last = sym (append_assoc line (10 ∷ []) last)
joined-last (line ∷ next ∷ lines) last =
    ap (λ (t : List ℕ). line ++ 10 ∷ t) (joined-last (next ∷ lines) last) ∙ sym (append_assoc line (10 ∷ with_ends (next ∷ lines)) last)

with_ends-last : (lines : List (List ℕ)) (last : List ℕ) → with_ends (lines ++ last ∷ []) ≡ (with_ends lines ++ last) ++ 10 ∷ []
with_ends-last [] last = refl
with_ends-last (line ∷ lines) last =
    ap (λ (t : List ℕ). line ++ 10 ∷ t) (with_ends-last lines last)
    ∙ sym (ap (λ (t : List ℕ). t ++ 10 ∷ []) (append_assoc line (10 ∷ with_ends lines) last) ∙ append_assoc line (10 ∷ (with_ends lines ++ last)) (10 ∷ []))

with_ends-joined : (line : List ℕ) (lines : List (List ℕ)) → with_ends (line ∷ lines) ≡ joined (line ∷ lines) ++ 10 ∷ []
with_ends-joined line [] = refl
with_ends-joined line (next ∷ lines) =
    ap (λ (t : List ℕ). line ++ 10 ∷ t) (with_ends-joined next lines) ∙ sym (append_assoc line (10 ∷ joined (next ∷ lines)) (10 ∷ []))

-- ---- lines that are held

-- texts that are unfinished, each front of them too
record IsOpen (group : List (List ℕ)) : Type 0 where
  texts : All IsUtf8 group
  unfinished : (front rest : List (List ℕ)) → front ++ rest ≡ group → (front ≡ [] → ⊥) → IsUnfinished (joined front)

open_none : IsOpen []
open_none = record { texts = All-nil IsUtf8; unfinished = λ front rest is some. absurd (some (nothing_before front rest is)) }

one_text : (line : List ℕ) → IsUtf8 line → All IsUtf8 (line ∷ [])
one_text line text = All-cons IsUtf8 line [] text (All-nil IsUtf8)

-- one line more
module _ (group : List (List ℕ)) (line : List ℕ) (held : IsOpen group) where
  -- each shorter front of it
  fronts_unfinished : (front rest : List (List ℕ)) → front ++ rest ≡ group ++ line ∷ [] → (front ≡ [] → ⊥) → (rest ≡ [] → ⊥) → IsUnfinished (joined front)
  fronts_unfinished front rest is some more =
      let shorter = shorter_front front rest group line more is in
      held.unfinished front shorter.0 shorter.1 some

  front_unfinished : (front rest : List (List ℕ)) → IsUnfinished (joined (group ++ line ∷ [])) → front ++ rest ≡ group ++ line ∷ [] → (front ≡ [] → ⊥) → IsUnfinished (joined front)
  front_unfinished front [] more is some = subst (λ (ls : List (List ℕ)). IsUnfinished (joined ls)) (sym is ∙ append-nil front) more
  front_unfinished front (next ∷ rest) more is some = fronts_unfinished front (next ∷ rest) is some (λ none. cc)

  open_more : IsUtf8 line → IsUnfinished (joined (group ++ line ∷ [])) → IsOpen (group ++ line ∷ [])
  open_more text more = record {
    texts = All-append IsUtf8 group (line ∷ []) held.texts (one_text line text);
    unfinished = λ front rest is some. front_unfinished front rest more is some;
  }

-- a group whose shorter fronts are unfinished is the least
is_least : (group after : List (List ℕ)) → All IsUtf8 group →
    ((front rest : List (List ℕ)) → front ++ rest ≡ group → (front ≡ [] → ⊥) → (rest ≡ [] → ⊥) → IsUnfinished (joined front)) →
    (front rest : List (List ℕ)) → front ++ rest ≡ group → (front ≡ [] → ⊥) → (rest ≡ [] → ⊥) → EndsGroup front (rest ++ after) → ⊥
is_least group after texts fronts front rest is some more (inl finished) = finished_is_not (joined front) finished (fronts front rest is some more)
is_least group after texts fronts front [] is some more (inr none) = more refl
is_least group after texts fronts front (next ∷ rest) is some more (inr none) =
    none (of_next IsUtf8 front next rest (subst (All IsUtf8) (sym is) texts))

-- the lines that are held are a group, if no text follows
held_group : (line : List ℕ) (lines after : List (List ℕ)) → IsOpen (line ∷ lines) → NoTextNext after → IsGroup (line ∷ lines) after
held_group line lines after held none = record {
  some = λ nothing. cc;
  texts = held.texts;
  ends = inr none;
  least = is_least (line ∷ lines) after held.texts (λ front rest is some more. held.unfinished front rest is some);
}

some_last : (lines : List (List ℕ)) (last : List ℕ) → lines ++ last ∷ [] ≡ [] → ⊥
some_last [] last is = cc
some_last (line ∷ lines) last is = let no : line ∷ (lines ++ last ∷ []) ≡ [] = is in cc

-- with a line that finishes them they are one too
finished_group : (group : List (List ℕ)) (line : List ℕ) (after : List (List ℕ)) → IsOpen group → IsUtf8 line → IsFinished (joined (group ++ line ∷ [])) → IsGroup (group ++ line ∷ []) after
finished_group group line after held text finished =
    let texts : All IsUtf8 (group ++ line ∷ []) = All-append IsUtf8 group (line ∷ []) held.texts (one_text line text) in
    record {
      some = some_last group line;
      texts = texts;
      ends = inl finished;
      least = is_least (group ++ line ∷ []) after texts (fronts_unfinished group line held);
    }

-- ---- each list of lines has groups

-- groups of the lines, with these texts
record Grouping (lines texts : List (List ℕ)) : Type 0 where
  groups : List (List (List ℕ))
  are : AreGroups groups lines
  same : map joined groups ≡ texts

-- those of lines that are held and of others after them
abbrev GroupsFrom : (group lines : List (List ℕ)) → Type 0
GroupsFrom group lines = (texts : List (List ℕ)) (left : List ℕ) → LinesEnd (with_ends group) lines texts left → Grouping (group ++ lines) (texts ++ unless_held left)

module _ (line : List ℕ) (lines : List (List ℕ)) (after : (group : List (List ℕ)) → IsOpen group → GroupsFrom group lines) where
  -- if nothing is held after the line
  after_nothing : (between : List ℕ) (texts : List (List ℕ)) (left : List ℕ) → between ≡ [] → LinesEnd between lines texts left → Grouping lines (texts ++ unless_held left)
  after_nothing between texts left none end = after [] open_none texts left (subst (λ (h : List ℕ). LinesEnd h lines texts left) none end)

  groups_at_more : (group : List (List ℕ)) (between : List ℕ) (texts : List (List ℕ)) (left : List ℕ) → IsOpen group → IsUtf8 line → IsUnfinished (with_ends group ++ line) →
      between ≡ (with_ends group ++ line) ++ 10 ∷ [] → LinesEnd between lines texts left → Grouping (group ++ line ∷ lines) (texts ++ unless_held left)
  groups_at_more group between texts left held text more is end =
      let unfinished : IsUnfinished (joined (group ++ line ∷ [])) = subst IsUnfinished (sym (joined-last group line)) more in
      let rest = after (group ++ line ∷ []) (open_more group line held text unfinished) texts left
      (subst (λ (h : List ℕ). LinesEnd h lines texts left) (is ∙ sym (with_ends-last group line)) end) in
      record {
        groups = rest.groups;
        are = subst (AreGroups rest.groups) (append_assoc group (line ∷ []) lines) rest.are;
        same = rest.same;
      }

  groups_at_end : (group texts : List (List ℕ)) → IsOpen group → IsUtf8 line → IsFinished (with_ends group ++ line) → Grouping lines texts →
      Grouping (group ++ line ∷ lines) ((with_ends group ++ line) ∷ texts)
  groups_at_end group texts held text finished rest =
      let whole : IsFinished (joined (group ++ line ∷ [])) = subst IsFinished (sym (joined-last group line)) finished in
      record {
        groups = (group ++ line ∷ []) ∷ rest.groups;
        are = (lines, append_assoc group (line ∷ []) lines, inl (finished_group group line lines held text whole), rest.are);
        same = λ i. joined-last group line i ∷ rest.same i;
      }

  groups_at_other : (group texts : List (List ℕ)) → IsOpen group → IsNoText line → Grouping lines texts →
      Grouping (group ++ line ∷ lines) ((unless_held (with_ends group) ++ line ∷ []) ++ texts)
  groups_at_other [] texts held none rest = record {
    groups = (line ∷ []) ∷ rest.groups;
    are = (lines, refl, inr (line, refl, none), rest.are);
    same = ap (λ (ts : List (List ℕ)). line ∷ ts) rest.same;
  }
  groups_at_other (first ∷ group) texts held none rest = record {
    groups = (first ∷ group) ∷ (line ∷ []) ∷ rest.groups;
    are = (line ∷ lines, refl, inl (held_group first group (line ∷ lines) held none), (lines, refl, inr (line, refl, none), rest.are));
    same = ap (λ (ts : List (List ℕ)). joined (first ∷ group) ∷ line ∷ ts) rest.same
        ∙ ap (λ (ts : List (List ℕ)). (ts ++ line ∷ []) ++ texts) (sym (unless_held-some (with_ends (first ∷ group)) (joined (first ∷ group)) (with_ends-joined first group)));
  }

  groups_at : (group first : List (List ℕ)) (between : List ℕ) (rest : List (List ℕ)) (left : List ℕ) → IsOpen group →
      LineEnds (with_ends group) line first between → LinesEnd between lines rest left → Grouping (group ++ line ∷ lines) ((first ++ rest) ++ unless_held left)
  groups_at group first between rest left held (inl more) end =
      subst (λ (ts : List (List ℕ)). Grouping (group ++ line ∷ lines) ((ts ++ rest) ++ unless_held left)) (sym more.2)
      (groups_at_more group between rest left held more.0 more.1 more.3 end)
  groups_at group first between rest left held (inr (inl finished)) end =
      subst (λ (ts : List (List ℕ)). Grouping (group ++ line ∷ lines) ((ts ++ rest) ++ unless_held left)) (sym finished.2)
      (groups_at_end group (rest ++ unless_held left) held finished.0 finished.1 (after_nothing between rest left finished.3 end))
  groups_at group first between rest left held (inr (inr other)) end =
      subst (λ (ts : List (List ℕ)). Grouping (group ++ line ∷ lines) ((ts ++ rest) ++ unless_held left)) (sym other.1)
      (subst (Grouping (group ++ line ∷ lines)) (sym (append_assoc (unless_held (with_ends group) ++ line ∷ []) rest (unless_held left)))
      (groups_at_other group (rest ++ unless_held left) held other.0 (after_nothing between rest left other.2 end)))

groups_of_held : (group : List (List ℕ)) → IsOpen group → Grouping (group ++ []) (unless_held (with_ends group))
groups_of_held [] held = record { groups = []; are = refl; same = refl }
groups_of_held (line ∷ lines) held = record {
  groups = (line ∷ lines) ∷ [];
  are = ([], refl, inl (held_group line lines [] held tt), refl);
  same = sym (unless_held-some (with_ends (line ∷ lines)) (joined (line ∷ lines)) (with_ends-joined line lines));
}

groups_from : (lines group : List (List ℕ)) → IsOpen group → GroupsFrom group lines
groups_from [] group held texts left end =
    subst (λ (ts : List (List ℕ)). Grouping (group ++ []) (ts ++ unless_held left)) (sym end.0)
    (subst (λ (h : List ℕ). Grouping (group ++ []) (unless_held h)) (sym end.1) (groups_of_held group held))
groups_from (line ∷ lines) group held texts left end =
    subst (λ (ts : List (List ℕ)). Grouping (group ++ line ∷ lines) (ts ++ unless_held left)) (sym end.5)
    (groups_at line lines (λ before open_before. groups_from lines before open_before) group end.0 end.1 end.2 left held end.3 end.4)

-- the groups that end with some lines, and the one that is then held, are the groups of the lines
pub grouped : (lines texts : List (List ℕ)) (left : List ℕ) → LinesEnd [] lines texts left → (groups : List (List (List ℕ))) × AreGroups groups lines × (map joined groups ≡ texts ++ unless_held left)
grouped lines texts left end = let found = groups_from lines [] open_none texts left end in (found.groups, found.are, found.same)

pub lines_have_groups : LinesHaveGroups
lines_have_groups lines =
    let ends = lines_end [] lines in
    let found = grouped lines ends.0 ends.1 ends.2 in
    (found.0, found.1)

-- ---- and no other

abbrev IsNextGroup : (group after : List (List ℕ)) → Type 0
IsNextGroup group after = IsGroup group after ⊎ IsOtherLine group

some_lines : (group after : List (List ℕ)) → IsNextGroup group after → group ≡ [] → ⊥
some_lines group after (inl is) none = is.some none
some_lines group after (inr other) none = let e : group ≡ other.0 ∷ [] = other.1 in cc

first_is_text : (group more longer : List (List ℕ)) (line : List ℕ) → group ≡ line ∷ [] → group ++ more ≡ longer → All IsUtf8 longer → IsUtf8 line
first_is_text group more longer line one is texts =
    All-head IsUtf8 line more (subst (All IsUtf8) (sym is ∙ ap (λ (ls : List (List ℕ)). ls ++ more) one) texts)

nothing_past_one : (group more : List (List ℕ)) (line : List ℕ) → group ++ more ≡ line ∷ [] → (group ≡ [] → ⊥) → (more ≡ [] → ⊥) → ⊥
nothing_past_one [] more line is some longer = some refl
nothing_past_one (x ∷ group) more line is some longer =
    let same : x ∷ (group ++ more) ≡ line ∷ [] = is in
    let none : group ++ more ≡ [] = cc in
    longer (nothing_after group more none)

-- no next group is longer than another
not_longer : (group more longer after after' : List (List ℕ)) → IsNextGroup group after → IsNextGroup longer after' → group ++ more ≡ longer → after ≡ more ++ after' → (more ≡ [] → ⊥) → ⊥
not_longer group more longer after after' (inl short) (inl long) is rest some =
    long.least group more is short.some some (subst (EndsGroup group) rest short.ends)
not_longer group more longer after after' (inr short) (inl long) is rest some =
    short.2 (first_is_text group more longer short.0 short.1 is long.texts)
not_longer group more longer after after' next (inr long) is rest some =
    nothing_past_one group more long.0 (is ∙ long.1) (some_lines group after next) some

none_longer : (group more longer after after' : List (List ℕ)) → IsNextGroup group after → IsNextGroup longer after' → group ++ more ≡ longer → after ≡ more ++ after' → more ≡ []
none_longer group [] longer after after' short long is rest = refl
none_longer group (x ∷ more) longer after after' short long is rest =
    absurd (not_longer group (x ∷ more) longer after after' short long is rest (λ none. cc))

same_next : (group after other after' : List (List ℕ)) → IsNextGroup group after → IsNextGroup other after' → group ++ after ≡ other ++ after' → (group ≡ other) × (after ≡ after')
same_next group after other after' next next' is = elim (compare_fronts group after other after' is) [
  | inl longer ↦
      let none : longer.0 ≡ [] = none_longer group longer.0 other after after' next next' longer.1 longer.2 in
      (sym (ap (λ (ls : List (List ℕ)). group ++ ls) none ∙ append-nil group) ∙ longer.1, longer.2 ∙ ap (λ (ls : List (List ℕ)). ls ++ after') none)
  | inr longer ↦
      let none : longer.0 ≡ [] = none_longer other longer.0 group after' after next' next longer.1 longer.2 in
      (sym (sym (ap (λ (ls : List (List ℕ)). other ++ ls) none ∙ append-nil other) ∙ longer.1), sym (longer.2 ∙ ap (λ (ls : List (List ℕ)). ls ++ after) none))
]

no_groups : (group after : List (List ℕ)) → IsNextGroup group after → group ++ after ≡ [] → ⊥
no_groups group after next is = some_lines group after next (nothing_before group after is)

one_grouping : (groups others : List (List (List ℕ))) (lines : List (List ℕ)) → AreGroups groups lines → AreGroups others lines → groups ≡ others
one_grouping [] [] lines a b = refl
one_grouping [] (other ∷ others) lines a b = absurd (no_groups other b.0 b.2 (b.1 ∙ a))
one_grouping (group ∷ groups) [] lines a b = absurd (no_groups group a.0 a.2 (a.1 ∙ b))
one_grouping (group ∷ groups) (other ∷ others) lines a b =
    let same = same_next group a.0 other b.0 a.2 b.2 (a.1 ∙ sym b.1) in
    let rest : groups ≡ others = one_grouping groups others b.0 (subst (AreGroups groups) same.1 a.3) b.3 in
    λ i. same.0 i ∷ rest i

pub groups_are_unique : GroupsAreUnique
groups_are_unique lines groups others a b = one_grouping groups others lines a b
