-- The text can be cut before the line feed that the search finds in a part of it.
use Rattle.std.proofs.lemmas.Str.Pattern.{find_char}
use Rattle.std.proofs.Common.{Some, None, ◌≡◌, ◌+◌, ◌-◌, ◌∙◌, ℕ, List, drop, length, ap, sym, subst, arith}
use Rattle.std.proofs.Math.Seq.{drop-length}
use Rattle.std.specs.Str.{IsCharBoundary}
use Rattle.litrs_explain.specs.Comments.{from_line_feed}
use Rattle.litrs_explain.proofs.Cuts.{cut_of_part}
use Rattle.litrs_explain.proofs.LineFeeds.{from_first, from_none}
use Rattle.litrs_explain.proofs.explainer.line_end.Goals as goal

pub returns-in-Some-clause-boundary : goal.returns-in-Some-clause-boundary
returns-in-Some-clause-boundary c =
    let len = c.in-Some.len in
    let cut = subst (λ (t : List ℕ). IsCharBoundary t len) c.range.ensures.value c.in-Some.ensures.cases.3 in
    (cut_of_part c.args.text.now (record { start = c.args.at; end = c.args.end }) (record { start = len; end = len })
    (record { start = c.requires.at; end = c.requires.end; in_order = c.requires.order; within = c.requires.end.0 })
    (record { start = cut; end = cut; in_order = omega arith; within = cut.0 })).start

pub returns-in-Some-clause-before : goal.returns-in-Some-clause-before
returns-in-Some-clause-before c =
    let found = find_char 10 c.range.result.now (Some c.in-Some.len) c.in-Some.ensures.cases (omega arith) in
    omega (arith, found.0, c.range.ensures.len, c.requires.order)

pub returns-in-Some-clause-line : goal.returns-in-Some-clause-line
returns-in-Some-clause-line c =
    let part = c.range.result.now in
    let len = c.in-Some.len in
    let found = find_char 10 part (Some len) c.in-Some.ensures.cases (omega arith) in
    let same : len ≡ (c.args.at + len) - c.args.at = omega arith in
    subst (λ (t : List ℕ). from_line_feed t ≡ drop ((c.args.at + len) - c.args.at) t) c.range.ensures.value
    (from_first part len found.0 found.1 found.2 ∙ ap (λ (n : ℕ). drop n part) same)

pub returns-in-None-clause-line : goal.returns-in-None-clause-line
returns-in-None-clause-line c =
    let part = c.range.result.now in
    let none = find_char 10 part None c.in-None.ensures.cases (omega arith) in
    let size : length part ≡ c.args.end - c.args.at = omega (arith, c.range.ensures.len) in
    subst (λ (t : List ℕ). from_line_feed t ≡ drop (c.args.end - c.args.at) t) c.range.ensures.value
    (from_none part none ∙ sym (drop-length part) ∙ ap (λ (n : ℕ). drop n part) size)
