-- The place is in a line end iff the text before it ends with CR, and the text after it starts with
-- LF.
use Rattle.std.proofs.Common.{◌≡◌, ◌≢◌, ◌-◌, ◌++◌, [], ◌∷◌, Some, None, true, false, eqb, length, get_or, refl, sym, ap, ◌∙◌, arith, true≢false, ne_eqb, length-append, lit<}
use Rattle.std.proofs.lemmas.Str.Pattern.{starts_char, strip_suffix_char}
use Rattle.litrs_base.specs.Text.{first_passes}
use Rattle.litrs_diagnostic.specs.Position.{is_line_feed}
use Rattle.litrs_diagnostic.specs.Line.{is_carriage_return, last_passes}
use Rattle.litrs_diagnostic.proofs.Cuts.{before_line_end_is, first_passes-is, not_both}
use Rattle.litrs_diagnostic.proofs.TextLines.{last_passes-end, last_passes-none}
use Rattle.litrs_diagnostic.proofs.lines.before_line_end.Goals as goal

pub returns-in-Some-clause-value : goal.returns-in-Some-clause-value
returns-in-Some-clause-value c =
    let before = c.split_at.result.0.now in
    let after = c.split_at.result.1.now in
    let whole : before ≡ c.in-Some.line.now ++ 13 ∷ [] =
    strip_suffix_char 13 before (Some c.in-Some.line) c.in-Some.ensures.cases (lit< tt) in
    let ends : last_passes is_carriage_return before ≡ true =
    ap (last_passes is_carriage_return) whole
    ∙ last_passes-end is_carriage_return c.in-Some.line.now 13 in
    let first : get_or after 0 0 ≡ 10 =
    (starts_char 10 after c.starts_with.result c.starts_with.ensures.cases (lit< tt) (lit< tt)).0
    c.if-starts_with.true in
    let begins : first_passes is_line_feed after ≡ true =
    first_passes-is after ∙ ap (λ n. eqb n 10) first in
    let is = before_line_end_is c.args.text.now before after c.args.place true true
    c.split_at.ensures.front c.split_at.ensures.back ends begins in
    let len : length c.in-Some.line.now ≡ c.args.place - 1 = omega (
      arith,
      c.split_at.ensures.front_len,
      ap length whole,
      length-append c.in-Some.line.now (13 ∷ []),
    ) in
    len ∙ sym is

pub returns-in_default-clause-value : goal.returns-in_default-clause-value
returns-in_default-clause-value c =
    let before = c.split_at.result.0.now in
    let after = c.split_at.result.1.now in
    let other : get_or after 0 0 ≢ 10 = λ is. true≢false (sym
    ((starts_char 10 after c.starts_with.result c.starts_with.ensures.cases (lit< tt) (lit< tt)).1
    is) ∙ c.if-starts_with.false) in
    let begins : first_passes is_line_feed after ≡ false =
    first_passes-is after ∙ ne_eqb (get_or after 0 0) 10 other in
    sym (before_line_end_is c.args.text.now before after c.args.place _ false
    c.split_at.ensures.front c.split_at.ensures.back refl begins
    ∙ not_both (last_passes is_carriage_return before) c.args.place)

pub returns-in_default-2-clause-value : goal.returns-in_default-2-clause-value
returns-in_default-2-clause-value c =
    let before = c.split_at.result.0.now in
    let after = c.split_at.result.1.now in
    let lacks = strip_suffix_char 13 before None (rw c.in_default.is at c.strip_suffix.ensures.cases)
    (lit< tt) in
    sym (before_line_end_is c.args.text.now before after c.args.place false _
    c.split_at.ensures.front c.split_at.ensures.back (last_passes-none before lacks) refl)
