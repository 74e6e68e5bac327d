-- The kind of text that begins at the front decides.
use Rattle.litrs_prefix.proofs.Words.{length, sym, ap, ◌∙◌, arith, chars, eqb-true, true≢false, drop_all, chars-nil, is_empty}
use Rattle.litrs_prefix.proofs.MayChange.{none_stays, none_changes, literal_stays, literal_changes, malformed_stays, malformed_completes, malformed_reaches_end, malformed_line_feed, begins_later, front_later, opens_never}
use Rattle.litrs_prefix.proofs.Pieces.{bytes_left}
use Rattle.litrs_prefix.proofs.may_change.prefix_may_change.Goals as goal

pub returns-then-goes_on-clause-changes : goal.returns-then-goes_on-clause-changes
returns-then-goes_on-clause-changes c = λ yes.
    none_changes (chars c.args.text.now) (sym c.opens.ensures ∙ c.if-not-opens.true) (begins_later (chars c.args.text.now) (c.goes_on.ensures.0 yes))

pub returns-else-goes_on-clause-stays : goal.returns-else-goes_on-clause-stays
returns-else-goes_on-clause-stays c = λ front.
    let none = sym c.opens.ensures ∙ c.if-not-opens.true in
    none_stays (chars c.args.text.now) none
    (opens_never (chars c.args.text.now) none (λ begins. true≢false (sym (c.goes_on.ensures.1 begins) ∙ c.if-goes_on.false)) (sym c.is_open_front.ensures ∙ front))

pub returns-else-goes_on-clause-changes : goal.returns-else-goes_on-clause-changes
returns-else-goes_on-clause-changes c = λ front.
    none_changes (chars c.args.text.now) (sym c.opens.ensures ∙ c.if-not-opens.true) (front_later (chars c.args.text.now) (sym c.is_open_front.ensures ∙ front))

pub returns-in-Some-clause-stays : goal.returns-in-Some-clause-stays
returns-in-Some-clause-stays c = λ less.
    let at = c.in-Some.ensures in
    let some = bytes_left c.args.text.now c.in-Some.len c.utf8.text at.boundary less in
    literal_stays (chars c.args.text.now) at.literal.0 _ some at.literal.1

pub returns-in-Some-clause-changes : goal.returns-in-Some-clause-changes
returns-in-Some-clause-changes c = λ all.
    let text = c.args.text.now in
    let is = c.in-Some.ensures.literal in
    let same = eqb-true c.in-Some.len (length text) all in
    literal_changes (chars text) is.0 (rw (drop_all c.in-Some.len text (omega arith), chars-nil) at is.1)

pub returns-then-prefix_goes_on-clause-changes : goal.returns-then-prefix_goes_on-clause-changes
returns-then-prefix_goes_on-clause-changes c = λ more.
    malformed_completes (chars c.args.text.now) (sym c.opens.ensures ∙ c.if-not-opens.false) c.in_default.ensures.none (c.prefix_goes_on.ensures.0 more)

pub returns-then-is_empty-clause-changes : goal.returns-then-is_empty-clause-changes
returns-then-is_empty-clause-changes c = λ all.
    malformed_reaches_end (chars c.args.text.now) (sym c.opens.ensures ∙ c.if-not-opens.false) c.in_default.ensures.none (ap is_empty (sym c.after_opened.ensures) ∙ (sym c.is_empty.ensures ∙ all))

pub returns-else-is_empty-clause-stays : goal.returns-else-is_empty-clause-stays
returns-else-is_empty-clause-stays c = λ other.
    malformed_stays (chars c.args.text.now) (sym c.opens.ensures ∙ c.if-not-opens.false) c.in_default.ensures.none
    (λ more. true≢false (sym (c.prefix_goes_on.ensures.1 more) ∙ c.if-prefix_goes_on.false))
    (ap is_empty (sym c.after_opened.ensures) ∙ (sym c.is_empty.ensures ∙ c.if-is_empty.false)) (sym c.is_quoted_line_feed.ensures ∙ other)

pub returns-else-is_empty-clause-changes : goal.returns-else-is_empty-clause-changes
returns-else-is_empty-clause-changes c = λ is.
    malformed_line_feed (chars c.args.text.now) (sym c.opens.ensures ∙ c.if-not-opens.false) c.in_default.ensures.none (sym c.is_quoted_line_feed.ensures ∙ is)
