-- The piece that opens is the literal, or the malformed prefix, or shorter than it.
use Rattle.litrs_prefix.proofs.Words.{ℕ, List, Some, None, drop, sym, ◌∙◌, chars, IsOnlyRest, after_opened}
use Rattle.litrs_prefix.proofs.Judged.{judged_prefix, judged_none, malformed_piece}
use Rattle.litrs_prefix.proofs.PieceEnds.{OpenedAt, opened_at}
use Rattle.litrs_prefix.proofs.extent.judged_extent.Goals as goal

-- the literal has the only rest
only_here : (bs : List ℕ) (n : ℕ) → OpenedAt bs n → IsOnlyRest (chars bs) (after_opened (chars bs)) → IsOnlyRest (chars bs) (chars (drop n bs))
only_here bs n at only = λ d r h. only d r h ∙ sym at.rest

pub overflow_sub-len : goal.overflow_sub-len
overflow_sub-len c = (opened_at c.args.text.now c.after_opened.result.now c.utf8.text c.after_opened.utf8 c.requires.opens c.after_opened.ensures).0

pub split_at-requires : goal.split_at-requires
split_at-requires c = (opened_at c.args.text.now c.after_opened.result.now c.utf8.text c.after_opened.utf8 c.requires.opens c.after_opened.ensures).1.boundary

pub returns-in-Some-true-clause-literal : goal.returns-in-Some-true-clause-literal
returns-in-Some-true-clause-literal c =
    let at = (opened_at c.args.text.now c.after_opened.result.now c.utf8.text c.after_opened.utf8 c.requires.opens c.after_opened.ensures).1 in
    let split = c.split_at.ensures in
    judged_prefix c.args.text.now c.split_at.result.0.now c.split_at.result.1.now _ c.in-Some-true.field-0 c.utf8.text at.boundary split.front split.back c.in-Some-true.ensures (cc)

pub malformed_len-requires : goal.malformed_len-requires
malformed_len-requires c =
    let at = (opened_at c.args.text.now c.after_opened.result.now c.utf8.text c.after_opened.utf8 c.requires.opens c.after_opened.ensures).1 in
    let split = c.split_at.ensures in
    record {
      boundary = at.boundary;
      some = at.some;
      is_piece = at.is_piece;
      opens = c.requires.opens;
      none = judged_none c.args.text.now c.split_at.result.0.now c.split_at.result.1.now _ (Some c.in-Some-false.field-0) c.utf8.text at.boundary split.front split.back (only_here _ _ at c.requires.only) c.in-Some-false.ensures (λ e. cc);
    }

pub returns-in-None-clause-malformed : goal.returns-in-None-clause-malformed
returns-in-None-clause-malformed c =
    let at = (opened_at c.args.text.now c.after_opened.result.now c.utf8.text c.after_opened.utf8 c.requires.opens c.after_opened.ensures).1 in
    let split = c.split_at.ensures in
    let none = judged_none c.args.text.now c.split_at.result.0.now c.split_at.result.1.now _ None c.utf8.text at.boundary split.front split.back (only_here _ _ at c.requires.only) c.in-None.ensures (λ e. cc) in
    malformed_piece c.args.text.now c.split_at.result.0.now c.split_at.result.1.now _ c.utf8.text at.boundary split.front split.back at.some at.is_piece c.requires.opens none c.in-None.ensures
