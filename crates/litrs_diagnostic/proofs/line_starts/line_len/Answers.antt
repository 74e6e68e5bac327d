-- The first LF ends the first line.
use Rattle.std.proofs.Common.{◌≡◌, ℕ, List, Option, None, Some, IfNone, count_by, arith, subst}
use Rattle.std.specs.Str.{chars}
use Rattle.litrs_diagnostic.specs.Position.{is_line_feed}
use Rattle.memchr.specs.Find.{IsFirstByte, is_byte}
use Rattle.litrs_diagnostic.proofs.LineStarts.{line_len_is, no_line_feeds}
use Rattle.litrs_diagnostic.proofs.line_starts.line_len.Goals as goal

if_none : (o : Option ℕ) (P : Type 0) → P → IfNone o P
if_none None P fact = fact
if_none (Some at) P fact = tt

pub returns-clause-some : goal.returns-clause-some
returns-clause-some c =
    let first : IsFirstByte (is_byte 10) c.args.text.now (Some c.in_ok-at.at) =
    subst (λ (bs : List ℕ). IsFirstByte (is_byte 10) bs (Some c.in_ok-at.at))
    c.as_bytes.ensures.value c.in_ok-at.ensures in
    line_len_is c.args.text.now c.in_ok-at.at c.utf8.text first.0.high
    (λ k below. first.0.before k (omega arith) below) first.1

pub returns-in_err-at-clause-none : goal.returns-in_err-at-clause-none
returns-in_err-at-clause-none c =
    let none : IsFirstByte (is_byte 10) c.args.text.now None =
    subst (λ (bs : List ℕ). IsFirstByte (is_byte 10) bs None)
    c.as_bytes.ensures.value c.in_err-at.ensures in
    if_none c.from_residual.result (count_by is_line_feed (chars c.args.text.now) ≡ 0)
    (no_line_feeds c.args.text.now c.utf8.text (λ k within. none k (omega arith) within))
