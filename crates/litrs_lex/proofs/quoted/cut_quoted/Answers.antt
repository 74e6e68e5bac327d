-- The length alone is kept.
use Rattle.std.proofs.Common.{◌≡◌, ℕ, List, ◌<◌, ◌^◌, length, subst, arith}
use Rattle.litrs_base.specs.declared.quotes.Switches.{Switches}
use Rattle.litrs_lex.specs.declared.quoted.QuotedCut.{QuotedCut}
use Rattle.litrs_lex.specs.QuotedCut.{IsQuotedCut, IsQuotedRefused}
use Rattle.litrs_lex.proofs.Readings.{none_longer}
use Rattle.litrs_lex.proofs.QuotedCuts.{from_offset, cut_of, refused_of}
use Rattle.litrs_lex.proofs.quoted.cut_quoted.Goals as goal

cut_by : {v w : Switches} (bytes : List ℕ) (offset : ℕ) (cut : QuotedCut) → v ≡ w → IsQuotedCut v bytes offset cut → IsQuotedCut w bytes offset cut
cut_by bytes offset cut same is = subst (λ (w : Switches). IsQuotedCut w bytes offset cut) same is

pub overflow_sub-result : goal.overflow_sub-result
overflow_sub-result c = from_offset _ c.args.input.now _ _ _ c.utf8.input c.requires c.in-Quote.ensures.reached.read

pub returns-in-Ok-clause-ok : goal.returns-in-Ok-clause-ok
returns-in-Ok-clause-ok c =
    let body = c.in-Quote.ensures.reached in
    cut_by c.args.input.now c.args.offset _ c.switches-allowed.ensures
    (cut_of _ c.args.input.now _ _ _ _ c.utf8.input c.requires body body.read.held c.in-Ok.ensures.ok)

pub returns-in-Err-clause-refused : goal.returns-in-Err-clause-refused
returns-in-Err-clause-refused c =
    subst (λ (w : Switches). IsQuotedRefused w c.args.input.now c.args.offset c.in-Err.e) c.switches-allowed.ensures (refused_of _ c.args.input.now _ c.in-Err.e c.in-Err.ensures.refused)

pub returns-in-Refused-clause-refused : goal.returns-in-Refused-clause-refused
returns-in-Refused-clause-refused c =
    subst (λ (w : Switches). IsQuotedRefused w c.args.input.now c.args.offset c.in-Refused.e) c.switches-allowed.ensures (refused_of _ c.args.input.now _ _ c.in-Refused.ensures.reached.1)

pub unreachable-requires : goal.unreachable-requires
unreachable-requires c = none_longer _ c.args.input.now _ (let small : length c.args.input.now < 2 ^ 64 = omega arith in small) c.in-Full.ensures.reached.1
