-- The search finds the end of the run.
use Rattle.std.proofs.Common.{subst, ◌∙◌, ap}
use Rattle.std.specs.List.{prefix_len}
use Rattle.std.specs.Prelude.{◌+◌, drop}
use Rattle.litrs_base.specs.declared.quotes.Switches.{Switches}
use Rattle.litrs_lex.specs.declared.search.Special.{Special}
use Rattle.litrs_lex.specs.Special.{is_ordinary}
use Rattle.litrs_lex.specs.QuotedItems.{IsPlainRun}
use Rattle.litrs_lex.proofs.PlainRuns.{plain_run, special_run}
use Rattle.litrs_lex.proofs.stop.first_plain_end.Goals as goal

pub returns : goal.returns
returns g c =
    let w = c.switches.result in
    subst (λ (v : Switches). IsPlainRun v c.args.input.now c.args.from c.next_special.result) c.switches.ensures
    (plain_run _ c.args.input.now _ _ c.utf8.input c.requires
    (special_run w.unicode w.byte_escapes w.allow_nul c.args.input.now c.as_bytes.result.now _ _ c.as_bytes.ensures.value
    (c.next_special.ensures.place ∙ ap (λ (s : Special). c.args.from + prefix_len (is_ordinary s) (drop c.args.from c.as_bytes.result.now)) c.special.ensures)))
