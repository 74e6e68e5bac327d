-- The search finds the end of the run.
use Rattle.std.proofs.Common.{◌∙◌, ap, sym}
use Rattle.std.specs.List.{prefix_len}
use Rattle.std.specs.Prelude.{◌+◌, ◌==◌, ◌||◌, drop}
use Rattle.litrs_base.specs.Text.{first_passes}
use Rattle.litrs_lex.specs.declared.search.Special.{Special}
use Rattle.litrs_lex.specs.Special.{is_ordinary}
use Rattle.litrs_lex.proofs.FloatBytes.{rest_is}
use Rattle.litrs_lex.proofs.PlainRuns.{plain_run, special_run, empty_run}
use Rattle.litrs_lex.proofs.stop.plain_end.Goals as goal

pub returns-then-begins_with_stop-clause-run : goal.returns-then-begins_with_stop-clause-run
returns-then-begins_with_stop-clause-run c =
    empty_run _ c.args.input.now c.args.from c.utf8.input c.requires.at
    (ap (first_passes (λ n. (n == 92) || (n == 34))) (sym (rest_is c.as_bytes.result.now c.args.input.now c.args.from c.as_bytes.ensures.value)) ∙ (sym c.begins_with_stop.ensures ∙ c.if-begins_with_stop.true))

pub returns-else-mask-from-clause-run : goal.returns-else-mask-from-clause-run
returns-else-mask-from-clause-run c =
    plain_run _ c.args.input.now _ _ c.utf8.input c.requires.at
    (special_run c.args.allowed.unicode c.args.allowed.byte_escapes c.args.allowed.allow_nul c.args.input.now c.as_bytes-else-mask-from.result.now _ _ c.as_bytes-else-mask-from.ensures.value
    (c.next_special_masked.ensures.place ∙ ap (λ (s : Special). c.args.from + prefix_len (is_ordinary s) (drop c.args.from c.as_bytes-else-mask-from.result.now)) c.special.ensures))
