-- The report on a literal is its front, the bytes in hex and an LF.
use Rattle.std.proofs.lemmas.Result.{err_from_is_err_and}
use Rattle.std.proofs.Common.{◌∙◌, ◌++◌, ◌∷◌, [], ℕ, List, refl, rules, ap}
use Rattle.std.specs.Prelude.{string_bytes}
use Rattle.litrs.specs.LiteralDerivation.{derivation}
use Rattle.litrs_lines.specs.ReportParts.{literal_front}
use Rattle.litrs_lines.proofs.Leaving.{leaves_memory, leaves_added, leaves_stopped, leaves_as, leaves_bytes}
use Rattle.litrs_lines.proofs.ReportLemmas.{report_spelled}
use Rattle.litrs_lines.proofs.report.report_literal.Goals as goal

pub returns-in_err-send_hex : goal.returns-in_err-send_hex
returns-in_err-send_hex g c =
    let p = err_from_is_err_and c.from_residual-in_err-send_hex.result c.from_residual-in_err-send_hex.ensures.1 in
    let held = c.args.reporter.now.collector.now in
    rw (p.1, p.2) (leaves_stopped _ _ _ _ _ _ _ _ (λ left out is. (left, 10 ∷ [], report_spelled held left (out ++ 10 ∷ []) _ _ c.hex_value.ensures (is.0, ap (λ (l : List ℕ). l ++ 10 ∷ []) is.1)))
    (leaves_bytes _ _ _ _ _ _ _ _ _
    (leaves_added _ _ _ c.args.reporter.now _ _ (literal_front (derivation c.args.lit.now)) (record { collector = refl; unwritten = refl; writer = refl }) refl (refl, refl) c.in_ok-push_front.ensures) c.in_err-send_hex.ensures))

pub returns-in_err-push : goal.returns-in_err-push
returns-in_err-push g c =
    let p = err_from_is_err_and c.from_residual-in_err-push.result c.from_residual-in_err-push.ensures.1 in
    rw (p.1, p.2) (leaves_as _ _ _ _ _ _ _ _ (λ left out is. report_spelled c.args.reporter.now.collector.now left out _ _ c.hex_value.ensures is)
    (leaves_bytes _ _ _ _ _ _ _ _ _ (leaves_bytes _ _ _ _ _ _ _ _ _
    (leaves_added _ _ _ c.args.reporter.now _ _ (literal_front (derivation c.args.lit.now)) (record { collector = refl; unwritten = refl; writer = refl }) refl (refl, refl) c.in_ok-push_front.ensures) c.in_ok-send_hex.ensures)
    (leaves_memory _ _ _ _ _ _ c.send_hex.new.reporter.collector.now (10 ∷ []) (record { collector = refl; unwritten = refl; writer = refl }) refl (refl, refl))))

pub returns : goal.returns
returns g c = leaves_as _ _ _ _ _ _ _ _ (λ left out is. report_spelled c.args.reporter.now.collector.now left out _ _ c.hex_value.ensures is)
    (leaves_bytes _ _ _ _ _ _ _ _ _ (leaves_bytes _ _ _ _ _ _ _ _ _
    (leaves_added _ _ _ c.args.reporter.now _ _ (literal_front (derivation c.args.lit.now)) (record { collector = refl; unwritten = refl; writer = refl }) refl (refl, refl) c.in_ok-push_front.ensures) c.in_ok-send_hex.ensures)
    (leaves_added _ _ _ c.send_hex.new.reporter _ _ (10 ∷ []) (record { collector = refl; unwritten = refl; writer = refl }) refl (refl, refl)
    (c.in_ok-push.ensures.bytes ∙ ap (λ (l : List ℕ). string_bytes c.send_hex.new.reporter.unwritten.now ++ l) (c.in_ok-push.ensures.ascii (search rules)))))
