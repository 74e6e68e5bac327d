-- A piece more, and a failure at a piece.
use Rattle.std.proofs.lemmas.Result.{err_from_is_err_and}
use Rattle.std.proofs.Common.{arith, refl, length-take}
use Rattle.std.proofs.lemmas.List.{take_rest}
use Rattle.std.proofs.lemmas.Bool.Decides.{nat_tests}
use Rattle.litrs_lines.proofs.Leaving.{leaves_memory, leaves_stopped, leaves_then_bytes, leaves_hex}
use Rattle.litrs_lines.proofs.Sending.{hex_longer, sends_last}
use Rattle.litrs_lines.proofs.report.send_hex.Goals as goal

pub slice_bounds-push_hex-end : goal.slice_bounds-push_hex-end
slice_bounds-push_hex-end g c =
    let long = c.loop-rest-test.true in
    let cut = length-take 4096 c.loop-rest.rest.now in
    first_of (omega (arith, long, cut), grind (arith, nat_tests, length-take 4096 c.loop-rest.rest.now))

pub returns-in_err-push_hex : goal.returns-in_err-push_hex
returns-in_err-push_hex g c =
    let p = err_from_is_err_and c.from_residual.result c.from_residual.ensures.1 in
    let held = c.loop-rest.reporter.collector.now in
    rw (p.1, p.2) (leaves_then_bytes _ _ _ _ _ c.loop-rest.reporter _ _ _ _ (λ out so_far. sends_last c.args.reporter.now.collector.now c.args.bytes.now c.loop-rest.rest.now held held out _ so_far (refl, refl)) c.loop-rest.invariant
    (leaves_memory _ _ _ _ _ _ held _ (record { collector = refl; unwritten = refl; writer = refl }) refl (refl, refl)))

pub returns-in_err-write_unwritten : goal.returns-in_err-write_unwritten
returns-in_err-write_unwritten g c =
    let p = err_from_is_err_and c.from_residual-in_err-write_unwritten.result c.from_residual-in_err-write_unwritten.ensures.1 in
    rw (p.1, p.2) (leaves_stopped _ _ _ _ _ _ _ _ (λ left out is. hex_longer _ _ _ left out is)
    (leaves_hex _ _ _ _ _ c.loop-rest.reporter _ _ _ _ c.loop-rest.rest.now _ 4096 refl c.loop-rest.invariant (record { collector = refl; unwritten = refl; writer = refl }) refl refl c.in_ok-push_hex.ensures c.in_err-write_unwritten.ensures.adds))

pub loop-rest-preserved : goal.loop-rest-preserved
loop-rest-preserved g c =
    leaves_hex _ _ _ _ _ c.loop-rest.reporter _ _ _ _ c.loop-rest.rest.now _ 4096 (take_rest c.loop-rest.rest.now 4096) c.loop-rest.invariant (record { collector = refl; unwritten = refl; writer = refl }) refl refl c.in_ok-push_hex.ensures c.in_ok-write_unwritten.ensures.adds
