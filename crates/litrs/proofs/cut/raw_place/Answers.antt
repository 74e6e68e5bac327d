-- The places of the body, and the error, by the switches of the kind.
use Rattle.std.proofs.Common.{ap}
use Rattle.std.proofs.lemmas.Result.{err_from_is_err_and}
use Rattle.litrs_base.specs.declared.quotes.Switches.{Switches}
use Rattle.litrs.proofs.ParsedStrings.{parsed_raw_cut}
use Rattle.litrs.proofs.cut.raw_place.Goals as goal

pub returns-clause-ok : goal.returns-clause-ok
returns-clause-ok g c =
    let cut = rw (ap (λ (w : Switches). w.unicode) c.switches-switches.ensures, ap (λ (w : Switches). w.allow_nul) c.switches-switches.ensures) at c.in_ok-hashes.ensures.ok in
    parsed_raw_cut (g.A.Allows.allowed c.args.allowed).unicode (g.A.Allows.allowed c.args.allowed).allow_nul c.args.offset c.args.input.now c.in_ok-hashes.hashes c.in_ok-hashes.start_suffix
    c.utf8.input cut

pub returns-in_err-hashes-clause-refused : goal.returns-in_err-hashes-clause-refused
returns-in_err-hashes-clause-refused g c =
    let refused = rw (ap (λ (w : Switches). w.unicode) c.switches-switches.ensures, ap (λ (w : Switches). w.allow_nul) c.switches-switches.ensures) at c.in_err-hashes.ensures.refused in
    let p = err_from_is_err_and c.from_residual.result c.from_residual.ensures.1 in
    rw (p.1, p.2) refused
