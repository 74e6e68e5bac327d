-- The hashes decide.
use Rattle.std.proofs.Common.{ap}
use Rattle.litrs_base.specs.declared.quotes.Switches.{Switches}
use Rattle.litrs_lex.proofs.StringFronts.{raw_boundary}
use Rattle.litrs.proofs.StringEnds.{raw_string}
use Rattle.litrs.proofs.going_on.raw.raw_goes_on.Goals as goal

pub raw_body_goes_on-requires : goal.raw_body_goes_on-requires
raw_body_goes_on-requires c =
    rw (c.front_len.ensures.raw)
    (raw_boundary c.args.kind c.args.text.now c.utf8.text c.requires)

pub returns : goal.returns
returns c =
    let goes = rw (c.front_len.ensures.raw, ap (λ (w : Switches). w.unicode) c.switches.ensures, ap (λ (w : Switches). w.allow_nul) c.switches.ensures) at c.raw_body_goes_on.ensures in
    raw_string c.args.kind c.args.text.now c.raw_body_goes_on.result c.utf8.text c.requires goes
