-- The error of the literal is that of the front of the text.
use Rattle.std.proofs.Common.{◌-◌, Bool, length, refl, subst}
use Rattle.litrs.specs.LiteralDerivation.{literal_raw, derivation}
use Rattle.litrs_value.specs.Refuses.{Refuses}
use Rattle.litrs_value.proofs.Fronts.{refused_prefix}
use Rattle.litrs_value.proofs.prefix.value_before.Goals as goal

pub returns-in-Err-clause-refused : goal.returns-in-Err-clause-refused
returns-in-Err-clause-refused g c =
    let type = g.T.FromLiteral.value_type in
    let literal = c.args.literal.now in
    let d = derivation literal in
    refused_prefix type c.args.text.now (literal_raw literal) c.args.rest.now d (record { error = c.in-Err.error; len = length c.args.text.now - length c.args.rest.now }) c.utf8.text c.utf8.rest c.requires.spells c.requires.found
    (subst (λ (b : Bool). Refuses type b d c.in-Err.error) c.requires.negative c.in-Err.ensures.refused) refl
