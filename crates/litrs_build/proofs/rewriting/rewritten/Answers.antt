-- The text of the parts is a literal with these parts.
use Rattle.litrs.specs.LiteralDerivation.{derivation}
use Rattle.std.proofs.Common.{string_bytes}
use Rattle.litrs_build.proofs.RewrittenLiterals.{rewritten_like, rewritten_literal}
use Rattle.litrs_build.proofs.RewrittenTwice.{rewritten_twice}
use Rattle.litrs_build.proofs.rewriting.rewritten.Goals as goal

pub returns-clause-literal : goal.returns-clause-literal
returns-clause-literal g c =
    rewritten_literal c.args.style.now c.raw_input.result.now (string_bytes c.in_ok-text.text)
    (derivation c.args.lit.now) c.raw_input.utf8 c.raw_input.ensures.literal c.in_ok-text.ensures

pub returns-clause-value : goal.returns-clause-value
returns-clause-value g c =
    (rewritten_like c.args.style.now c.raw_input.result.now (derivation c.args.lit.now)
    c.raw_input.utf8 c.raw_input.ensures.literal).0

pub returns-clause-suffix : goal.returns-clause-suffix
returns-clause-suffix g c =
    (rewritten_like c.args.style.now c.raw_input.result.now (derivation c.args.lit.now)
    c.raw_input.utf8 c.raw_input.ensures.literal).1

pub returns-clause-again : goal.returns-clause-again
returns-clause-again g c =
    rewritten_twice c.args.style.now c.raw_input.result.now (derivation c.args.lit.now)
    c.raw_input.utf8 c.raw_input.ensures.literal
