-- Without a period the exponent decides.
use Rattle.std.proofs.Common.{sym, ap, ◌∙◌}
use Rattle.litrs_grammar.specs.Float.{is_exponent}
use Rattle.litrs_build.proofs.FloatLemmas.{exponent-chars}
use Rattle.litrs_build.proofs.floats.has_float_form.Goals as goal

pub returns-in-None : goal.returns-in-None
returns-in-None c =
    rw c.in-None.is (c.is_exponent.ensures
    ∙ (ap is_exponent c.as_bytes.ensures.value
    ∙ sym (exponent-chars c.args.exponent.now c.utf8.exponent)))
