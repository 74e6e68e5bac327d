-- The answer of `unescape_string_with` with these switches.
use Rattle.std.proofs.Common.{◌⊎◌, subst}
use Rattle.std.specs.Prelude.{IfOk, IfErr, option_map}
use Rattle.litrs_base.specs.declared.quotes.Switches.{Switches}
use Rattle.litrs_lex.specs.QuotedCut.{IsQuotedValue, IsQuotedRefused, IsQuotedOutOfMemory}
use Rattle.litrs_lex.proofs.string.unescape_string.Goals as goal

pub returns-clause-ok : goal.returns-clause-ok
returns-clause-ok g c =
    subst (λ (w : Switches). IfOk c.unescape_string_with.result (λ read. IsQuotedValue w c.args.input.now c.args.offset (option_map g.C.EscapeContainer.contents read.0) read.1))
    c.switches-allowed.ensures c.unescape_string_with.ensures.ok

pub returns-clause-refused : goal.returns-clause-refused
returns-clause-refused g c =
    subst (λ (w : Switches). IfErr c.unescape_string_with.result (λ e. IsQuotedRefused w c.args.input.now c.args.offset e ⊎ IsQuotedOutOfMemory w c.args.input.now c.args.offset e))
    c.switches-allowed.ensures c.unescape_string_with.ensures.refused
