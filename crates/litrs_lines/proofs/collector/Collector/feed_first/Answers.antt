use Rattle.std.proofs.Common.{sym, ◌∙◌, inl}
use Rattle.std.proofs.lemmas.Result.{IfOk-weaker}
use Rattle.std.specs.Str.{chars}
use Rattle.litrs.specs.LiteralDerivation.{derivation}
use Rattle.litrs_grammar.specs.Literal.{literal_parse}
use Rattle.litrs.proofs.OutOfMemory.{of_memory}
use Rattle.litrs_lines.proofs.StepLemmas.{feeds_literal, copied_no_bool, allocated_no_bool}
use Rattle.litrs_lines.proofs.collector.Collector.feed_first.Goals as goal

pub returns-in-Ok-clause-fed : goal.returns-in-Ok-clause-fed
returns-in-Ok-clause-fed c =
    IfOk-weaker c.literal_step.result _ _
    (λ step is. feeds_literal c.args.self.now c.args.line.now c.in-Ok.lit step c.requires c.utf8.line c.in-Ok.ensures.raw c.in-Ok.ensures.ok is)
    c.literal_step.ensures.step

pub returns-in-Ok-clause-copied : goal.returns-in-Ok-clause-copied
returns-in-Ok-clause-copied c = λ failed.
    inl (derivation c.in-Ok.lit, c.in-Ok.ensures.ok.0, copied_no_bool c.in-Ok.lit c.literal_step.result c.literal_step.ensures.bool failed)

pub returns-in-OutOfMemory-clause-copied : goal.returns-in-OutOfMemory-clause-copied
returns-in-OutOfMemory-clause-copied c = λ failed.
    let lack = of_memory literal_parse (chars c.args.line.now) c.in-Err.e (sym c.kind.ensures ∙ c.in-OutOfMemory.is) c.in-Err.ensures.refused in
    inl (lack.derivation, lack.literal, allocated_no_bool lack.derivation lack.allocated)
