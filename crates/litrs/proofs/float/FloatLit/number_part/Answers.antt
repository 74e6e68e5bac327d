-- The bytes up to the suffix are the number part.
use Rattle.std.proofs.Common.{ap, ◌∙◌}
use Rattle.litrs_grammar.specs.Float.{number_part}
use Rattle.litrs.specs.FloatLiteral.{FloatLiteral, float_parts}
use Rattle.litrs_lex.proofs.FloatBytes.{number_part_at}
use Rattle.litrs.proofs.float.FloatLit.number_part.Goals as goal

pub returns : goal.returns
returns g c =
    number_part_at (g.B.Text.bytes c.self.inside.raw) c.as_str.result.now c.range.result.now c.self.inside.cut c.as_str.utf8 c.as_str.ensures c.self.invariant c.range.ensures.value
    ∙ ap (λ (lit : FloatLiteral g.row.B.Denot). number_part (float_parts lit)) c.self.view_is
