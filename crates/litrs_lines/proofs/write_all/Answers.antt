use Rattle.std.proofs.Common.{◌∙◌}
use Rattle.litrs_lines.proofs.LinesLemmas.{writes_more}
use Rattle.litrs_lines.proofs.write_all.Goals as goal

pub loop-rest-preserved : goal.loop-rest-preserved
loop-rest-preserved g c = record {
  works = c.in-Ok.ensures.failed ∙ c.loop-rest.invariant.works;
  writes = writes_more _ _ _ _ _ _ c.loop-rest.invariant.writes c.in-Ok.ensures.bytes;
}
