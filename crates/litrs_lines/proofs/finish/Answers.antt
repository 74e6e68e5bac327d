use Rattle.litrs_lines.proofs.Leaving.{leaves_written}
use Rattle.litrs_lines.proofs.finish.Goals as goal

pub returns-clause-adds : goal.returns-clause-adds
returns-clause-adds g c = leaves_written _ _ _ _ _ _ _ _ c.in_ok-report_last.ensures.adds c.write_unwritten.ensures.adds
