use Rattle.litrs_lines.proofs.GroupReports.{reports_are_unique}
use Rattle.litrs_lines.proofs.laws.report.reports_are_unique.Goals as goal

pub returns : goal.returns
returns c = reports_are_unique
