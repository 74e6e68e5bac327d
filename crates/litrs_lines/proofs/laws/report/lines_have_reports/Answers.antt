use Rattle.litrs_lines.proofs.GroupReports.{lines_have_reports}
use Rattle.litrs_lines.proofs.laws.report.lines_have_reports.Goals as goal

pub returns : goal.returns
returns c = lines_have_reports
