-- The digits after the period are the fraction.
use Rattle.litrs.specs.FloatLiteral.{float_parts}
use Rattle.litrs_lines.proofs.ReportLemmas.{fraction_field-is}
use Rattle.litrs_lines.proofs.report.fraction_field.Goals as goal

pub returns-in-Some : goal.returns-in-Some
returns-in-Some g c = fraction_field-is c.in-Some.digits.now (float_parts c.args.lit.now).fraction c.in-Some.ensures.utf8 c.in-Some.ensures.part
