-- The parts are written one after the other.
use Rattle.std.proofs.lemmas.Result.{on_ok_weaker}
use Rattle.std.specs.Prelude.{string_bytes}
use Rattle.litrs.specs.FloatLiteral.{float_parts}
use Rattle.litrs_lines.proofs.ReportLemmas.{float_report_made}
use Rattle.litrs_lines.proofs.report.push_float_report.Goals as goal

pub returns : goal.returns
returns g c =
    on_ok_weaker c.push_float_parts.result
    (λ made. float_report_made (string_bytes c.args.out.now) (string_bytes c.push_float_parts.new.out) c.integer_part.result.now c.fraction_field.result.now c.exponent_part.result.now c.suffix.result.now
    (float_parts c.args.lit.now) c.integer_part.utf8 c.exponent_part.utf8 c.suffix.utf8 c.integer_part.ensures c.fraction_field.ensures c.exponent_part.ensures c.suffix.ensures made)
    c.push_float_parts.ensures
