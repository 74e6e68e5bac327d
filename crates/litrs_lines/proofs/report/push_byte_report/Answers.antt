-- The parts are written one after the other.
use Rattle.std.proofs.Common.{◌∙◌}
use Rattle.std.proofs.lemmas.Result.{on_ok_weaker}
use Rattle.std.specs.Prelude.{string_bytes, codes}
use Rattle.litrs.specs.CharLiteral.{byte_parts}
use Rattle.litrs_lines.proofs.ReportLemmas.{char_report_made}
use Rattle.litrs_lines.proofs.report.push_byte_report.Goals as goal

pub returns : goal.returns
returns g c =
    on_ok_weaker c.push_char_parts.result
    (λ made. char_report_made (codes "byte") (string_bytes c.args.out.now) (string_bytes c.push_char_parts.new.out) c.suffix.result.now c.from.result (byte_parts c.args.lit.now)
    c.suffix.utf8 (c.from.ensures ∙ c.value.ensures) c.suffix.ensures made)
    c.push_char_parts.ensures
