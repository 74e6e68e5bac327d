-- The parts are written one after the other.
use Rattle.std.proofs.Common.{ℕ, ◌++◌, ap, ◌∙◌}
use Rattle.std.proofs.lemmas.Result.{on_ok_weaker}
use Rattle.std.specs.Prelude.{string_bytes}
use Rattle.litrs_base.specs.Base.{base_value}
use Rattle.litrs.specs.IntegerLiteral.{integer_parts}
use Rattle.litrs_lines.specs.Report.{integer_front}
use Rattle.litrs_lines.proofs.ReportLemmas.{integer_report_made}
use Rattle.litrs_lines.proofs.report.push_integer_report.Goals as goal

pub returns : goal.returns
returns g c =
    let old = string_bytes c.args.out.now in
    let digits = c.raw_main_part.result.now in
    let suffix = c.suffix.result.now in
    let base = c.value.ensures ∙ ap base_value c.base.ensures in
    let made = c.in_ok-push_integer_front.ensures ∙ ap (λ (n : ℕ). old ++ integer_front n digits suffix) base in
    on_ok_weaker c.push_integer_value.result
    (λ valued. integer_report_made old (string_bytes c.push_integer_front.new.out) (string_bytes c.push_integer_value.new.out) digits suffix (integer_parts c.args.lit.now)
    c.raw_main_part.utf8 c.suffix.utf8 c.raw_main_part.ensures c.suffix.ensures made valued)
    c.push_integer_value.ensures
