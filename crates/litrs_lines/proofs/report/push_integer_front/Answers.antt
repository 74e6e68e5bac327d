-- The fields are written one after the other.
use Rattle.std.proofs.Common.{◌++◌, ap, ◌∙◌}
use Rattle.std.specs.Prelude.{string_bytes, codes}
use Rattle.std.specs.Fmt.{decimal}
use Rattle.std.proofs.lemmas.Result.{on_ok_weaker}
use Rattle.litrs_lines.proofs.ReportLemmas.{left_by, integer_front_made}
use Rattle.litrs_lines.proofs.report.push_integer_front.Goals as goal

pub returns : goal.returns
returns c =
    let base = decimal c.args.base in
    let digits = c.args.digits.now in
    let suffix = c.args.suffix.now in
    let old = string_bytes c.args.out.now in
    let third = string_bytes c.push_field-3.new.out in
    on_ok_weaker c.push_str.result
    (λ last. integer_front_made c.args.base digits suffix old
    (string_bytes c.push_field.new.out) (string_bytes c.push_field-2.new.out) third
    (string_bytes c.push_str.new.self)
    (c.in_ok-push_field.ensures ∙ ap (λ t. old ++ (codes "integer base=" ++ t)) c.format.ensures.text)
    c.in_ok-push_field-2.ensures c.in_ok-push_field-3.ensures last)
    (left_by c.push_str.result (string_bytes c.push_str.new.self) (third ++ codes " value=") third c.push_str.ensures.bytes)
