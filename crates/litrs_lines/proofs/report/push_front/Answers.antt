-- The parts of a string are written one after the other.
use Rattle.std.proofs.Common.{ap, ◌∙◌}
use Rattle.std.proofs.lemmas.Result.{on_ok_weaker}
use Rattle.std.specs.Prelude.{string_bytes, codes}
use Rattle.litrs_lines.specs.Report.{raw_field}
use Rattle.litrs_lines.proofs.ReportLemmas.{string_front_made}
use Rattle.litrs_lines.proofs.report.push_front.Goals as goal

pub returns-in-String : goal.returns-in-String
returns-in-String g c =
    rw c.in-String.is (on_ok_weaker c.push_string_front.result
    (λ made. string_front_made (codes "string") (string_bytes c.args.out.now) (string_bytes c.push_string_front.new.out)
    c.raw_field.result.now c.suffix.result.now c.in-String.lit.parts c.suffix.utf8
    (c.raw_field.ensures ∙ ap raw_field c.is_raw_string.ensures) c.suffix.ensures made)
    c.push_string_front.ensures)

pub returns-in-ByteString : goal.returns-in-ByteString
returns-in-ByteString g c =
    rw c.in-ByteString.is (on_ok_weaker c.push_string_front-in-ByteString.result
    (λ made. string_front_made (codes "bytestring") (string_bytes c.args.out.now) (string_bytes c.push_string_front-in-ByteString.new.out)
    c.raw_field-in-ByteString.result.now c.suffix-in-ByteString.result.now c.in-ByteString.lit.parts c.suffix-in-ByteString.utf8
    (c.raw_field-in-ByteString.ensures ∙ ap raw_field c.is_raw_byte_string.ensures) c.suffix-in-ByteString.ensures made)
    c.push_string_front-in-ByteString.ensures)

pub returns-in-CString : goal.returns-in-CString
returns-in-CString g c =
    rw c.in-CString.is (on_ok_weaker c.push_string_front-in-CString.result
    (λ made. string_front_made (codes "cstring") (string_bytes c.args.out.now) (string_bytes c.push_string_front-in-CString.new.out)
    c.raw_field-in-CString.result.now c.suffix-in-CString.result.now c.in-CString.lit.parts c.suffix-in-CString.utf8
    (c.raw_field-in-CString.ensures ∙ ap raw_field c.is_raw_c_string.ensures) c.suffix-in-CString.ensures made)
    c.push_string_front-in-CString.ensures)
