-- The digits are those of a report, and ASCII.
use Rattle.std.proofs.Common.{◌∙◌, sym, ap, ◌++◌, arith}
use Rattle.std.specs.Prelude.{string_bytes}
use Rattle.hex.specs.Hex.{IsBytes}
use Rattle.litrs_lines.proofs.HexDigits.{encode_lower-is, IsUtf8-encode_lower}
use Rattle.litrs_lines.proofs.LinesLemmas.{OnOk-appended}
use Rattle.litrs_lines.proofs.report.push_hex_piece.Goals as goal

pub from_utf8_unchecked-requires : goal.from_utf8_unchecked-requires
from_utf8_unchecked-requires c = rw c.in-Ok.ensures.written (IsUtf8-encode_lower c.args.bytes.now)

pub returns : goal.returns
returns c =
    let fits : IsBytes c.args.bytes.now = λ i. let f = c.type_inv.bytes i in omega arith in
    let digits = c.from_utf8_unchecked.ensures ∙ c.in-Ok.ensures.written ∙ encode_lower-is c.args.bytes.now fits in
    OnOk-appended c.push_str.result _ (string_bytes c.args.out.now) c.from_utf8_unchecked.result.now _ c.push_str.ensures.bytes (ap (λ t. string_bytes c.args.out.now ++ t) (sym digits))
