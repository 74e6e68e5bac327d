-- A float mark follows the decimal digits.
use Rattle.std.proofs.Common.{◌≡◌, ℕ, ◌-◌, ◌≤◌, true, List, [], ◌∷◌, length, take, drop, get_or, sym, ap, ◌∙◌, arith}
use Rattle.std.proofs.lemmas.Bool.Decides.{nat_tests}
use Rattle.std.proofs.lemmas.List.{take_rest}
use Rattle.litrs_base.specs.Text.{first_passes}
use Rattle.litrs_grammar.specs.LiteralRefusals.{is_float_mark}
use Rattle.litrs_lex.proofs.NumberBytes.{decimal_float}
use Rattle.litrs_lex.proofs.number.begins_with_float.Goals as goal

first_mark : (bytes : List ℕ) → 1 ≤ length bytes → is_float_mark (get_or bytes 0 0) ≡ true → first_passes is_float_mark bytes ≡ true
first_mark [] some mark = absurd (omega arith)
first_mark (b ∷ bytes) some mark = mark

pub returns-in-46 : goal.returns-in-46
returns-in-46 c =
    let bytes = c.args.bytes.now in
    let end = c.args.cut.now.end_main in
    let rest = take (length bytes - end) (drop end bytes) in
    let mark : is_float_mark (get_or rest 0 0) ≡ true = grind (arith, nat_tests) in
    sym (decimal_float c.args.cut.now bytes c.requires c.in-Decimal.is
    ∙ (ap (first_passes is_float_mark) (sym (take_rest bytes end)) ∙ first_mark rest c.in-46.len_at_least mark))
