-- The main part is ASCII, so that its bytes are its characters.
use Rattle.std.proofs.Common.{◌∙◌}
use Rattle.litrs.specs.IntegerLiteral.{integer_parts}
use Rattle.litrs.proofs.NumeralLemmas.{bytes_of_digits}
use Rattle.litrs_value.proofs.floats.digits.Goals as goal

pub returns-clause-main : goal.returns-clause-main
returns-clause-main g c =
    let d = integer_parts c.args.lit.now in
    c.as_bytes.ensures.value ∙ bytes_of_digits d.base c.raw_main_part-main.result.now d.main c.raw_main_part-main.utf8 c.raw_main_part-main.ensures c.raw_input.ensures.literal.grammar.digits
