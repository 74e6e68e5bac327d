-- The float that the digits are read as is the nearest to their number.
use Rattle.std.proofs.Common.{◌≡◌, Some, false, sym, ◌∙◌}
use Rattle.std.specs.Prelude.{filter}
use Rattle.std.specs.List.{list_any}
use Rattle.std.specs.Float.Ieee.{Float, round}
use Rattle.std.specs.Float.Parse.{parse_float}
use Rattle.litrs.specs.Float.{is_underscore}
use Rattle.litrs.specs.Numeral.{numeral, is_no_underscore}
use Rattle.litrs_value.proofs.Errors.{map_ok, fails_if}
use Rattle.litrs_value.proofs.FloatTexts.{reads_decimal, is_text_by_value}
use Rattle.litrs_value.proofs.floats.decimal_float.Goals as goal

same : (a b : Float) → Some a ≡ Some b → a ≡ b
same a b e = cc

pub read_digits-requires : goal.read_digits-requires
read_digits-requires g c =
    let f = g.F.RawFloat.format in
    let t = c.args.digits.now in
    is_text_by_value f (filter is_no_underscore t) (round f false (numeral 10 t) 1) (reads_decimal f t c.requires.digits c.requires.some_digit)

pub returns-clause-value : goal.returns-clause-value
returns-clause-value g c =
    let f = g.F.RawFloat.format in
    let t = c.args.digits.now in
    map_ok c.read_digits.result (λ x. parse_float f (filter is_no_underscore t) ≡ Some (g.F.RawFloat.value x)) (λ x. g.F.RawFloat.value x ≡ round f false (numeral 10 t) 1) c.read_digits.ensures.value
    (λ x read. same _ _ (sym read ∙ reads_decimal f t c.requires.digits c.requires.some_digit))

pub returns-clause-memory : goal.returns-clause-memory
returns-clause-memory g c = fails_if c.read_digits.result (list_any is_underscore c.args.digits.now) c.read_digits.ensures.succeeds
