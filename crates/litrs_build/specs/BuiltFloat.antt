-- The parts of a float. The Rust Reference, Tokens, Literals: "Floating-point literals".
use Rattle.std.specs.Prelude.{◌&&◌, Bool, not}
use Rattle.litrs_base.specs.Text.{is_empty, first_passes}
use Rattle.litrs_grammar.specs.Float.{FloatParts, is_decimal_literal, is_float_form, is_underscore}
use Rattle.litrs_grammar.specs.Integer.{is_e}
use Rattle.litrs_grammar.specs.Suffix.{is_suffix}

-- `IsFloat` of the grammar as a test: integer part, form and suffix are those of a float. The
-- suffix does not start with `_`. It starts with `e` or `E` only after an exponent.
abbrev pub is_float : FloatParts → Bool
is_float d = is_decimal_literal d.integer && (is_float_form d.fraction d.exponent d.suffix
    && (is_suffix d.suffix && (not (first_passes is_underscore d.suffix)
    && not (is_empty d.exponent && first_passes is_e d.suffix))))
