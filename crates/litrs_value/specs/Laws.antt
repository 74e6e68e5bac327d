-- Laws of values.
use Rattle.std.specs.Prelude.{◌≢◌, List, ℕ}
use Rattle.litrs.specs.Literal.{Derivation}
use Rattle.litrs_value.specs.Reads.{is_negative, IsReadAs, IsValueError}
use Rattle.litrs_value.specs.Refuses.{HasValueOf}
use Rattle.litrs_value.specs.declared.value_type.ValueType.{ValueType}
use Rattle.litrs_value.specs.declared.error.ValueError.{ValueError}
use Rattle.litrs_value.specs.declared.error.ValueError.TheVariants.{Memory}

-- A text that has an error other than `Memory` does not have a value of the type.
abbrev pub RefusedTextsHaveNoValue : Type 0
RefusedTextsHaveNoValue = (type : ValueType) (text : List ℕ) (e : ValueError) (d : Derivation) →
    e ≢ Memory → IsValueError type text e → IsReadAs text d →
    ¬ HasValueOf type (is_negative text) d
