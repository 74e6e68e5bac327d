-- A text that has an error other than `Memory` does not have a value of the type.
use Rattle.std.proofs.Common.{◌≢◌, ℕ, Bool, List, refl, sym, ◌∙◌, subst}
use Rattle.std.proofs.lemmas.Bool.{false≢true}
use Rattle.std.specs.Str.{chars}
use Rattle.litrs_grammar.proofs.Laws.Literal.{literals_are_unique}
use Rattle.litrs.specs.Literal.{Derivation}
use Rattle.litrs_value.specs.Laws.{RefusedTextsHaveNoValue}
use Rattle.litrs_value.specs.Reads.{is_negative, unsigned, IsReadAs}
use Rattle.litrs_value.specs.Refuses.{Refuses, HasValueOf}
use Rattle.litrs_value.specs.declared.value_type.ValueType.{ValueType}
use Rattle.litrs_value.specs.declared.error.ValueError.{ValueError}
use Rattle.litrs_value.specs.declared.error.ValueError.TheVariants.{Malformed, Kind, Sign, Suffix, OutOfRange, Memory}

-- for one literal
no_value : (type : ValueType) (negative : Bool) (d : Derivation) (e : ValueError) → e ≢ Memory → Refuses type negative d e → HasValueOf type negative d → ⊥
no_value type negative d (Malformed e) not_memory is value = is
no_value type negative d (Kind x found) not_memory is value = false≢true (sym is.2 ∙ value.0.kind)
no_value type negative d (Sign found) not_memory is value = false≢true (sym is.3 ∙ value.0.sign is.2)
no_value type negative d (Suffix x len) not_memory is value = is.4 value.0.suffix
no_value type negative d (OutOfRange x) not_memory is value = is.2 value.1
no_value type negative d Memory not_memory is value = not_memory refl

-- for the literal of the text
of_text : (type : ValueType) (text : List ℕ) (d b : Derivation) (e : ValueError) → e ≢ Memory → IsReadAs text d → IsReadAs text b →
    Refuses type (is_negative text) b e → HasValueOf type (is_negative text) d → ⊥
of_text type text d b e not_memory read other is value = no_value type (is_negative text) d e not_memory
    (subst (λ (x : Derivation). Refuses type (is_negative text) x e) (literals_are_unique (chars (unsigned text)) b d other read) is) value

pub refused_texts_have_no_value : RefusedTextsHaveNoValue
refused_texts_have_no_value type text (Malformed e) d not_memory is read value = is.1.none d read
refused_texts_have_no_value type text (Kind x found) d not_memory is read value = of_text type text d is.0 (Kind x found) not_memory read is.1 is.2 value
refused_texts_have_no_value type text (Sign found) d not_memory is read value = of_text type text d is.0 (Sign found) not_memory read is.1 is.2 value
refused_texts_have_no_value type text (Suffix x len) d not_memory is read value = of_text type text d is.0 (Suffix x len) not_memory read is.1 is.2 value
refused_texts_have_no_value type text (OutOfRange x) d not_memory is read value = of_text type text d is.0 (OutOfRange x) not_memory read is.1 is.2 value
refused_texts_have_no_value type text Memory d not_memory is read value = absurd (not_memory refl)
