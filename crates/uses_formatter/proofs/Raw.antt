-- A raw literal stays raw in its form, and no other becomes raw.
use Rattle.std.proofs.Common.{◌≡◌, ℕ, List, Bool, true, false, refl, sym, ap, subst, ◌∙◌}
use Rattle.std.specs.Prelude.{if◌then◌else◌}
use Rattle.std.proofs.lemmas.Bool.{true≢false, false≢true}
use Rattle.litrs.specs.Literal.{quoted_parts, raw_parts, Derivation, a_bool, an_integer, a_float, a_char, a_byte, a_string, a_byte_string, a_c_string, IsLiteral, suffix_of}
use Rattle.litrs_build.specs.Rewriting.{rewritten}
use Rattle.litrs_build.specs.WrittenAnew.{HaveSameValue, unescaped}
use Rattle.uses_formatter.specs.Form.{form, is_raw_literal, style, IsFormOf}

raw_stays : (d : Derivation) → is_raw_literal d ≡ true → is_raw_literal (unescaped d) ≡ true
raw_stays (a_bool b) raw = absurd (false≢true raw)
raw_stays (an_integer d) raw = absurd (false≢true raw)
raw_stays (a_float d) raw = absurd (false≢true raw)
raw_stays (a_char d) raw = absurd (false≢true raw)
raw_stays (a_byte d) raw = absurd (false≢true raw)
raw_stays (a_string (quoted_parts d)) raw = absurd (false≢true raw)
raw_stays (a_string (raw_parts d)) raw = refl
raw_stays (a_byte_string (quoted_parts d)) raw = absurd (false≢true raw)
raw_stays (a_byte_string (raw_parts d)) raw = refl
raw_stays (a_c_string (quoted_parts d)) raw = absurd (false≢true raw)
raw_stays (a_c_string (raw_parts d)) raw = refl

other_stays : (d : Derivation) → is_raw_literal d ≡ false →
    is_raw_literal (rewritten style d) ≡ false
other_stays (a_bool b) other = refl
other_stays (an_integer d) other = refl
other_stays (a_float d) other = refl
other_stays (a_char d) other = refl
other_stays (a_byte d) other = refl
other_stays (a_string (quoted_parts d)) other = refl
other_stays (a_string (raw_parts d)) other = absurd (true≢false other)
other_stays (a_byte_string (quoted_parts d)) other = refl
other_stays (a_byte_string (raw_parts d)) other = absurd (true≢false other)
other_stays (a_c_string (quoted_parts d)) other = refl
other_stays (a_c_string (raw_parts d)) other = absurd (true≢false other)

-- the form of a raw literal, and that of another
form_of_raw : (d : Derivation) → is_raw_literal d ≡ true → form d ≡ unescaped d
form_of_raw d raw = ap (λ (v : Bool). if v then unescaped d else rewritten style d) raw

form_of_other : (d : Derivation) → is_raw_literal d ≡ false → form d ≡ rewritten style d
form_of_other d other = ap (λ (v : Bool). if v then unescaped d else rewritten style d) other

pub raw_form : (d : Derivation) (t : List ℕ) → is_raw_literal d ≡ true → IsLiteral t (unescaped d) →
    HaveSameValue d (unescaped d) → suffix_of (unescaped d) ≡ suffix_of d →
    unescaped (unescaped d) ≡ unescaped d → IsFormOf d t
raw_form d t raw literal value suffix again =
    let is = sym (form_of_raw d raw) in record {
      literal = subst (λ (e : Derivation). IsLiteral t e) is literal;
      value = subst (λ (e : Derivation). HaveSameValue d e) is value;
      suffix = subst (λ (e : Derivation). suffix_of e ≡ suffix_of d) is suffix;
      again = subst (λ (e : Derivation). form e ≡ e) is
          (form_of_raw (unescaped d) (raw_stays d raw) ∙ again);
    }

pub other_form : (d : Derivation) (t : List ℕ) → is_raw_literal d ≡ false →
    IsLiteral t (rewritten style d) → HaveSameValue d (rewritten style d) →
    suffix_of (rewritten style d) ≡ suffix_of d →
    rewritten style (rewritten style d) ≡ rewritten style d → IsFormOf d t
other_form d t other literal value suffix again =
    let is = sym (form_of_other d other) in record {
      literal = subst (λ (e : Derivation). IsLiteral t e) is literal;
      value = subst (λ (e : Derivation). HaveSameValue d e) is value;
      suffix = subst (λ (e : Derivation). suffix_of e ≡ suffix_of d) is suffix;
      again = subst (λ (e : Derivation). form e ≡ e) is
          (form_of_other (rewritten style d) (other_stays d other) ∙ again);
    }
