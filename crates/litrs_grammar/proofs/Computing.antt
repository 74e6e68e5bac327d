-- Proofs of examples. `unfolding computing` lets `refl` compute the tables of refusals and the
-- bytes of a text.
-- Below, a text is a literal of its kind if each condition of its grammar computes.
use Rattle.std.specs.Prelude.{◌≡◌, ◌++◌, ℕ, List, Some, IsTrue, IsFalse, nat_le, true}
use Rattle.std.specs.Char.{encode_utf8}
use Rattle.std.specs.List.{list_all, list_any}
use Rattle.std.proofs.lemmas.Bool.{leb-true}
use Rattle.unicode_ident.proofs.Computing.{unicode_ident}
use Rattle.litrs_base.specs.declared.integer.IntegerBase.TheVariants as base
use Rattle.litrs_base.specs.Refusal.{Refusal, shifted}
use Rattle.litrs_base.specs.Base.{is_digit, is_digit_or_underscore}
use Rattle.litrs_base.specs.Numeral.{place_sum}
use Rattle.litrs_base.specs.Text.{byte_len, first_passes, is_empty}
use Rattle.litrs_grammar.specs.Suffix.{is_suffix}
use Rattle.litrs_base.specs.declared.quotes.Switches.{Switches}
use Rattle.litrs_base.specs.declared.quotes.CharKind.{CharKind}
use Rattle.litrs_base.specs.declared.quotes.StringKind.{StringKind}
use Rattle.litrs_base.specs.Quotes.{raw_front}
use Rattle.litrs_grammar.specs.Escape.{escape_refusal}
use Rattle.litrs_grammar.specs.Quoted.{Item, body_text, is_body, QuotedParts, quoted_text, IsQuoted, is_item_list, item_refusal, IsQuotedRefusal}
use Rattle.litrs_grammar.specs.CharByte.{CharParts, char_text, is_char_item, IsCharLiteral, char_kind_refusal}
use Rattle.litrs_grammar.specs.Integer.{is_e, IntegerParts, integer_text, IsIntegerOf, integer_cut, integer_refusal}
use Rattle.litrs_grammar.specs.Float.{FloatParts, float_text, is_underscore, is_exponent, is_decimal_literal, is_float_form, IsFloatOf, float_cut, float_refusal}
use Rattle.litrs_grammar.specs.Raw.{RawParts, raw_text, raw_closing, occurs, is_raw_char, has_unicode, allows_nul, IsRawLiteral, raw_body_refusal, raw_refusal}
use Rattle.litrs_grammar.specs.LiteralRefusals.{dispatch}

unfoldable pub computing : Unit {0}
unfolding encode_utf8 unicode_ident is_suffix place_sum escape_refusal item_refusal char_kind_refusal dispatch integer_cut integer_refusal float_refusal float_cut is_exponent raw_refusal raw_body_refusal
computing = tt

-- an integer that has a prefix
pub prefixed : {t : List ℕ} {d : IntegerParts} → integer_text d ≡ t →
    IsTrue (list_all (is_digit_or_underscore d.base) d.main) → IsTrue (list_any (is_digit d.base) d.main) →
    IsFalse (first_passes (is_digit_or_underscore d.base) d.suffix) → IsTrue (is_suffix d.suffix) →
    IsFalse (first_passes is_e d.suffix) → (d.base ≡ base.Decimal → ⊥) → IsIntegerOf t d
prefixed spells digits some_digit ends suffix no_exponent prefix = record {
  spells = spells;
  grammar = record {
    digits = digits;
    some_digit = some_digit;
    ends = ends;
    suffix = suffix;
    no_exponent = no_exponent;
    decimal_digit = λ e. absurd (prefix e);
    decimal_prefix = λ e. absurd (prefix e);
  };
}

-- a float, with an exponent or without
pub float : {t : List ℕ} {d : FloatParts} → float_text d ≡ t → IsTrue (is_decimal_literal d.integer) →
    IsTrue (is_float_form d.fraction d.exponent d.suffix) → IsTrue (is_suffix d.suffix) →
    IsFalse (first_passes is_underscore d.suffix) →
    (IsTrue (is_empty d.exponent) → IsFalse (first_passes is_e d.suffix)) → IsFloatOf t d
float spells integer form suffix no_underscore no_letter = record {
  spells = spells;
  grammar = record { integer = integer; form = form; suffix = suffix; no_underscore = no_underscore; no_letter = no_letter };
}

-- a char or a byte
pub char_or_byte : {kind : CharKind} {t : List ℕ} {d : CharParts} → char_text kind d ≡ t → IsTrue (is_char_item kind d.item) →
    IsTrue (is_suffix d.suffix) → IsCharLiteral kind t d
char_or_byte spells item suffix = record { spells = spells; item = item; suffix = suffix }

-- a quoted string of any kind
pub quoted : {front : List ℕ} {w : Switches} {t : List ℕ} {q : QuotedParts} → quoted_text front q ≡ t →
    IsTrue (is_body w q.items) → IsTrue (is_suffix q.suffix) → IsQuoted front w t q
quoted spells body suffix = record { spells = spells; body = body; suffix = suffix }

-- a text that is refused as one: the items before the refused place, the rest, and why
pub refused_after : {front : List ℕ} {w : Switches} {t : List ℕ} {e : Refusal} (items : List Item) (rest : List ℕ) (cause : Refusal) →
    front ++ (body_text items ++ rest) ≡ t → IsTrue (is_item_list w rest items) → item_refusal w rest ≡ Some cause →
    shifted (byte_len (front ++ body_text items)) cause ≡ e → IsQuotedRefusal front w t e
refused_after items rest cause spells taken told placed =
    record { items = items; rest = rest; cause = cause; spells = spells; taken = taken; decided = told; placed = placed }

-- a raw string of any kind
pub raw : {kind : StringKind} {t : List ℕ} {d : RawParts} → raw_front kind ++ raw_text d ≡ t → nat_le d.hash_count 255 ≡ true →
    IsTrue (list_all (is_raw_char (has_unicode kind) (allows_nul kind)) d.body) →
    IsFalse (occurs (raw_closing d.hash_count) d.body) → IsTrue (is_suffix d.suffix) → IsRawLiteral kind t d
raw {kind} {t} {d} spells hash_count allowed unclosed suffix = record {
  spells = spells;
  grammar = record {
    hash_count = leb-true d.hash_count 255 hash_count;
    body = record { allowed = allowed; unclosed = unclosed };
    suffix = suffix;
  };
}
