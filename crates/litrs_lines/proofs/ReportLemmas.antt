-- The reports of texts, by their derivations or refusals: each text has one, and no two.
use Rattle.std.proofs.Common.{◌≡◌, inl, inr, ℕ, List, [], ◌∷◌, ◌++◌, refl, sym, ap, subst, ◌∙◌, append_assoc, append-nil, Bool, true, false, Option, Some}
use Rattle.std.specs.Prelude.{codes, decimal, Result, Ok, Err, OnOk, is_ok, if◌then◌else◌}
use Rattle.std.specs.Str.{chars, is_utf8, IsUtf8, encode_utf8_all}
use Rattle.std.proofs.lemmas.Str.{encodes-chars, is_utf8-from_IsUtf8, IsUtf8-from_is_utf8}
use Rattle.litrs_base.specs.Base.{base_value}
use Rattle.litrs_grammar.specs.Integer.{IntegerParts, integer_value}
use Rattle.litrs_grammar.specs.CharByte.{CharParts, char_value}
use Rattle.litrs_grammar.specs.Float.{FloatParts}
use Rattle.litrs_grammar.specs.Literal.{StringParts, string_suffix, Derivation, a_bool, an_integer, a_float, a_char, a_byte, a_string, a_byte_string, a_c_string, literal_parse}
use Rattle.litrs_grammar.specs.Strings.{is_raw}
use Rattle.litrs_grammar.proofs.Laws.Literal.{literals_are_unique, literals_are_not_refused, refusals_are_unique, texts_are_decided}
use Rattle.litrs_lines.specs.Report.{value_text, integer_front, fraction_field, float_report, char_report, raw_field, hex_bytes, string_front, literal_report, refusal_report, IsTextReport, IsReport}
use Rattle.litrs_lines.specs.ReportParts.{front_of_string, literal_front, hex_value}
use Rattle.litrs_lines.specs.Reports.{AreReports}
use Rattle.litrs_lines.specs.Sent.{AreBytes}

-- Each text has a report

text_has_report : (t : List ℕ) → (r : List ℕ) × IsTextReport t r
text_has_report t = elim (texts_are_decided literal_parse t) [
  | inl d ↦ (literal_report d.0, inl (d.0, d.1, refl))
  | inr e ↦ (refusal_report e.0, inr (e.0, e.1, refl))
]

line_has_report : (line : List ℕ) (v : Bool) → is_utf8 line ≡ v → (r : List ℕ) × IsReport line r
line_has_report line true is =
    let found = text_has_report (chars line) in
    (found.0, inl (IsUtf8-from_is_utf8 line is, found.1))
line_has_report line false is =
    let none : IsUtf8 line → ⊥ = λ u. let both : true ≡ false = sym (is_utf8-from_IsUtf8 line u) ∙ is in cc in
    (codes "error input is not UTF-8", inr (none, refl))

pub texts_have_reports : (texts : List (List ℕ)) → (out : List ℕ) × AreReports texts out
texts_have_reports [] = ([], refl)
texts_have_reports (t ∷ texts) =
    let one = line_has_report t (is_utf8 t) refl in
    let rest = texts_have_reports texts in
    ((one.0 ++ 10 ∷ []) ++ rest.0, (one.0, rest.0, one.1, rest.1, refl))

-- Reports, one after the other

pub AreReports-one : (t r : List ℕ) → IsReport t r → AreReports (t ∷ []) (r ++ 10 ∷ [])
AreReports-one t r is = (r, [], is, refl, sym (append-nil (r ++ 10 ∷ [])))

pub AreReports-append : (texts more : List (List ℕ)) (out next : List ℕ) → AreReports texts out → AreReports more next → AreReports (texts ++ more) (out ++ next)
AreReports-append [] more out next none b = subst (AreReports more) (sym (ap (λ (xs : List ℕ). xs ++ next) none)) b
AreReports-append (t ∷ texts) more out next a b =
    (a.0, a.1 ++ next, a.2, AreReports-append texts more a.1 next a.3 b, ap (λ (xs : List ℕ). xs ++ next) a.4 ∙ append_assoc (a.0 ++ 10 ∷ []) a.1 next)

-- and no text has two

one_text_report : (t r s : List ℕ) → IsTextReport t r → IsTextReport t s → r ≡ s
one_text_report t r s (inl p) (inl q) = p.2 ∙ (ap literal_report (literals_are_unique t p.0 q.0 p.1 q.1) ∙ sym q.2)
one_text_report t r s (inl p) (inr q) = absurd (literals_are_not_refused literal_parse t p.0 q.0 p.1 q.1)
one_text_report t r s (inr p) (inl q) = absurd (literals_are_not_refused literal_parse t q.0 p.0 q.1 p.1)
one_text_report t r s (inr p) (inr q) = p.2 ∙ (ap refusal_report (refusals_are_unique literal_parse t p.0 q.0 p.1 q.1) ∙ sym q.2)

one_report : (line r s : List ℕ) → IsReport line r → IsReport line s → r ≡ s
one_report line r s (inl p) (inl q) = one_text_report (chars line) r s p.1 q.1
one_report line r s (inl p) (inr q) = absurd (q.0 p.0)
one_report line r s (inr p) (inl q) = absurd (p.0 q.0)
one_report line r s (inr p) (inr q) = p.1 ∙ sym q.1

-- texts have one list of reports
pub one_list_of_reports : (texts : List (List ℕ)) (out other : List ℕ) → AreReports texts out → AreReports texts other → out ≡ other
one_list_of_reports [] out other p q = p ∙ sym q
one_list_of_reports (line ∷ lines) out other p q =
    let r = one_report line p.0 q.0 p.2 q.2 in
    let rest = one_list_of_reports lines p.1 q.1 p.3 q.3 in
    p.4 ∙ (ap (λ (x : List ℕ). (x ++ 10 ∷ []) ++ p.1) r ∙ (ap (λ (x : List ℕ). (q.0 ++ 10 ∷ []) ++ x) rest ∙ sym q.4))

-- An integer, part by part

pub integer_report_made : (old front new digits suffix : List ℕ) (d : IntegerParts) → IsUtf8 digits → IsUtf8 suffix →
    chars digits ≡ d.main → chars suffix ≡ d.suffix → front ≡ old ++ integer_front (base_value d.base) digits suffix →
    new ≡ front ++ value_text (integer_value d) → new ≡ old ++ literal_report (an_integer d)
integer_report_made old front new digits suffix d digits_utf8 suffix_utf8 main rest made valued =
    let digits_is : digits ≡ encode_utf8_all d.main = sym (encodes-chars digits digits_utf8) ∙ ap encode_utf8_all main in
    let suffix_is : suffix ≡ encode_utf8_all d.suffix = sym (encodes-chars suffix suffix_utf8) ∙ ap encode_utf8_all rest in
    let value = value_text (integer_value d) in
    valued ∙ (ap (λ xs. xs ++ value) made ∙ (append_assoc old (integer_front (base_value d.base) digits suffix) value
    ∙ (ap (λ xs. old ++ (integer_front (base_value d.base) xs suffix ++ value)) digits_is
    ∙ ap (λ xs. old ++ (integer_front (base_value d.base) (encode_utf8_all d.main) xs ++ value)) suffix_is)))

-- A float

pub fraction_field-is : (digits : List ℕ) (fraction : Option (List ℕ)) → IsUtf8 digits → Some (chars digits) ≡ fraction → digits ≡ fraction_field fraction
fraction_field-is digits fraction utf8 is = sym (encodes-chars digits utf8) ∙ ap fraction_field is

pub float_report_made : (old new integer fraction exponent suffix : List ℕ) (d : FloatParts) → IsUtf8 integer → IsUtf8 exponent → IsUtf8 suffix →
    chars integer ≡ d.integer → fraction ≡ fraction_field d.fraction → chars exponent ≡ d.exponent → chars suffix ≡ d.suffix →
    new ≡ old ++ float_report integer fraction exponent suffix → new ≡ old ++ literal_report (a_float d)
float_report_made old new integer fraction exponent suffix d integer_utf8 exponent_utf8 suffix_utf8 integer_is fraction_is exponent_is suffix_is made =
    let i : integer ≡ encode_utf8_all d.integer = sym (encodes-chars integer integer_utf8) ∙ ap encode_utf8_all integer_is in
    let e : exponent ≡ encode_utf8_all d.exponent = sym (encodes-chars exponent exponent_utf8) ∙ ap encode_utf8_all exponent_is in
    let s : suffix ≡ encode_utf8_all d.suffix = sym (encodes-chars suffix suffix_utf8) ∙ ap encode_utf8_all suffix_is in
    made ∙ (λ j. old ++ float_report (i j) (fraction_is j) (e j) (s j))

-- A char or a byte

pub char_report_made : (name old new suffix : List ℕ) (value : ℕ) (d : CharParts) → IsUtf8 suffix → value ≡ char_value d.item → chars suffix ≡ d.suffix →
    new ≡ old ++ char_report name value suffix → new ≡ old ++ char_report name (char_value d.item) (encode_utf8_all d.suffix)
char_report_made name old new suffix value d suffix_utf8 value_is suffix_is made =
    let s : suffix ≡ encode_utf8_all d.suffix = sym (encodes-chars suffix suffix_utf8) ∙ ap encode_utf8_all suffix_is in
    made ∙ (λ j. old ++ char_report name (value_is j) (s j))

-- pieces written one after the other
pub appended :
    (a p q b c : List ℕ) → b ≡ a ++ p → c ≡ b ++ q → c ≡ a ++ (p ++ q)
appended a p q b c first second = second ∙ ap (λ t. t ++ q) first ∙ append_assoc a p q

pub appended_four :
    (a p q r s b c d e : List ℕ) → b ≡ a ++ p → c ≡ b ++ q → d ≡ c ++ r → e ≡ d ++ s →
    e ≡ a ++ (p ++ (q ++ (r ++ s)))
appended_four a p q r s b c d e one two three four =
    appended a p (q ++ (r ++ s)) b e one (appended b q (r ++ s) c e two (appended c r s d e three four))

-- the state that a call leaves if it succeeds
pub left_by :
    {T E : Type 0} (r : Result T E) (left there before : List ℕ) →
    left ≡ (if is_ok r then there else before) → OnOk r (left ≡ there)
left_by (Ok _) left there before made = made
left_by (Err _) left there before made = tt

-- the front of an integer, field by field
pub integer_front_made :
    (base : ℕ) (digits suffix a b c d e : List ℕ) → b ≡ a ++ (codes "integer base=" ++ decimal base) →
    c ≡ b ++ (codes " digits=" ++ digits) → d ≡ c ++ (codes " suffix=" ++ suffix) →
    e ≡ d ++ codes " value=" → e ≡ a ++ integer_front base digits suffix
integer_front_made base digits suffix a b c d e one two three four =
    appended_four a (codes "integer base=" ++ decimal base) (codes " digits=" ++ digits)
    (codes " suffix=" ++ suffix) (codes " value=") b c d e one two three four
    ∙ ap (λ t. a ++ t)
    (append_assoc (codes "integer base=") (decimal base) ((codes " digits=" ++ digits) ++ ((codes " suffix=" ++ suffix) ++ codes " value="))
    ∙ ap (λ t. codes "integer base=" ++ (decimal base ++ t))
    (append_assoc (codes " digits=") digits ((codes " suffix=" ++ suffix) ++ codes " value=")
    ∙ ap (λ t. codes " digits=" ++ (digits ++ t)) (append_assoc (codes " suffix=") suffix (codes " value="))))

-- A string of one of the three kinds

pub string_front_made : (name old new raw suffix : List ℕ) (d : StringParts) → IsUtf8 suffix → raw ≡ raw_field (is_raw d) →
    chars suffix ≡ string_suffix d → new ≡ old ++ string_front name raw suffix → new ≡ old ++ front_of_string name d
string_front_made name old new raw suffix d suffix_utf8 raw_is suffix_is made =
    let s : suffix ≡ encode_utf8_all (string_suffix d) = sym (encodes-chars suffix suffix_utf8) ∙ ap encode_utf8_all suffix_is in
    made ∙ (λ j. old ++ string_front name (raw_is j) (s j))

-- the two parts of a report
pub report_of_parts : (d : Derivation) → literal_report d ≡ literal_front d ++ hex_bytes (hex_value d)
report_of_parts (a_bool b) = sym (append-nil (literal_report (a_bool b)))
report_of_parts (an_integer d) = sym (append-nil (literal_report (an_integer d)))
report_of_parts (a_float d) = sym (append-nil (literal_report (a_float d)))
report_of_parts (a_char d) = sym (append-nil (literal_report (a_char d)))
report_of_parts (a_byte d) = sym (append-nil (literal_report (a_byte d)))
report_of_parts (a_string d) = refl
report_of_parts (a_byte_string d) = refl
report_of_parts (a_c_string d) = refl

report_cut : (d : Derivation) (value end : List ℕ) → value ≡ hex_value d → literal_report d ++ end ≡ literal_front d ++ (hex_bytes value ++ end)
report_cut d value end is =
    ap (λ l. l ++ end) (report_of_parts d) ∙ append_assoc (literal_front d) (hex_bytes (hex_value d)) end
    ∙ ap (λ l. literal_front d ++ (hex_bytes l ++ end)) (sym is)

-- the front, the bytes in hex, and an LF
pub report_spelled : (held left out value : List ℕ) (d : Derivation) → value ≡ hex_value d → AreBytes held ((literal_front d ++ hex_bytes value) ++ 10 ∷ []) left out → AreBytes held (literal_report d ++ 10 ∷ []) left out
report_spelled held left out value d is bytes =
    (bytes.0, bytes.1 ∙ append_assoc (literal_front d) (hex_bytes value) (10 ∷ []) ∙ sym (report_cut d value (10 ∷ []) is))
