-- The lines on a literal, put together from those on its parts.
use Rattle.std.proofs.Common.{◌≡◌, ◌∙◌, ℕ, Bool, true, false, cond, List, [], ◌∷◌, ◌++◌, Option, Some, sym, ap, subst, append_assoc}
use Rattle.std.specs.Char.{encode_utf8}
use Rattle.std.specs.Fmt.{digits, AppendsText, option_append}
use Rattle.std.specs.Prelude.{codes, decimal, Result, Ok, Err, is_ok, OnOk}
use Rattle.std.specs.List.{list_all}
use Rattle.std.specs.declared.alloc.AllocError.{AllocError}
use Rattle.std.specs.Str.{chars, IsUtf8, encode_utf8_all}
use Rattle.std.proofs.lemmas.List.{append-nil, flat_map_more}
use Rattle.std.proofs.lemmas.Str.{encodes-append, encodes-chars}
use Rattle.litrs_base.specs.Base.{base_value}
use Rattle.litrs_grammar.specs.Float.{FloatParts}
use Rattle.litrs_grammar.specs.Integer.{IntegerParts, integer_value}
use Rattle.litrs_grammar.specs.Literal.{Derivation, suffix_of}
use Rattle.litrs_build.specs.Printable.{is_printable}
use Rattle.litrs_explanation.specs.Explanation.{kind_name, field, field_of_part, integer_text, names_that_fit, integer_fields, fraction_field, float_fields, escaped_char, escaped, explanation, is_line_feed_or_printable, Shows}
use Rattle.litrs_explanation.specs.Appended.{Appends}
use Rattle.litrs_explanation.proofs.Appending.{appended_as}
use Rattle.litrs_explanation.proofs.Printed.{basic_encoded, number_basic, value_shows}

-- the bytes of a part are those of its characters
pub part_is : (bytes part : List ℕ) → IsUtf8 bytes → chars bytes ≡ part → bytes ≡ encode_utf8_all part
part_is bytes part u is = sym (encodes-chars bytes u) ∙ ap encode_utf8_all is

-- the line on the literal of a value
pub value_made : (line raw text : List ℕ) → IsUtf8 raw → chars raw ≡ text →
    line ≡ field (codes "value") raw → line ≡ field (codes "value") (encode_utf8_all text)
value_made line raw text u is made = made ∙ ap (field (codes "value")) (part_is raw text u is)

-- and it is printable
pub value_appended : {T E : Type 0} (old new : List ℕ) (r : Result T E) (raw text : List ℕ) → IsUtf8 raw → chars raw ≡ text →
    list_all is_line_feed_or_printable text ≡ true →
    Appends old new r (λ line. line ≡ field (codes "value") raw) →
    Appends old new r (λ line. (line ≡ field (codes "value") (encode_utf8_all text)) × Shows line)
value_appended old new r raw text u is all appends =
    appended_as old new r (λ line. line ≡ field (codes "value") raw)
    (λ line. (line ≡ field (codes "value") (encode_utf8_all text)) × Shows line)
    (λ line made. (value_made line raw text u is made, subst Shows (sym made) (value_shows raw text u is all)))
    appends

pub integer_made : (value base digits fits written : List ℕ) (d : IntegerParts) → value ≡ integer_text (integer_value d) →
    base ≡ decimal (base_value d.base) → digits ≡ encode_utf8_all d.main → fits ≡ names_that_fit (integer_value d) →
    written ≡ codes "  value " ++ (value ++ (codes "\n  base " ++ (base ++ (codes "\n  digits " ++ (digits ++ (codes "\n  fits" ++ (fits ++ codes "\n"))))))) →
    written ≡ integer_fields d
integer_made value base digits fits written d v b main f made =
    made ∙ (λ j. codes "  value " ++ (v j ++ (codes "\n  base " ++ (b j ++ (codes "\n  digits " ++ (main j ++ (codes "\n  fits" ++ (f j ++ codes "\n"))))))))

pub fraction_made : (digits line : List ℕ) (fraction : Option (List ℕ)) → IsUtf8 digits → Some (chars digits) ≡ fraction →
    line ≡ field (codes "fraction") digits → line ≡ fraction_field fraction
fraction_made digits line fraction u is made =
    made ∙ (ap (field (codes "fraction")) (sym (encodes-chars digits u)) ∙ ap fraction_field is)

pub float_made : (value integer fraction exponent part written : List ℕ) (d : FloatParts) → integer ≡ encode_utf8_all d.integer →
    fraction ≡ fraction_field d.fraction → exponent ≡ field_of_part (codes "exponent") part → part ≡ encode_utf8_all d.exponent →
    written ≡ codes "  value " ++ (value ++ (codes "\n  integer part " ++ (integer ++ (codes "\n" ++ (fraction ++ exponent))))) → written ≡ float_fields value d
float_made value integer fraction exponent part written d i f e p made =
    let last : exponent ≡ field_of_part (codes "exponent") (encode_utf8_all d.exponent) = e ∙ ap (field_of_part (codes "exponent")) p in
    made ∙ (λ j. codes "  value " ++ (value ++ (codes "\n  integer part " ++ (i j ++ (codes "\n" ++ (f j ++ last j))))))

-- the pieces as they are appended
pub float_pieces : (value integer fraction exponent : List ℕ) →
    ((codes "  value " ++ (value ++ (codes "\n  integer part " ++ (integer ++ codes "\n")))) ++ fraction) ++ exponent
    ≡ codes "  value " ++ (value ++ (codes "\n  integer part " ++ (integer ++ (codes "\n" ++ (fraction ++ exponent)))))
float_pieces value integer fraction exponent =
    let rest = fraction ++ exponent in
    let line = codes "\n  integer part " ++ (integer ++ codes "\n") in
    append_assoc (codes "  value " ++ (value ++ line)) fraction exponent
    ∙ ap (λ (x : List ℕ). codes "  value " ++ x) (append_assoc value line rest
    ∙ ap (λ (x : List ℕ). value ++ (codes "\n  integer part " ++ x)) (append_assoc integer (codes "\n") rest))

pub explanation_pieces : (kind fields suffix : List ℕ) →
    ((kind ++ codes "\n") ++ fields) ++ suffix ≡ kind ++ (codes "\n" ++ (fields ++ suffix))
explanation_pieces kind fields suffix =
    append_assoc (kind ++ codes "\n") fields suffix ∙ append_assoc kind (codes "\n") (fields ++ suffix)

pub explanation_made : (kind lines suffix part written : List ℕ) (d : Derivation) → kind ≡ kind_name d →
    suffix ≡ field_of_part (codes "suffix") (encode_utf8_all (escaped (chars part))) → chars part ≡ suffix_of d →
    written ≡ kind ++ (codes "\n" ++ (lines ++ suffix)) → written ≡ explanation lines d
explanation_made kind lines suffix part written d k s p made =
    let last : suffix ≡ field_of_part (codes "suffix") (encode_utf8_all (escaped (suffix_of d))) =
    s ∙ ap (λ (t : List ℕ). field_of_part (codes "suffix") (encode_utf8_all (escaped t))) p in
    made ∙ (λ j. k j ++ (codes "\n" ++ (lines ++ last j)))

-- one more character of a suffix
pub more_escaped : (bytes more cs : List ℕ) (c : ℕ) → bytes ≡ encode_utf8_all (escaped cs) →
    more ≡ bytes ++ encode_utf8_all (escaped_char c) → more ≡ encode_utf8_all (escaped (cs ++ c ∷ []))
more_escaped bytes more cs c so_far is =
    is ∙ (ap (λ (x : List ℕ). x ++ encode_utf8_all (escaped_char c)) so_far
    ∙ (sym (encodes-append (escaped cs) (escaped_char c))
    ∙ ap encode_utf8_all (flat_map_more escaped_char [] cs c)))

-- a character that is printable, and one that is not
abbrev numbered : ℕ → List ℕ
numbered c = codes "\\u{" ++ (digits 16 false c ++ codes "}")

pub plain_pushed : (r : Result (Unit {0}) AllocError) (c : ℕ) (old new : List ℕ) →
    is_printable c ≡ true → new ≡ cond (is_ok r) (old ++ encode_utf8 c) old →
    OnOk r (new ≡ old ++ encode_utf8_all (escaped_char c))
plain_pushed (Err e) c old new shown made = tt
plain_pushed (Ok x) c old new shown made =
    made ∙ ap (λ (x : List ℕ). old ++ x) (sym (append-nil (encode_utf8 c))
    ∙ sym (ap (λ (b : Bool). encode_utf8_all (cond b (c ∷ []) (numbered c))) shown))

pub number_pushed : (c n : ℕ) (o : Option (List ℕ)) (old new : List ℕ) → is_printable c ≡ false →
    n ≡ c → o ≡ Some (digits 16 false n) →
    AppendsText old new (option_append (Some (codes "\\u{")) (option_append o (Some (codes "}")))) →
    new ≡ old ++ encode_utf8_all (escaped_char c)
number_pushed c n o old new hidden same digits_are appends =
    let made : new ≡ old ++ numbered n =
    subst (λ (p : Option (List ℕ)). AppendsText old new
    (option_append (Some (codes "\\u{")) (option_append p (Some (codes "}"))))) digits_are appends in
    made ∙ ap (λ (x : List ℕ). old ++ x) (ap numbered same
    ∙ (sym (basic_encoded (numbered c) (number_basic c))
    ∙ sym (ap (λ (b : Bool). encode_utf8_all (cond b (c ∷ []) (numbered c))) hidden)))
