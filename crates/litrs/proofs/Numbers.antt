-- Refused numbers: what their refusals say of longer texts.
use Rattle.std.proofs.Common.{◌≡◌, inl, inr, ◌+◌, ℕ, Bool, true, false, not, ◌||◌, List, [], ◌∷◌, ◌++◌, length, drop, Option, Some, None, is_some, refl, sym, ap, ◌∙◌, subst, arith, length-append}
use Rattle.std.specs.Prelude.{◌↔◌, ◌==◌, if◌then◌else◌, IsTrue}
use Rattle.std.specs.Char.{is_ascii_digit}
use Rattle.std.specs.List.{list_any, prefix_len}
use Rattle.std.specs.Str.{chars, IsUtf8}
use Rattle.std.proofs.lemmas.Bool.{and_parts, eq-eqb, eqb-true, false≢true, both_ways, or_from, or_right}
use Rattle.std.proofs.lemmas.List.{append-nil, append_assoc}
use Rattle.std.proofs.lemmas.Str.{encodes-chars}
use Rattle.litrs_base.specs.declared.err.ParseError.{ParseError}
use Rattle.litrs_base.specs.declared.err.ParseErrorKind.{ParseErrorKind}
use Rattle.litrs_base.specs.declared.err.ParseErrorKind.TheVariants.{UnexpectedChar, InvalidSuffix, InvalidDigit, NoDigits, IntegerSuffixStartingWithE, NoExponentDigits, UnexpectedIntegerLit}
use Rattle.litrs_base.specs.Base.{prefix, is_digit}
use Rattle.litrs_base.specs.Refusal.{Refusal, refusal_of, without_span, spanning, at_byte}
use Rattle.litrs_base.specs.Text.{is_empty, byte_len, first_passes}
use Rattle.litrs_base.proofs.Spans.{byte_len-append, byte_len-cons, byte_len_ascii}
use Rattle.litrs_grammar.specs.Suffix.{is_suffix, is_ascii_symbol, suffix_kind}
use Rattle.litrs_grammar.specs.Integer.{IntegerParts, is_e, integer_text, integer_cut, integer_cut_refusal, integer_refusal}
use Rattle.litrs_grammar.specs.Float.{FloatParts, number_part, fraction_text, float_text, is_period, is_decimal_char, has_wrong_fraction, float_cut, float_refusal}
use Rattle.litrs_grammar.specs.GoesOn.Float.{FloatGoesOn}
use Rattle.litrs_grammar.specs.GoesOn.Integer.{IntegerGoesOn}
use Rattle.litrs_grammar.specs.Literal.{LiteralKind, an_integer, a_float, integer_literal, float_literal, kind_parse, IsLiteralOf, Begins}
use Rattle.litrs_grammar.specs.LiteralRefusals.{is_float_mark, begins_with_float, parsed_as, dispatch}
use Rattle.litrs_grammar.specs.Refused.{IsRefused}
use Rattle.litrs_grammar.proofs.Laws.Integer.{integer_rows, number_rows, integer_cut-is, cut-spells, refusal_of_digit}
use Rattle.litrs_grammar.proofs.FloatCuts.{IsCut, CutOf, cut_of, cut_of_text, after_decimals, fraction_stops, number_part-suffix}
use Rattle.litrs_grammar.proofs.Laws.Float.{float_rows, cut_rows, refusal_of_cut}
use Rattle.litrs_grammar.proofs.Spans.Float.{number_part_ascii}
use Rattle.litrs_grammar.proofs.LongerTexts.Literal.{chain, back, refused_texts_go_on}
use Rattle.litrs_grammar.proofs.LongerTexts.Suffix.{is_suffix-nil}
use Rattle.litrs_grammar.proofs.Laws.Number.{float_begins, integer_begins}
use Rattle.litrs_lex.specs.declared.number.NumberCut.{NumberCut}
use Rattle.litrs_lex.specs.declared.number.NumberCut.TheVariants as number
use Rattle.litrs_lex.specs.NumberCut.{number_kind, IsNumberCut}
use Rattle.litrs_lex.proofs.Dispatch.{dispatch-chars}
use Rattle.litrs_lex.proofs.IntegerBytes.{digit-chars}
use Rattle.litrs_lex.proofs.NumberBytes.{begins_with_float-chars}
use Rattle.litrs.specs.MayGainDigits.{is_digits_kind, ends_at, may_gain_digits}
use Rattle.litrs_lex.specs.Front.{row_of}
use Rattle.litrs_lex.specs.declared.kind.Front.TheVariants as front
use Rattle.litrs.proofs.Begins.{answer_is, begins_now}

-- nothing follows a front that is as long as the text
nothing_after : (a b : List ℕ) → byte_len a ≡ byte_len (a ++ b) → b ≡ []
nothing_after a [] same = refl
nothing_after a (c ∷ b) same =
    let sum = byte_len-append a (c ∷ b) in
    let some = byte_len-cons c b in
    absurd (omega arith)

-- a refusal of another kind
other_kind : {A : Type 0} (k r : Refusal) (len : ℕ) → is_digits_kind k.kind ≡ false →
    Some k ≡ Some r → may_gain_digits r len ≡ true → A
other_kind k r len other same lacks =
    let at_byte : k ≡ r = cc in
    absurd (both_ways (is_digits_kind k.kind) other
    (subst (λ (e : Refusal). is_digits_kind e.kind ≡ true) (sym at_byte)
    (and_parts (is_digits_kind r.kind) (ends_at r.span len) lacks).0))

-- the place where a refusal ends that lacks digits
ends_there : (start end : ℕ) (kind : ParseErrorKind) (r : Refusal) (len : ℕ) →
    Some (spanning start end kind) ≡ Some r → may_gain_digits r len ≡ true → end ≡ len
ends_there start end kind r len same lacks =
    let at_byte : spanning start end kind ≡ r = cc in
    eqb-true end len (subst (λ (e : Refusal). ends_at e.span len ≡ true) (sym at_byte)
    (and_parts (is_digits_kind r.kind) (ends_at r.span len) lacks).1)

no_digits_suffix : (t : List ℕ) → is_digits_kind (suffix_kind t) ≡ false
no_digits_suffix t = by (first_passes is_ascii_symbol t)
  where
    by : (b : Bool) → is_digits_kind (if b then UnexpectedChar else InvalidSuffix) ≡ false
    by true = refl
    by false = refl

-- Integers

integer_row : (start end len : ℕ) (suffix digit e some : Bool) (kind : ParseErrorKind)
    (r : Refusal) → is_digits_kind kind ≡ false →
    integer_rows start end len suffix digit kind e some ≡ Some r → may_gain_digits r len ≡ true →
    end ≡ len
integer_row start end len false true e some kind r other h lacks =
    other_kind (at_byte end InvalidDigit) r len refl h lacks
integer_row start end len false false e some kind r other h lacks =
    other_kind (spanning end len kind) r len other h lacks
integer_row start end len true digit true some kind r other h lacks =
    other_kind (at_byte end IntegerSuffixStartingWithE) r len refl h lacks
integer_row start end len true digit false false kind r other h lacks =
    ends_there start end NoDigits r len h lacks
integer_row start end len true digit false true kind r other h lacks = cc

no_digit_row : (start end len : ℕ) (digit some : Bool) (kind : ParseErrorKind)
    (r : Refusal) → integer_rows start end len true digit kind false some ≡ Some r → end ≡ len →
    may_gain_digits r len ≡ true
no_digit_row start end len digit true kind r h same = cc
no_digit_row start end len digit false kind r h same =
    let at_byte : spanning start end NoDigits ≡ r = cc in
    subst (λ (e : Refusal). may_gain_digits e len ≡ true) at_byte (eq-eqb end len same)

-- nothing follows the main part if and only if the refusal lacks digits
integer_lacks : (d : IntegerParts) (r : Refusal) → integer_cut_refusal d ≡ Some r →
    (may_gain_digits r (byte_len (integer_text d)) ≡ true) ↔ (d.suffix ≡ [])
integer_lacks d r h = (to, from)
  where
    number : List ℕ
    number = prefix d.base ++ d.main

    spells : number ++ d.suffix ≡ integer_text d
    spells = append_assoc (prefix d.base) d.main d.suffix

    len : ℕ
    len = byte_len (integer_text d)

    to : may_gain_digits r len ≡ true → d.suffix ≡ []
    to lacks =
        nothing_after number d.suffix
        (integer_row (byte_len (prefix d.base)) (byte_len number) len (is_suffix d.suffix)
        (first_passes is_ascii_digit d.suffix) (first_passes is_e d.suffix)
        (list_any (is_digit d.base) d.main)
        (suffix_kind d.suffix) r (no_digits_suffix d.suffix) h lacks
        ∙ ap byte_len (sym spells))

    from : d.suffix ≡ [] → may_gain_digits r len ≡ true
    from none =
        let whole : byte_len number ≡ len =
        ap byte_len (sym (append-nil number) ∙ ap (λ l. number ++ l) (sym none) ∙ spells) in
        no_digit_row (byte_len (prefix d.base)) (byte_len number) len
        (first_passes is_ascii_digit d.suffix) (list_any (is_digit d.base) d.main)
        (suffix_kind d.suffix) r
        ((λ j. integer_rows (byte_len (prefix d.base)) (byte_len number) len
        (sym (ap is_suffix none ∙ is_suffix-nil) j) (first_passes is_ascii_digit d.suffix)
        (suffix_kind d.suffix)
        (sym (ap (first_passes is_e) none) j) (list_any (is_digit d.base) d.main)) ∙ h) whole

integer_goes : (t : List ℕ) (r : Refusal) → first_passes is_ascii_digit t ≡ true →
    integer_refusal t ≡ Some r → (may_gain_digits r (byte_len t) ≡ true) ↔ IntegerGoesOn t
integer_goes t r digit h = chain lacks (λ none. inr (digit, none), from)
  where
    d : IntegerParts
    d = integer_cut t

    spells : integer_text d ≡ t
    spells = ap integer_text (integer_cut-is t) ∙ cut-spells t

    lacks : (may_gain_digits r (byte_len t) ≡ true) ↔ (d.suffix ≡ [])
    lacks = subst (λ (l : List ℕ). (may_gain_digits r (byte_len l) ≡ true) ↔ (d.suffix ≡ [])) spells
        (integer_lacks d r (sym (refusal_of_digit t digit) ∙ h))

    from : IntegerGoesOn t → d.suffix ≡ []
    from (inl empty) = absurd (false≢true (ap (first_passes is_ascii_digit) (sym empty) ∙ digit))
    from (inr goes) = goes.1

integer_decided : (bs : List ℕ) (e : ParseError) (len : ℕ) (b : Bool) → IsUtf8 bs →
    first_passes is_ascii_digit (chars bs) ≡ true → IsRefused (kind_parse integer_literal)
    (chars bs) e →
    len ≡ length bs → b ≡ may_gain_digits (refusal_of e) len →
    IsTrue b ↔ Begins (kind_parse integer_literal) (chars bs)
integer_decided bs e len b u digit refused is_len is =
    let t = chars bs in
    let size : len ≡ byte_len t = is_len ∙ ap length (sym (encodes-chars bs u)) in
    answer_is b (may_gain_digits (refusal_of e) (byte_len t))
    (is ∙ ap (may_gain_digits (refusal_of e)) size)
    (chain (integer_goes t (refusal_of e) digit refused.table)
    (back (refused_texts_go_on (kind_parse integer_literal) t (refusal_of e) refused.table)))

-- Floats

float_row : (i f n len : ℕ) (kind : ParseErrorKind) (wrong fraction exponent digit suffix : Bool)
    (r : Refusal) → is_digits_kind kind ≡ false →
    float_rows i f n len kind wrong fraction exponent digit suffix ≡ Some r →
    may_gain_digits r len ≡ true → (wrong ≡ false) × (n ≡ len)
float_row i f n len kind true fraction exponent digit suffix r other h lacks =
    other_kind (at_byte (i + 1) UnexpectedChar) r len refl h lacks
float_row i f n len kind false fraction true false suffix r other h lacks =
    (refl, ends_there f n NoExponentDigits r len h lacks)
float_row i f n len kind false fraction true true false r other h lacks =
    other_kind (spanning n len kind) r len other h lacks
float_row i f n len kind false fraction false digit false r other h lacks =
    other_kind (spanning n len kind) r len other h lacks
float_row i f n len kind false true true true true r other h lacks = cc
float_row i f n len kind false false true true true r other h lacks = cc
float_row i f n len kind false true false digit true r other h lacks = cc
float_row i f n len kind false false false digit true r other h lacks =
    other_kind (without_span UnexpectedIntegerLit) r len refl h lacks

no_exponent_row : (i f n len : ℕ) (kind : ParseErrorKind) (fraction exponent digit : Bool)
    (r : Refusal) → ((fraction || exponent) ≡ false → ⊥) →
    float_rows i f n len kind false fraction exponent digit true ≡ Some r → n ≡ len →
    may_gain_digits r len ≡ true
no_exponent_row i f n len kind fraction true false r some h same =
    let at_byte : spanning f n NoExponentDigits ≡ r = cc in
    subst (λ (e : Refusal). may_gain_digits e len ≡ true) at_byte (eq-eqb n len same)
no_exponent_row i f n len kind true true true r some h same = cc
no_exponent_row i f n len kind false true true r some h same = cc
no_exponent_row i f n len kind true false digit r some h same = cc
no_exponent_row i f n len kind false false digit r some h same = absurd (some refl)

digit_decimal : (c : ℕ) → is_ascii_digit c ≡ true → is_decimal_char c ≡ true
digit_decimal c h = ap (λ v. v || (c == 95)) h

-- the digit at the front is that of the integer part
integer_digit : (i rest : List ℕ) → first_passes is_decimal_char rest ≡ false →
    first_passes is_ascii_digit (i ++ rest) ≡ true → first_passes is_ascii_digit i ≡ true
integer_digit [] [] stops digit = digit
integer_digit [] (c ∷ rest) stops digit = absurd (both_ways _ stops (digit_decimal c digit))
integer_digit (c ∷ i) rest stops digit = digit

-- a text that begins like a float has a period or an exponent
no_mark : (d : FloatParts) → IsCut d → begins_with_float (float_text d) ≡ true →
    (is_some d.fraction || not (is_empty d.exponent)) ≡ false → ⊥
no_mark d cut begins none = by d.fraction d.exponent refl refl none
  where
    by : (f : Option (List ℕ)) (p : List ℕ) → d.fraction ≡ f → d.exponent ≡ p →
        (is_some f || not (is_empty p)) ≡ false → ⊥
    by (Some f) p is_f is_p h = cc
    by None (c ∷ p) is_f is_p h = cc
    by None [] is_f is_p h = after d.suffix refl
      where
        rest : drop (prefix_len is_decimal_char (float_text d)) (float_text d) ≡ d.suffix
        rest = after_decimals d cut ∙ (λ j. fraction_text (is_f j) ++ (is_p j ++ d.suffix))

        after : (s : List ℕ) → d.suffix ≡ s → ⊥
        after [] is = false≢true (ap (first_passes is_float_mark) (sym is)
            ∙ ap (first_passes is_float_mark) (sym rest) ∙ begins)
        after (c ∷ s) is =
            let period : is_period c ≡ false = ap (first_passes is_period) (sym is)
            ∙ cut.no_period is_f is_p in
            let letter : is_e c ≡ false = ap (first_passes is_e) (sym is) ∙ cut.no_letter is_p in
            both_ways (is_float_mark c) (or_from (is_period c) (is_e c) period letter)
            (ap (first_passes is_float_mark) (sym is) ∙ ap (first_passes is_float_mark) (sym rest)
            ∙ begins)

number_len : (d : FloatParts) → IsCut d →
    byte_len (number_part d)
    ≡ length d.integer + length (fraction_text d.fraction) + length d.exponent
number_len d cut =
    byte_len_ascii (number_part d) (number_part_ascii d cut)
    ∙ omega (
      arith,
      length-append d.integer (fraction_text d.fraction ++ d.exponent),
      length-append (fraction_text d.fraction) d.exponent,
    )

-- the rows of a text that begins with a digit
abbrev digit_rows : FloatParts → Option Refusal
digit_rows d =
    float_rows (length d.integer) (length d.integer + length (fraction_text d.fraction))
    (length d.integer + length (fraction_text d.fraction) + length d.exponent)
    (byte_len (float_text d)) (suffix_kind d.suffix)
    (has_wrong_fraction (fraction_text d.fraction ++ (d.exponent ++ d.suffix))) (is_some d.fraction)
    (not (is_empty d.exponent)) (list_any is_ascii_digit d.exponent) (is_suffix d.suffix)

rows_of_digit : (d : FloatParts) → first_passes is_ascii_digit (float_text d) ≡ true →
    cut_rows d ≡ digit_rows d
rows_of_digit d digit = by (float_text d) digit
  where
    by : (t : List ℕ) → first_passes is_ascii_digit t ≡ true →
        number_rows (is_empty t) (first_passes is_ascii_digit t) (digit_rows d) ≡ digit_rows d
    by [] h = cc
    by (c ∷ t) h = rw h refl

float_lacks : (d : FloatParts) (r : Refusal) → IsCut d →
    first_passes is_ascii_digit (float_text d) ≡ true → begins_with_float (float_text d) ≡ true →
    cut_rows d ≡ Some r →
    (may_gain_digits r (byte_len (float_text d)) ≡ true) ↔ FloatGoesOn d
float_lacks d r cut digit begins h = (to, from)
  where
    i : ℕ
    i = length d.integer

    f : ℕ
    f = i + length (fraction_text d.fraction)

    n : ℕ
    n = f + length d.exponent

    len : ℕ
    len = byte_len (float_text d)

    wrong : Bool
    wrong = has_wrong_fraction (fraction_text d.fraction ++ (d.exponent ++ d.suffix))

    rows : float_rows i f n len (suffix_kind d.suffix) wrong (is_some d.fraction)
        (not (is_empty d.exponent)) (list_any is_ascii_digit d.exponent) (is_suffix d.suffix)
        ≡ Some r
    rows = sym (rows_of_digit d digit) ∙ h

    alone : d.suffix ≡ [] →
        fraction_text d.fraction ++ (d.exponent ++ d.suffix)
        ≡ fraction_text d.fraction ++ d.exponent
    alone none = ap (λ l. fraction_text d.fraction ++ (d.exponent ++ l)) none
        ∙ ap (λ l. fraction_text d.fraction ++ l) (append-nil d.exponent)

    to : may_gain_digits r len ≡ true → FloatGoesOn d
    to lacks =
        let row = float_row i f n len (suffix_kind d.suffix) wrong (is_some d.fraction)
        (not (is_empty d.exponent)) (list_any is_ascii_digit d.exponent) (is_suffix d.suffix) r
        (no_digits_suffix d.suffix) rows lacks in
        let none : d.suffix ≡ [] = nothing_after (number_part d) d.suffix
        (number_len d cut ∙ row.1 ∙ ap byte_len (sym (number_part-suffix d))) in
        record {
          start = or_right (is_empty (float_text d)) _
              (integer_digit d.integer (fraction_text d.fraction ++ (d.exponent ++ d.suffix))
              (fraction_stops d.fraction d.exponent d.suffix cut.exponent cut.stops) digit);
          fraction = ap has_wrong_fraction (sym (alone none)) ∙ row.0;
          suffix = none;
        }

    from : FloatGoesOn d → may_gain_digits r len ≡ true
    from goes =
        let whole : n ≡ len = sym (number_len d cut)
        ∙ ap byte_len (sym (append-nil (number_part d))
        ∙ ap (λ l. number_part d ++ l) (sym goes.suffix) ∙ number_part-suffix d) in
        no_exponent_row i f n len (suffix_kind d.suffix) (is_some d.fraction)
        (not (is_empty d.exponent)) (list_any is_ascii_digit d.exponent) r (no_mark d cut begins)
        ((λ j. float_rows i f n len (suffix_kind d.suffix)
        (sym (ap has_wrong_fraction (alone goes.suffix) ∙ goes.fraction) j) (is_some d.fraction)
        (not (is_empty d.exponent))
        (list_any is_ascii_digit d.exponent) (sym (ap is_suffix goes.suffix ∙ is_suffix-nil) j))
        ∙ rows) whole

float_goes : (t : List ℕ) (r : Refusal) → first_passes is_ascii_digit t ≡ true →
    begins_with_float t ≡ true → float_refusal t ≡ Some r →
    (may_gain_digits r (byte_len t) ≡ true) ↔ FloatGoesOn (float_cut t)
float_goes t r digit begins h =
    subst (λ (d : FloatParts). (may_gain_digits r (byte_len t) ≡ true) ↔ FloatGoesOn d) (sym cut_is)
    here
  where
    c : CutOf t
    c = cut_of t

    cut_is : float_cut t ≡ c.parts
    cut_is = ap float_cut (sym c.spells) ∙ cut_of_text c.parts c.cut

    here : (may_gain_digits r (byte_len t) ≡ true) ↔ FloatGoesOn c.parts
    here = subst (λ (l : List ℕ). (may_gain_digits r (byte_len l) ≡ true) ↔ FloatGoesOn c.parts)
        c.spells
        (float_lacks c.parts r c.cut (ap (first_passes is_ascii_digit) c.spells ∙ digit)
        (ap begins_with_float c.spells ∙ begins)
        (sym (refusal_of_cut c.parts c.cut) ∙ ap float_refusal c.spells ∙ h))

float_decided : (bs : List ℕ) (e : ParseError) (len : ℕ) (b : Bool) → IsUtf8 bs →
    first_passes is_ascii_digit (chars bs) ≡ true → begins_with_float (chars bs) ≡ true →
    IsRefused (kind_parse float_literal) (chars bs) e → len ≡ length bs →
    b ≡ may_gain_digits (refusal_of e) len → IsTrue b ↔ Begins (kind_parse float_literal) (chars bs)
float_decided bs e len b u digit begins refused is_len is =
    let t = chars bs in
    let size : len ≡ byte_len t = is_len ∙ ap length (sym (encodes-chars bs u)) in
    answer_is b (may_gain_digits (refusal_of e) (byte_len t))
    (is ∙ ap (may_gain_digits (refusal_of e)) size)
    (chain (float_goes t (refusal_of e) digit begins refused.table)
    (back (refused_texts_go_on (kind_parse float_literal) t (refusal_of e) refused.table)))

-- Both kinds

abbrev kind_of : Bool → LiteralKind
kind_of float = if float then float_literal else integer_literal

-- a number is parsed as its kind
pub number_named : (bs : List ℕ) → IsUtf8 bs → row_of front.Number bs ≡ dispatch bs →
    dispatch (chars bs) ≡ parsed_as (number_kind (chars bs))
number_named bs u is = dispatch-chars bs u ∙ sym is ∙ inside (begins_with_float bs)
    ∙ (λ j. parsed_as (kind_of (sym (begins_with_float-chars bs u) j)))
  where
    inside : (v : Bool) → (if v then parsed_as float_literal else parsed_as integer_literal)
        ≡ parsed_as (kind_of v)
    inside true = refl
    inside false = refl

pub number_decided : (bs : List ℕ) (e : ParseError) (len : ℕ) (b : Bool) → IsUtf8 bs →
    first_passes is_ascii_digit bs ≡ true →
    IsRefused (kind_parse (number_kind (chars bs))) (chars bs) e → len ≡ length bs →
    b ≡ may_gain_digits (refusal_of e) len →
    IsTrue b ↔ Begins (kind_parse (number_kind (chars bs))) (chars bs)
number_decided bs e len b u digit refused is_len is = by (begins_with_float (chars bs)) refl
  where
    front : first_passes is_ascii_digit (chars bs) ≡ true
    front = digit-chars bs u ∙ digit

    by : (v : Bool) → begins_with_float (chars bs) ≡ v →
        IsTrue b ↔ Begins (kind_parse (number_kind (chars bs))) (chars bs)
    by true float = rw (float) (float_decided bs e len b u front float
        (subst (λ (v : Bool). IsRefused (kind_parse (kind_of v)) (chars bs) e) float refused)
        is_len is)
    by false integer = rw (integer) (integer_decided bs e len b u front
        (subst (λ (v : Bool). IsRefused (kind_parse (kind_of v)) (chars bs) e) integer refused)
        is_len is)

-- a cut of either kind is a literal of the kind that the text is parsed as
pub number_found : (cut : NumberCut) (bs : List ℕ) → IsNumberCut cut bs →
    Begins (kind_parse (number_kind (chars bs))) (chars bs)
number_found (number.Integer cut) bs found =
    subst (λ (k : LiteralKind). Begins (kind_parse k) (chars bs))
    (sym (ap kind_of (integer_begins (chars bs) _ found.0.0)))
    (begins_now (IsLiteralOf (kind_parse integer_literal)) (chars bs) (an_integer _)
    (refl, found.0.0))
number_found (number.Float cut) bs found =
    subst (λ (k : LiteralKind). Begins (kind_parse k) (chars bs))
    (sym (ap kind_of (float_begins (chars bs) _ found.0.0)))
    (begins_now (IsLiteralOf (kind_parse float_literal)) (chars bs) (a_float _)
    (refl, found.0.0))
