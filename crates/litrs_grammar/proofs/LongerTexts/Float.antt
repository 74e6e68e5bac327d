-- Refused floats under every appended text: which stay refused, and which some text completes.
use Rattle.std.proofs.Common.{◌≡◌, ℕ, ◌+◌, Bool, true, false, not, ◌||◌, ◌⊎◌, inl, inr, List, [], ◌∷◌, ◌++◌, length, drop, Option, Some, None, refl, sym, ap, subst, ◌∙◌, arith}
use Rattle.std.specs.Prelude.{◌↔◌}
use Rattle.std.specs.Char.{is_ascii_digit}
use Rattle.std.specs.Option.{is_some}
use Rattle.std.specs.List.{list_all, list_any, prefix_len}
use Rattle.std.proofs.lemmas.Bool.{and_parts, and_from, true≢false, false≢true, or_left, or_right, or_parts, or_cases, not-false}
use Rattle.std.proofs.lemmas.Bool.Decides.{nat_tests}
use Rattle.std.proofs.lemmas.List.{append_assoc, append-nil, drop_at, drop-append-le}
use Rattle.std.proofs.lemmas.List.Folds.{list_any-append}
use Rattle.litrs_base.proofs.Runs.{list_all-append, list_all-weaken}
use Rattle.litrs_base.specs.Text.{IsText, byte_len, is_empty, first_passes}
use Rattle.litrs_grammar.specs.Suffix.{is_suffix, suffix_kind}
use Rattle.litrs_grammar.specs.Integer.{is_e}
use Rattle.litrs_grammar.specs.Float.{FloatParts, fraction_text, number_part, float_text, is_decimal_char, is_underscore, is_period, sign_len, is_decimal_literal, is_exponent_number, is_exponent, is_float_form, IsFloat, IsFloatOf, float_cut, has_wrong_fraction, float_refusal}
use Rattle.litrs_base.specs.declared.err.ParseErrorKind.{ParseErrorKind}
use Rattle.litrs_base.specs.Refusal.{Refusal}
use Rattle.litrs_base.specs.Finality.{is_final, is_open}
use Rattle.litrs_grammar.specs.LongerTexts.{BeginsBy, EndsBy}
use Rattle.litrs_grammar.specs.GoesOn.Float.{FloatGoesOn}
use Rattle.litrs_base.specs.Derivations.{HasNoDerivation}
use Rattle.litrs_grammar.proofs.LongerTexts.Suffix.{suffix_freed, is_suffix-nil}
use Rattle.litrs_grammar.proofs.FloatCuts.{IsCut, is_exponent_front, fraction_passes, sign_len-append, sign_len_le, letter_decimal, CutOf, cut_of, cut_of_text, same_cut, after_decimals, fraction_stops, number_part-suffix}
use Rattle.litrs_grammar.proofs.Laws.Float.{float_is_cut, starts_digit, fraction_row, empty-true, refused, float_rows, cut_rows, refusal_of_cut}
use Rattle.litrs_grammar.proofs.Spans.Float.{is_number_char, number_line_feed, number_part_chars}
use Rattle.litrs_grammar.proofs.LineFeeds.{is_other, suffix_other, no_line_feed}
use Rattle.litrs_grammar.proofs.LongerTexts.OpenRows.{is_open_row, shut_if, shut_number, shut_suffix}
use Rattle.litrs_grammar.proofs.Laws.Integer.{prefix_len_front, number_rows, first_passes-append}

-- Parts with a suffix, of which only the first character decides where they are cut.

-- the same parts with another suffix
abbrev with_suffix : FloatParts → List ℕ → FloatParts
with_suffix d suffix = record { integer = d.integer; fraction = d.fraction; exponent = d.exponent; suffix = suffix }

longer_cut : (d : FloatParts) (c : ℕ) (s more : List ℕ) → IsCut (with_suffix d (c ∷ s)) → IsCut (with_suffix d (c ∷ (s ++ more)))
longer_cut d c s more cut = record {
  integer = cut.integer;
  fraction = cut.fraction;
  exponent = cut.exponent;
  stops = cut.stops;
  no_letter = cut.no_letter;
  no_sign = cut.no_sign;
  no_period = cut.no_period;
}

same_form : (f : Option (List ℕ)) (p : List ℕ) (c : ℕ) (s more : List ℕ) → is_float_form f p (c ∷ (s ++ more)) ≡ is_float_form f p (c ∷ s)
same_form None p c s more = refl
same_form (Some []) p c s more = refl
same_form (Some (d ∷ ds)) p c s more = refl

-- parts with a suffix that are not a float are not one with any text appended
no_longer_float : (d : FloatParts) (c : ℕ) (s more : List ℕ) → ¬ IsFloat (with_suffix d (c ∷ s)) → ¬ IsFloat (with_suffix d (c ∷ (s ++ more)))
no_longer_float d c s more none float = by (is_suffix (c ∷ s)) refl
  where
    by : (b : Bool) → is_suffix (c ∷ s) ≡ b → ⊥
    by true suffix = none (record {
      integer = float.integer;
      form = sym (same_form d.fraction d.exponent c s more) ∙ float.form;
      suffix = suffix;
      no_underscore = float.no_underscore;
      no_letter = float.no_letter;
    })
    by false suffix = true≢false (sym (ap (first_passes is_underscore) (suffix_freed (c ∷ s) more suffix float.suffix)) ∙ float.no_underscore)

longer_text : (d : FloatParts) (c : ℕ) (s more : List ℕ) → d.suffix ≡ c ∷ s → float_text (with_suffix d (c ∷ (s ++ more))) ≡ float_text d ++ more
longer_text d c s more is =
    let f = fraction_text d.fraction in
    ap (λ l. d.integer ++ (f ++ l)) (ap (λ l. d.exponent ++ (l ++ more)) (sym is) ∙ sym (append_assoc d.exponent d.suffix more))
    ∙ ap (λ l. d.integer ++ l) (sym (append_assoc f (d.exponent ++ d.suffix) more)) ∙ sym (append_assoc d.integer (f ++ (d.exponent ++ d.suffix)) more)

-- ... and so nothing follows the number in a text that begins a float
nothing_after : (d e : FloatParts) (more : List ℕ) → IsCut d → ¬ IsFloat d → IsFloat e → float_text d ++ more ≡ float_text e → d.suffix ≡ []
nothing_after d e more cut none float same = by d.suffix refl
  where
    by : (suffix : List ℕ) → d.suffix ≡ suffix → suffix ≡ []
    by [] is = refl
    by (c ∷ s) is =
        let here : with_suffix d d.suffix ≡ with_suffix d (c ∷ s) = ap (with_suffix d) is in
        let longer : IsCut (with_suffix d (c ∷ (s ++ more))) = longer_cut d c s more (subst IsCut here cut) in
        let spells : float_text (with_suffix d (c ∷ (s ++ more))) ≡ float_text e = longer_text d c s more is ∙ same in
        let parts : with_suffix d (c ∷ (s ++ more)) ≡ e = same_cut _ e longer (float_is_cut e float) spells in
        absurd (no_longer_float d c s more (subst (λ p. ¬ IsFloat p) here none) (subst IsFloat (sym parts) float))

period_stops : (c : ℕ) → is_period c ≡ true → is_decimal_char c ≡ false
period_stops c h = grind (arith, nat_tests)

-- the text after the digits and `_` in front
abbrev after_digits : List ℕ → List ℕ
after_digits t = drop (prefix_len is_decimal_char t) t

after_run : (front rest : List ℕ) → list_all is_decimal_char front ≡ true → first_passes is_decimal_char rest ≡ false → after_digits (front ++ rest) ≡ rest
after_run front rest all stop = drop_at front rest (prefix_len is_decimal_char (front ++ rest)) (sym (prefix_len_front is_decimal_char front rest all stop))

no_digit : (r : List ℕ) → first_passes is_decimal_char r ≡ false → first_passes is_ascii_digit r ≡ false
no_digit [] stop = refl
no_digit (c ∷ r) stop = (or_parts _ _ stop).0

-- a wrong fraction stays wrong
wrong_more : (r more : List ℕ) → has_wrong_fraction r ≡ true → has_wrong_fraction (r ++ more) ≡ true
wrong_more [] more wrong = absurd (false≢true wrong)
wrong_more (c ∷ []) more wrong = absurd (false≢true (and_parts (is_period c) false wrong).1)
wrong_more (c ∷ d ∷ r) more wrong = wrong

wrong_stops : (r more : List ℕ) → has_wrong_fraction r ≡ true → first_passes is_decimal_char (r ++ more) ≡ false
wrong_stops [] more wrong = absurd (false≢true wrong)
wrong_stops (c ∷ r) more wrong = period_stops c (and_parts _ _ wrong).0

no_wrong_fraction : (d e : FloatParts) (more : List ℕ) → IsCut d → IsFloat e → float_text d ++ more ≡ float_text e → d.suffix ≡ [] →
    has_wrong_fraction (fraction_text d.fraction ++ d.exponent) ≡ false
no_wrong_fraction d e more cut float same none = by (has_wrong_fraction r) refl
  where
    r : List ℕ
    r = fraction_text d.fraction ++ d.exponent

    by : (b : Bool) → has_wrong_fraction r ≡ b → b ≡ false
    by false wrong = refl
    by true wrong =
        let spells : d.integer ++ (r ++ more) ≡ float_text e =
        ap (λ s. d.integer ++ (s ++ more)) (sym (append-nil r) ∙ append_assoc (fraction_text d.fraction) d.exponent [] ∙ ap (λ s. fraction_text d.fraction ++ (d.exponent ++ s)) (sym none))
        ∙ sym (append_assoc d.integer (fraction_text d.fraction ++ (d.exponent ++ d.suffix)) more) ∙ same in
        let after : r ++ more ≡ fraction_text e.fraction ++ (e.exponent ++ e.suffix) =
        sym (after_run d.integer (r ++ more) cut.integer (wrong_stops r more wrong)) ∙ ap after_digits spells ∙ after_decimals e (float_is_cut e float) in
        absurd (true≢false (sym (wrong_more r more wrong) ∙ ap has_wrong_fraction after ∙ fraction_row e.fraction e.exponent e.suffix float.form))

starts_so : (t more : List ℕ) → first_passes is_ascii_digit (t ++ more) ≡ true → (is_empty t || first_passes is_ascii_digit t) ≡ true
starts_so [] more digit = refl
starts_so (c ∷ t) more digit = digit

-- the first digit is in the integer part
integer_first : (d : FloatParts) → IsCut d → first_passes is_ascii_digit (float_text d) ≡ true → first_passes is_ascii_digit d.integer ≡ true
integer_first d cut digit = by d.integer refl
  where
    r : List ℕ
    r = fraction_text d.fraction ++ (d.exponent ++ d.suffix)

    by : (i : List ℕ) → d.integer ≡ i → first_passes is_ascii_digit i ≡ true
    by (c ∷ i) is = sym (ap (λ l. first_passes is_ascii_digit (l ++ r)) is) ∙ digit
    by [] is = absurd (false≢true (sym (no_digit r (fraction_stops d.fraction d.exponent d.suffix cut.exponent cut.stops)) ∙ sym (ap (λ l. first_passes is_ascii_digit (l ++ r)) is) ∙ digit))

parts_go_on : (d e : FloatParts) (more : List ℕ) → IsCut d → ¬ IsFloat d → IsFloat e → float_text d ++ more ≡ float_text e → FloatGoesOn d
parts_go_on d e more cut none float same =
    let suffix : d.suffix ≡ [] = nothing_after d e more cut none float same in
    let first = starts_digit e.integer (fraction_text e.fraction ++ (e.exponent ++ e.suffix)) float.integer in
    record {
      start = start (or_cases _ _ (starts_so (float_text d) more (ap (first_passes is_ascii_digit) same ∙ first.1)));
      fraction = no_wrong_fraction d e more cut float same suffix;
      suffix = suffix;
    }
  where
    start : (is_empty (float_text d) ≡ true) ⊎ (first_passes is_ascii_digit (float_text d) ≡ true) → (is_empty (float_text d) || first_passes is_ascii_digit d.integer) ≡ true
    start (inl empty) = or_left _ _ empty
    start (inr digit) = or_right _ _ (integer_first d cut digit)

cut_is : (t : List ℕ) (c : CutOf t) → c.parts ≡ float_cut t
cut_is t c = sym (cut_of_text c.parts c.cut) ∙ ap float_cut c.spells

-- the parts of a text that is not a float, but is one with more text after it
pub float_longer : (t more : List ℕ) (d : FloatParts) → HasNoDerivation (IsFloatOf t) → IsFloatOf (t ++ more) d → FloatGoesOn (float_cut t)
float_longer t more d none float =
    let c = cut_of t in
    subst FloatGoesOn (cut_is t c)
    (parts_go_on c.parts d more c.cut (λ grammar. none c.parts (record { spells = c.spells; grammar = grammar })) float.grammar (ap (λ s. s ++ more) c.spells ∙ sym float.spells))

-- Texts that complete such parts: a period if there is neither fraction nor exponent, and a digit
-- after an exponent.

one_more : (c : ℕ) (cs : List ℕ) → is_exponent_front (c ∷ cs) ≡ true → is_exponent (c ∷ (cs ++ 49 ∷ [])) ≡ true
unfolding is_exponent
one_more c cs front =
    let parts : (is_e c ≡ true) × (list_all is_decimal_char (drop (sign_len cs) cs) ≡ true) = and_parts _ _ front in
    let left : drop (sign_len (cs ++ 49 ∷ [])) (cs ++ 49 ∷ []) ≡ drop (sign_len cs) cs ++ 49 ∷ [] =
    ap (λ n. drop n (cs ++ 49 ∷ [])) (sign_len-append cs (49 ∷ []) (λ none. refl)) ∙ drop-append-le (sign_len cs) cs (49 ∷ []) (sign_len_le cs) in
    and_from _ _ parts.0 (ap is_exponent_number left
    ∙ and_from _ _ (list_all-append is_decimal_char (drop (sign_len cs) cs) (49 ∷ []) parts.1 refl) (list_any-append is_ascii_digit (drop (sign_len cs) cs) (49 ∷ []) ∙ or_right _ _ refl))

record Completed (t : List ℕ) : Type 0 where
  more : List ℕ
  parts : FloatParts
  is_text : IsText more
  float : IsFloatOf (t ++ more) parts

-- `1.`
complete_none : Completed []
complete_none = record {
  more = 49 ∷ 46 ∷ [];
  parts = record { integer = 49 ∷ []; fraction = Some []; exponent = []; suffix = [] };
  is_text = refl;
  float = record { spells = refl; grammar = record { integer = refl; form = refl; suffix = is_suffix-nil; no_underscore = refl; no_letter = λ e. refl } };
}

-- a digit more after an exponent
complete_exponent : (i : List ℕ) (f : Option (List ℕ)) (c : ℕ) (cs : List ℕ) → is_decimal_literal i ≡ true → is_float_form f (c ∷ (cs ++ 49 ∷ [])) [] ≡ true →
    Completed (i ++ (fraction_text f ++ c ∷ cs))
complete_exponent i f c cs integer form = record {
  more = 49 ∷ [];
  parts = record { integer = i; fraction = f; exponent = c ∷ (cs ++ 49 ∷ []); suffix = [] };
  is_text = refl;
  float = record {
    spells = ap (λ l. i ++ (fraction_text f ++ l)) (append-nil (c ∷ (cs ++ 49 ∷ []))) ∙ ap (λ l. i ++ l) (sym (append_assoc (fraction_text f) (c ∷ cs) (49 ∷ [])))
        ∙ sym (append_assoc i (fraction_text f ++ c ∷ cs) (49 ∷ []));
    grammar = record { integer = integer; form = form; suffix = is_suffix-nil; no_underscore = refl; no_letter = λ e. refl };
  };
}

-- nothing more
complete_already : (i : List ℕ) (f : Option (List ℕ)) → is_decimal_literal i ≡ true → is_float_form f [] [] ≡ true → Completed (i ++ (fraction_text f ++ []))
complete_already i f integer form = record {
  more = [];
  parts = record { integer = i; fraction = f; exponent = []; suffix = [] };
  is_text = refl;
  float = record {
    spells = sym (append-nil (i ++ (fraction_text f ++ [])));
    grammar = record { integer = integer; form = form; suffix = is_suffix-nil; no_underscore = refl; no_letter = λ e. refl };
  };
}

complete : (i : List ℕ) (f : Option (List ℕ)) (p : List ℕ) → is_decimal_literal i ≡ true → fraction_passes f ≡ true → is_exponent_front p ≡ true →
    has_wrong_fraction (fraction_text f ++ p) ≡ false → Completed (i ++ (fraction_text f ++ p))
complete i None [] integer passes front right = record {
  more = 46 ∷ [];
  parts = record { integer = i; fraction = Some []; exponent = []; suffix = [] };
  is_text = refl;
  float = record {
    spells = ap (λ l. l ++ 46 ∷ []) (sym (append-nil i));
    grammar = record { integer = integer; form = refl; suffix = is_suffix-nil; no_underscore = refl; no_letter = λ e. refl };
  };
}
complete i None (c ∷ cs) integer passes front right = complete_exponent i None c cs integer (one_more c cs front)
complete i (Some []) [] integer passes front right = complete_already i (Some []) integer refl
complete i (Some []) (c ∷ cs) integer passes front right =
    let other : is_ascii_digit c ≡ false = (or_parts _ _ (letter_decimal c (and_parts _ _ front).0)).0 in
    absurd (true≢false (ap not (sym other) ∙ right))
complete i (Some (d ∷ ds)) [] integer passes front right =
    complete_already i (Some (d ∷ ds)) integer (and_from _ _ (and_from (is_ascii_digit d) _ (not-false _ right) passes) refl)
complete i (Some (d ∷ ds)) (c ∷ cs) integer passes front right =
    complete_exponent i (Some (d ∷ ds)) c cs integer (and_from _ _ (and_from (is_ascii_digit d) _ (not-false _ right) passes) (one_more c cs front))

complete_parts : (d : FloatParts) → IsCut d → FloatGoesOn d → Completed (float_text d)
complete_parts d cut goes_on = by (or_cases _ _ goes_on.start)
  where
    spells : d.integer ++ (fraction_text d.fraction ++ d.exponent) ≡ float_text d
    spells = ap (λ l. d.integer ++ (fraction_text d.fraction ++ l)) (sym (append-nil d.exponent) ∙ ap (λ l. d.exponent ++ l) (sym goes_on.suffix))

    by : (is_empty (float_text d) ≡ true) ⊎ (first_passes is_ascii_digit d.integer ≡ true) → Completed (float_text d)
    by (inl empty) = subst Completed (sym (empty-true (float_text d) empty)) (complete_none)
    by (inr digit) = subst Completed spells (complete d.integer d.fraction d.exponent (and_from _ _ digit cut.integer) cut.fraction cut.exponent goes_on.fraction)

-- a refused text begins a float if and only if its parts are incomplete
pub float_begins : (t : List ℕ) (r : Refusal) → float_refusal t ≡ Some r → BeginsBy IsFloatOf t ↔ FloatGoesOn (float_cut t)
float_begins t r h = (λ begins. float_longer t begins.0 begins.1 (refused t r h) begins.3, completed)
  where
    completed : FloatGoesOn (float_cut t) → BeginsBy IsFloatOf t
    completed goes_on =
        let c = cut_of t in
        let full = subst Completed c.spells (complete_parts c.parts c.cut (subst FloatGoesOn (sym (cut_is t c)) goes_on)) in
        (full.more, full.parts, full.is_text, full.float)

-- The rows of such parts in the table.

-- the kind is final
abbrev final_row : Option Refusal → Bool
final_row None = false
final_row (Some r) = is_final r.kind

rows_go_on : (i f n len : ℕ) (kind : ParseErrorKind) (empty digit fraction exponent exponent_digit : Bool) → (empty || digit) ≡ true →
    final_row (number_rows empty digit (float_rows i f n len kind false fraction exponent exponent_digit true)) ≡ false
rows_go_on i f n len kind true digit fraction exponent exponent_digit start = refl
rows_go_on i f n len kind false false fraction exponent exponent_digit start = absurd (false≢true start)
rows_go_on i f n len kind false true fraction true false start = refl
rows_go_on i f n len kind false true true true true start = refl
rows_go_on i f n len kind false true false true true start = refl
rows_go_on i f n len kind false true true false exponent_digit start = refl
rows_go_on i f n len kind false true false false exponent_digit start = refl

cut_goes_on : (d : FloatParts) → FloatGoesOn d → final_row (cut_rows d) ≡ false
cut_goes_on d goes_on =
    let right : has_wrong_fraction (fraction_text d.fraction ++ (d.exponent ++ d.suffix)) ≡ false =
    ap (λ l. has_wrong_fraction (fraction_text d.fraction ++ l)) (ap (λ l. d.exponent ++ l) goes_on.suffix ∙ append-nil d.exponent) ∙ goes_on.fraction in
    let none : is_suffix d.suffix ≡ true = ap is_suffix goes_on.suffix ∙ is_suffix-nil in
    let i = length d.integer in
    let f = i + length (fraction_text d.fraction) in
    rw (right, none) (rows_go_on i f (f + length d.exponent) (byte_len (float_text d)) (suffix_kind d.suffix) (is_empty (float_text d)) (first_passes is_ascii_digit (float_text d))
    (is_some d.fraction) (not (is_empty d.exponent)) (list_any is_ascii_digit d.exponent) (start (or_cases _ _ goes_on.start)))
  where
    start : (is_empty (float_text d) ≡ true) ⊎ (first_passes is_ascii_digit d.integer ≡ true) → (is_empty (float_text d) || first_passes is_ascii_digit (float_text d)) ≡ true
    start (inl empty) = or_left _ _ empty
    start (inr digit) = or_right _ _ (first_passes-append is_ascii_digit d.integer _ digit)

goes_on_row : (t : List ℕ) → FloatGoesOn (float_cut t) → final_row (float_refusal t) ≡ false
goes_on_row t goes_on =
    let c = cut_of t in
    ap final_row (ap float_refusal (sym c.spells) ∙ refusal_of_cut c.parts c.cut) ∙ cut_goes_on c.parts (subst FloatGoesOn (sym (cut_is t c)) goes_on)

-- after a final refusal no extension of the text is a float
pub float_finality : (t : List ℕ) (r : Refusal) → float_refusal t ≡ Some r → is_final r.kind ≡ true → EndsBy IsFloatOf t
float_finality t r h final more d float =
    true≢false (sym final ∙ sym (ap final_row h) ∙ goes_on_row t (float_longer t more d (refused t r h) float))

no_open_row : (t : List ℕ) → is_open_row (float_refusal t) ≡ false
unfolding float_refusal
no_open_row t = search (shut_number, shut_if, shut_suffix)

-- no refusal is open
pub float_not_open : (t : List ℕ) (r : Refusal) → float_refusal t ≡ Some r → is_open r.kind ≡ false
float_not_open t r h = sym (ap is_open_row h) ∙ no_open_row t

-- a float does not contain LF, so no text that begins one ends with LF
pub float_line_end : (t : List ℕ) → EndsBy IsFloatOf (t ++ 10 ∷ [])
float_line_end t more d float =
    let number : list_all is_other (number_part d) ≡ true =
    list_all-weaken is_number_char is_other (λ c h. ap not (number_line_feed c h)) (number_part d) (number_part_chars d (float_is_cut d float.grammar)) in
    no_line_feed t more (subst (λ l. list_all is_other l ≡ true) (number_part-suffix d ∙ float.spells)
    (list_all-append is_other (number_part d) d.suffix number (suffix_other d.suffix float.grammar.suffix)))
