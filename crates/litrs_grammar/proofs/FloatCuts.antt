-- Every text that begins with digits is cut in one way into the parts that a float would have.
use Rattle.std.proofs.Common.{◌≡◌, ℕ, ◌≤◌, Bool, true, false, cond, ◌&&◌, List, [], ◌∷◌, ◌++◌, length, take, drop, Option, Some, None, refl, sym, ap, subst, ◌∙◌, inl, inr, arith}
use Rattle.std.specs.List.{list_all, prefix_len, take_while}
use Rattle.std.proofs.lemmas.Bool.{and_parts, and_from, eqb-true, cases_Bool}
use Rattle.std.proofs.lemmas.Bool.Decides.{nat_tests}
use Rattle.std.proofs.lemmas.List.{drop_at, append_assoc, take-append-drop, take-append-le, drop-append-le}
use Rattle.litrs_base.specs.Text.{first_passes}
use Rattle.litrs_grammar.specs.Integer.{is_e}
use Rattle.litrs_grammar.specs.Float.{FloatParts, fraction_text, number_part, float_text, is_decimal_char, is_period, is_sign, sign_len, fraction_of, exponent_of, text_after, float_cut}
use Rattle.litrs_grammar.proofs.Laws.Integer.{prefix_len_front, take_while_front}
use Rattle.litrs_base.proofs.Runs.{run_of}

-- tests on one character

pub letter_decimal : (c : ℕ) → is_e c ≡ true → is_decimal_char c ≡ false
letter_decimal c h = grind (arith, nat_tests)

pub letter_period : (c : ℕ) → is_e c ≡ true → is_period c ≡ false
letter_period c h = grind (arith, nat_tests)

pub decimal_sign : (c : ℕ) → is_decimal_char c ≡ true → is_sign c ≡ false
decimal_sign c h = grind (arith, nat_tests)

-- an exponent that need not have a digit
abbrev pub is_exponent_front : List ℕ → Bool
is_exponent_front [] = true
is_exponent_front (c ∷ cs) = is_e c && list_all is_decimal_char (drop (sign_len cs) cs)

abbrev pub fraction_passes : Option (List ℕ) → Bool
fraction_passes None = true
fraction_passes (Some f) = list_all is_decimal_char f

-- Each part goes as far as it can.
pub record IsCut (d : FloatParts) : Type 0 where
  pub integer : list_all is_decimal_char d.integer ≡ true
  pub fraction : fraction_passes d.fraction ≡ true
  pub exponent : is_exponent_front d.exponent ≡ true
  pub stops : first_passes is_decimal_char d.suffix ≡ false
  pub no_letter : d.exponent ≡ [] → first_passes is_e d.suffix ≡ false
  pub no_sign : (c : ℕ) → d.exponent ≡ c ∷ [] → first_passes is_sign d.suffix ≡ false
  pub no_period : d.fraction ≡ None → d.exponent ≡ [] → first_passes is_period d.suffix ≡ false

-- after the fraction

pub exponent_stops : (p x : List ℕ) → is_exponent_front p ≡ true → first_passes is_decimal_char x ≡ false → first_passes is_decimal_char (p ++ x) ≡ false
exponent_stops [] x front stop = stop
exponent_stops (c ∷ cs) x front stop = letter_decimal c (and_parts _ _ front).0

pub fraction_stops : (f : Option (List ℕ)) (p x : List ℕ) → is_exponent_front p ≡ true → first_passes is_decimal_char x ≡ false →
    first_passes is_decimal_char (fraction_text f ++ (p ++ x)) ≡ false
fraction_stops None p x front stop = exponent_stops p x front stop
fraction_stops (Some f) p x front stop = refl

-- the text after the digits and `_` in front
pub after_decimals : (d : FloatParts) → IsCut d →
    drop (prefix_len is_decimal_char (float_text d)) (float_text d) ≡ fraction_text d.fraction ++ (d.exponent ++ d.suffix)
after_decimals d cut =
    let r = fraction_text d.fraction ++ (d.exponent ++ d.suffix) in
    drop_at d.integer r (prefix_len is_decimal_char (d.integer ++ r))
    (sym (prefix_len_front is_decimal_char d.integer r cut.integer (fraction_stops d.fraction d.exponent d.suffix cut.exponent cut.stops)))

-- the characters that each part takes

fraction_none : (p x : List ℕ) → is_exponent_front p ≡ true → (p ≡ [] → first_passes is_period x ≡ false) → fraction_of (p ++ x) ≡ None
fraction_none [] [] front no_period = refl
fraction_none [] (c ∷ cs) front no_period = ap (λ v. cond v (Some (take_while is_decimal_char cs)) None) (no_period refl)
fraction_none (c ∷ cs) x front no_period = ap (λ v. cond v (Some (take_while is_decimal_char (cs ++ x))) None) (letter_period c (and_parts _ _ front).0)

fraction_of-text : (f : Option (List ℕ)) (p x : List ℕ) → fraction_passes f ≡ true → is_exponent_front p ≡ true →
    first_passes is_decimal_char x ≡ false → (f ≡ None → p ≡ [] → first_passes is_period x ≡ false) →
    fraction_of (fraction_text f ++ (p ++ x)) ≡ f
fraction_of-text None p x passes front stop no_period = fraction_none p x front (no_period refl)
fraction_of-text (Some f) p x passes front stop no_period = ap Some (take_while_front is_decimal_char f (p ++ x) passes (exponent_stops p x front stop))

pub sign_len-append : (cs x : List ℕ) → (cs ≡ [] → first_passes is_sign x ≡ false) → sign_len (cs ++ x) ≡ sign_len cs
sign_len-append [] x no_sign = ap (λ v. cond v 1 0) (no_sign refl)
sign_len-append (c ∷ cs) x no_sign = refl

pub sign_len_le : (cs : List ℕ) → sign_len cs ≤ length cs
sign_len_le [] = omega arith
sign_len_le (c ∷ cs) = elim (cases_Bool (is_sign c)) [
  | inl yes_sign ↦ (let e : sign_len (c ∷ cs) ≡ 1 = ap (λ v. cond v 1 0) yes_sign in omega arith)
  | inr no_sign ↦ (let e : sign_len (c ∷ cs) ≡ 0 = ap (λ v. cond v 1 0) no_sign in omega arith)
]

-- the number of an exponent, with its sign
number_of : (cs x : List ℕ) → list_all is_decimal_char (drop (sign_len cs) cs) ≡ true → first_passes is_decimal_char x ≡ false → (cs ≡ [] → first_passes is_sign x ≡ false) →
    take (sign_len (cs ++ x)) (cs ++ x) ++ take_while is_decimal_char (drop (sign_len (cs ++ x)) (cs ++ x)) ≡ cs
number_of cs x all stop no_sign =
    let same : sign_len (cs ++ x) ≡ sign_len cs = sign_len-append cs x no_sign in
    let within : sign_len cs ≤ length cs = sign_len_le cs in
    let taken : take (sign_len cs) (cs ++ x) ≡ take (sign_len cs) cs = take-append-le (sign_len cs) cs x within in
    let left : drop (sign_len cs) (cs ++ x) ≡ drop (sign_len cs) cs ++ x = drop-append-le (sign_len cs) cs x within in
    let run : take_while is_decimal_char (drop (sign_len cs) cs ++ x) ≡ drop (sign_len cs) cs = take_while_front is_decimal_char (drop (sign_len cs) cs) x all stop in
    rw (same, taken, left, run) (take-append-drop (sign_len cs) cs)

exponent_of-text : (p x : List ℕ) → is_exponent_front p ≡ true → first_passes is_decimal_char x ≡ false → (p ≡ [] → first_passes is_e x ≡ false) →
    ((c : ℕ) → p ≡ c ∷ [] → first_passes is_sign x ≡ false) → exponent_of (p ++ x) ≡ p
exponent_of-text [] [] front stop no_letter no_sign = refl
exponent_of-text [] (c ∷ cs) front stop no_letter no_sign =
    ap (λ v. cond v (c ∷ (take (sign_len cs) cs ++ take_while is_decimal_char (drop (sign_len cs) cs))) []) (no_letter refl)
exponent_of-text (c ∷ cs) x front stop no_letter no_sign =
    let parts : (is_e c ≡ true) × (list_all is_decimal_char (drop (sign_len cs) cs) ≡ true) = and_parts _ _ front in
    let r = cs ++ x in
    ap (λ v. cond v (c ∷ (take (sign_len r) r ++ take_while is_decimal_char (drop (sign_len r) r))) []) parts.0
    ∙ ap (λ t. c ∷ t) (number_of cs x parts.1 stop (λ e. no_sign c (ap (λ t. c ∷ t) e)))

-- the text is its number part and the suffix
pub number_part-suffix : (d : FloatParts) → number_part d ++ d.suffix ≡ float_text d
number_part-suffix d =
    append_assoc d.integer (fraction_text d.fraction ++ d.exponent) d.suffix ∙ ap (λ t. d.integer ++ t) (append_assoc (fraction_text d.fraction) d.exponent d.suffix)

-- a text is cut in one way

after_exponent : List ℕ → Option (List ℕ) → List ℕ → List ℕ → FloatParts
after_exponent i f p t = record { integer = i; fraction = f; exponent = p; suffix = text_after (i ++ (fraction_text f ++ p)) t }

after_fraction : List ℕ → Option (List ℕ) → List ℕ → FloatParts
after_fraction i f t = after_exponent i f (exponent_of (text_after (i ++ fraction_text f) t)) t

after_integer : List ℕ → List ℕ → FloatParts
after_integer i t = after_fraction i (fraction_of (text_after i t)) t

-- the parts of a text that is cut
pub cut_of_text : (d : FloatParts) → IsCut d → float_cut (float_text d) ≡ d
unfolding float_cut after_integer after_fraction after_exponent
cut_of_text d cut =
    let i = d.integer in
    let f = fraction_text d.fraction in
    let p = d.exponent in
    let x = d.suffix in
    let t = float_text d in
    let integer : take_while is_decimal_char t ≡ i = take_while_front is_decimal_char i (f ++ (p ++ x)) cut.integer (fraction_stops d.fraction p x cut.exponent cut.stops) in
    let integer_left : text_after i t ≡ f ++ (p ++ x) = drop_at i (f ++ (p ++ x)) (length i) refl in
    let fraction_left : text_after (i ++ f) t ≡ p ++ x = ap (text_after (i ++ f)) (sym (append_assoc i f (p ++ x))) ∙ drop_at (i ++ f) (p ++ x) (length (i ++ f)) refl in
    let after_number : text_after (number_part d) t ≡ x = ap (text_after (number_part d)) (sym (number_part-suffix d)) ∙ drop_at (number_part d) x (length (number_part d)) refl in
    let fraction = fraction_of-text d.fraction p x cut.fraction cut.exponent cut.stops cut.no_period in
    let exponent = exponent_of-text p x cut.exponent cut.stops cut.no_letter cut.no_sign in
    ap (λ s. after_integer s t) integer
    ∙ (ap (λ s. after_fraction i s t) (ap fraction_of integer_left ∙ fraction)
    ∙ (ap (λ s. after_exponent i d.fraction s t) (ap exponent_of fraction_left ∙ exponent)
    ∙ (λ j. record { integer = i; fraction = d.fraction; exponent = p; suffix = after_number j })))

pub same_cut : (d e : FloatParts) → IsCut d → IsCut e → float_text d ≡ float_text e → d ≡ e
same_cut d e cut_d cut_e same = sym (cut_of_text d cut_d) ∙ (ap float_cut same ∙ cut_of_text e cut_e)

-- every text is cut

pub record CutOf (t : List ℕ) : Type 0 where
  pub parts : FloatParts
  pub spells : float_text parts ≡ t
  pub cut : IsCut parts

-- after the integer part and the fraction
record ExponentCut (r : List ℕ) : Type 0 where
  exponent : List ℕ
  suffix : List ℕ
  spells : exponent ++ suffix ≡ r
  front : is_exponent_front exponent ≡ true
  stops : first_passes is_decimal_char suffix ≡ false
  no_letter : exponent ≡ [] → first_passes is_e suffix ≡ false
  no_sign : (c : ℕ) → exponent ≡ c ∷ [] → first_passes is_sign suffix ≡ false
  all : exponent ≡ [] → suffix ≡ r

no_exponent : (r : List ℕ) → first_passes is_decimal_char r ≡ false → first_passes is_e r ≡ false → ExponentCut r
no_exponent r stop no_letter = record {
  exponent = [];
  suffix = r;
  spells = refl;
  front = refl;
  stops = stop;
  no_letter = λ e. no_letter;
  no_sign = λ c e. absurd (let none : [] ≡ c ∷ [] = e in cc);
  all = λ e. refl;
}

sign_front : (c s : ℕ) (ds : List ℕ) → is_e c ≡ true → is_sign s ≡ true → list_all is_decimal_char ds ≡ true → is_exponent_front (c ∷ s ∷ ds) ≡ true
sign_front c s ds letter sign all = and_from _ _ letter (ap (λ n. list_all is_decimal_char (drop n (s ∷ ds))) (ap (λ v. cond v 1 0) sign) ∙ all)

plain_front : (c : ℕ) (ds : List ℕ) → is_e c ≡ true → list_all is_decimal_char ds ≡ true → is_exponent_front (c ∷ ds) ≡ true
plain_front c [] letter all = and_from _ _ letter refl
plain_front c (s ∷ ds) letter all = and_from _ _ letter
    (ap (λ n. list_all is_decimal_char (drop n (s ∷ ds))) (ap (λ v. cond v 1 0) (decimal_sign s (and_parts _ _ all).0)) ∙ all)

exponent_plain : (c : ℕ) (cs : List ℕ) → is_e c ≡ true → first_passes is_sign cs ≡ false → ExponentCut (c ∷ cs)
exponent_plain c cs letter no_sign = let r = run_of is_decimal_char cs in record {
  exponent = c ∷ r.front;
  suffix = r.rest;
  spells = ap (λ t. c ∷ t) r.spells;
  front = plain_front c r.front letter r.passes;
  stops = r.stops;
  no_letter = λ e. absurd (let none : c ∷ r.front ≡ [] = e in cc);
  no_sign = λ d e. (let none : r.front ≡ [] = (let here : c ∷ r.front ≡ d ∷ [] = e in cc) in
      subst (λ (t : List ℕ). first_passes is_sign t ≡ false) (sym r.spells ∙ ap (λ t. t ++ r.rest) none) no_sign);
  all = λ e. absurd (let none : c ∷ r.front ≡ [] = e in cc);
}

exponent_signed : (c s : ℕ) (cs : List ℕ) → is_e c ≡ true → is_sign s ≡ true → ExponentCut (c ∷ s ∷ cs)
exponent_signed c s cs letter sign = let r = run_of is_decimal_char cs in record {
  exponent = c ∷ s ∷ r.front;
  suffix = r.rest;
  spells = ap (λ t. c ∷ s ∷ t) r.spells;
  front = sign_front c s r.front letter sign r.passes;
  stops = r.stops;
  no_letter = λ e. absurd (let none : c ∷ s ∷ r.front ≡ [] = e in cc);
  no_sign = λ d e. absurd (let none : c ∷ s ∷ r.front ≡ d ∷ [] = e in cc);
  all = λ e. absurd (let none : c ∷ s ∷ r.front ≡ [] = e in cc);
}

exponent_after : (c : ℕ) (cs : List ℕ) → is_e c ≡ true → ExponentCut (c ∷ cs)
exponent_after c [] letter = exponent_plain c [] letter refl
exponent_after c (s ∷ cs) letter = elim (cases_Bool (is_sign s)) [
  | inl sign ↦ exponent_signed c s cs letter sign
  | inr no_sign ↦ exponent_plain c (s ∷ cs) letter no_sign
]

exponent_cut : (r : List ℕ) → first_passes is_decimal_char r ≡ false → ExponentCut r
exponent_cut [] stop = no_exponent [] refl refl
exponent_cut (c ∷ cs) stop = elim (cases_Bool (is_e c)) [
  | inl letter ↦ exponent_after c cs letter
  | inr no_letter ↦ no_exponent (c ∷ cs) stop no_letter
]

-- a text with this integer part
whole_cut : (t i : List ℕ) (f : Option (List ℕ)) (r : List ℕ) → i ++ (fraction_text f ++ r) ≡ t → list_all is_decimal_char i ≡ true → fraction_passes f ≡ true →
    (f ≡ None → first_passes is_period r ≡ false) → ExponentCut r → CutOf t
whole_cut t i f r spells integer fraction no_period e = record {
  parts = record { integer = i; fraction = f; exponent = e.exponent; suffix = e.suffix };
  spells = ap (λ t. i ++ (fraction_text f ++ t)) e.spells ∙ spells;
  cut = record {
    integer = integer;
    fraction = fraction;
    exponent = e.front;
    stops = e.stops;
    no_letter = e.no_letter;
    no_sign = e.no_sign;
    no_period = λ none empty. subst (λ (t : List ℕ). first_passes is_period t ≡ false) (sym (e.all empty)) (no_period none);
  };
}

fraction_cut : (t i : List ℕ) (cs : List ℕ) → i ++ (46 ∷ cs) ≡ t → list_all is_decimal_char i ≡ true → CutOf t
fraction_cut t i cs spells integer = let r = run_of is_decimal_char cs in
    whole_cut t i (Some r.front) r.rest (ap (λ t. i ++ (46 ∷ t)) r.spells ∙ spells) integer r.passes (λ e. absurd (let none : Some r.front ≡ None = e in cc)) (exponent_cut r.rest r.stops)

after_cut : (t i r : List ℕ) → i ++ r ≡ t → list_all is_decimal_char i ≡ true → first_passes is_decimal_char r ≡ false → CutOf t
after_cut t i [] spells integer stop = whole_cut t i None [] spells integer refl (λ e. refl) (exponent_cut [] refl)
after_cut t i (c ∷ cs) spells integer stop = elim (cases_Bool (is_period c)) [
  | inl period ↦ fraction_cut t i cs (ap (λ d. i ++ (d ∷ cs)) (sym (eqb-true c 46 period)) ∙ spells) integer
  | inr no_period ↦ whole_cut t i None (c ∷ cs) spells integer refl (λ e. no_period) (exponent_cut (c ∷ cs) stop)
]

pub cut_of : (t : List ℕ) → CutOf t
cut_of t = let r = run_of is_decimal_char t in after_cut t r.front r.rest r.spells r.passes r.stops
