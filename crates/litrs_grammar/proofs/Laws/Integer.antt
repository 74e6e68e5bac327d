-- Integers: a text has at most one derivation, and one if and only if it has no refusal. The grammar alone.
use Rattle.std.proofs.Common.{◌≡◌, ℕ, suc, ◌+◌, Bool, true, false, cond, eqb, ◌||◌, List, [], ◌∷◌, ◌++◌, length, take, drop, Option, Some, None, refl, sym, ap, subst, ◌∙◌, arith}
use Rattle.std.specs.Char.{is_ascii_digit}
use Rattle.std.specs.List.{prefix_len, list_all, list_any, take_while}
use Rattle.std.proofs.lemmas.List.{take_at, drop_at, take-append-drop}
use Rattle.std.proofs.lemmas.List.Folds.{length-prefix_len}
use Rattle.std.proofs.lemmas.Bool.{and_parts, or_parts, or_left}
use Rattle.litrs_base.specs.Refusal.{Refusal, without_span, spanning, at_byte}
use Rattle.litrs_base.specs.declared.err.ParseErrorKind.{ParseErrorKind}
use Rattle.litrs_base.specs.declared.err.ParseErrorKind.TheVariants.{Empty, DoesNotStartWithDigit, InvalidDigit, NoDigits, IntegerSuffixStartingWithE}
use Rattle.std.specs.Prelude.{if◌then◌else◌, not}
use Rattle.litrs_base.specs.declared.integer.IntegerBase.{IntegerBase}
use Rattle.litrs_base.specs.declared.integer.IntegerBase.TheVariants.{Binary, Octal, Decimal, Hexadecimal}
use Rattle.litrs_base.specs.Text.{is_empty, byte_len, first_passes, begins_with}
use Rattle.litrs_grammar.specs.Suffix.{is_suffix, suffix_kind}
use Rattle.litrs_base.specs.Base.{prefix, is_digit, is_digit_or_underscore}
use Rattle.litrs_base.specs.Derivations.{IsOnlyDerivation, HasNoDerivation}
use Rattle.litrs_grammar.specs.Integer.{IntegerParts, integer_text, IsInteger, IsIntegerOf, is_e, has_prefix, base_of, integer_cut, integer_cut_refusal, integer_refusal}
use Rattle.litrs_base.proofs.Begins.{begins_with-split}
use Rattle.litrs_base.proofs.Runs.{list_all-take_while}

-- The rows of the refusals, by tests of the text

abbrev pub integer_rows : (start end len : ℕ) (suffix_after digit_after : Bool) (kind : ParseErrorKind) (e_after some_digit : Bool) → Option Refusal
integer_rows start end len suffix_after digit_after kind e_after some_digit =
    if not suffix_after then (if digit_after then Some (at_byte end InvalidDigit) else Some (spanning end len kind))
    else if e_after then Some (at_byte end IntegerSuffixStartingWithE)
    else if not some_digit then Some (spanning start end NoDigits)
    else None

-- any number: the empty text, and one that does not begin with a decimal digit, come first
abbrev pub number_rows : (no_character digit_first : Bool) → Option Refusal → Option Refusal
number_rows no_character digit_first refusal =
    if no_character then Some (without_span Empty) else if not digit_first then Some (at_byte 0 DoesNotStartWithDigit) else refusal

-- Lists

-- the two spellings of a successor
pub one_more : (n : ℕ) → 1 + n ≡ suc n
one_more n = omega arith

-- a front whose elements all pass, before something that does not
pub prefix_len_front : (p : ℕ → Bool) (front rest : List ℕ) → list_all p front ≡ true → first_passes p rest ≡ false →
    prefix_len p (front ++ rest) ≡ length front
prefix_len_front p [] [] all stops = refl
prefix_len_front p [] (c ∷ rest) all stops = ap (λ v. cond v (1 + prefix_len p rest) 0) stops
prefix_len_front p (c ∷ front) rest all stops =
    let parts = and_parts (p c) (list_all p front) all in
    ap (λ v. cond v (1 + prefix_len p (front ++ rest)) 0) parts.0 ∙ (let more = prefix_len_front p front rest parts.1 stops in omega (arith, more))

pub take_while_front : (p : ℕ → Bool) (front rest : List ℕ) → list_all p front ≡ true → first_passes p rest ≡ false →
    take_while p (front ++ rest) ≡ front
take_while_front p front rest all stops =
    take_at front rest (prefix_len p (front ++ rest)) (sym (prefix_len_front p front rest all stops))

-- the part that passes from the front on, and the rest
pub first_passes-rest : (p : ℕ → Bool) (xs : List ℕ) → first_passes p (drop (prefix_len p xs) xs) ≡ false
first_passes-rest p [] = refl
first_passes-rest p (c ∷ xs) = stops p c xs (p c) refl (first_passes-rest p xs)
  where
    stops : (p : ℕ → Bool) (c : ℕ) (xs : List ℕ) (v : Bool) → p c ≡ v → first_passes p (drop (prefix_len p xs) xs) ≡ false →
        first_passes p (drop (cond v (1 + prefix_len p xs) 0) (c ∷ xs)) ≡ false
    stops p c xs true passes more = ap (λ n. first_passes p (drop n (c ∷ xs))) (one_more (prefix_len p xs)) ∙ more
    stops p c xs false passes more = passes

pub take_while-append-rest : (p : ℕ → Bool) (xs : List ℕ) → take_while p xs ++ drop (length (take_while p xs)) xs ≡ xs
take_while-append-rest p xs = rw (length-prefix_len p xs) (take-append-drop (prefix_len p xs) xs)

pub first_passes-append : (p : ℕ → Bool) (xs ys : List ℕ) → first_passes p xs ≡ true → first_passes p (xs ++ ys) ≡ true
first_passes-append p [] ys e = cc
first_passes-append p (c ∷ xs) ys e = e

pub not_empty_by_first : (p : ℕ → Bool) (t : List ℕ) → first_passes p t ≡ true → is_empty t ≡ false
not_empty_by_first p [] e = cc
not_empty_by_first p (c ∷ t) e = refl

-- The rows, read backwards

pub number_rows-None : (a b : Bool) (r : Option Refusal) → number_rows a b r ≡ None → (a ≡ false) × (b ≡ true) × (r ≡ None)
number_rows-None true b r e = cc
number_rows-None false true r e = (refl, refl, e)
number_rows-None false false r e = cc

pub integer_rows-None : (start end len : ℕ) (suffix digit : Bool) (kind : ParseErrorKind) (e some : Bool) →
    integer_rows start end len suffix digit kind e some ≡ None → (suffix ≡ true) × (e ≡ false) × (some ≡ true)
integer_rows-None start end len true digit kind true some h = cc
integer_rows-None start end len true digit kind false true h = (refl, refl, refl)
integer_rows-None start end len true digit kind false false h = cc
integer_rows-None start end len false true kind e some h = cc
integer_rows-None start end len false false kind e some h = cc

-- The cut of a text that is an integer

abbrev pub cut_with : IntegerBase → List ℕ → IntegerParts
cut_with base t =
    let after = drop (length (prefix base)) t in
    let main = take_while (is_digit_or_underscore base) after in
    record { base = base; main = main; suffix = drop (length main) after }

pub integer_cut-is : (t : List ℕ) → integer_cut t ≡ cut_with (base_of t) t
unfolding integer_cut
integer_cut-is t = refl

pub cut_with-text : (d : IntegerParts) → IsInteger d → cut_with d.base (integer_text d) ≡ d
cut_with-text d g =
    let p = is_digit_or_underscore d.base in
    let after : drop (length (prefix d.base)) (integer_text d) ≡ d.main ++ d.suffix = drop_at (prefix d.base) (d.main ++ d.suffix) (length (prefix d.base)) refl in
    let main : take_while p (d.main ++ d.suffix) ≡ d.main = take_while_front p d.main d.suffix g.digits g.ends in
    ap (λ u. record { base = d.base; main = take_while p u; suffix = drop (length (take_while p u)) u }) after
    ∙ (ap (λ m. record { base = d.base; main = m; suffix = drop (length m) (d.main ++ d.suffix) }) main
    ∙ ap (λ x. record { base = d.base; main = d.main; suffix = x }) (drop_at d.main d.suffix (length d.main) refl))

base_of-decimal : (t : List ℕ) → has_prefix t ≡ false → base_of t ≡ Decimal
base_of-decimal t none =
    let three = or_parts (begins_with (prefix Binary) t || begins_with (prefix Octal) t) (begins_with (prefix Hexadecimal) t) none in
    let two = or_parts (begins_with (prefix Binary) t) (begins_with (prefix Octal) t) three.0 in
    rw (two.0, two.1, three.1) refl

base_of-text : (base : IntegerBase) (m x : List ℕ) → IsInteger (record { base = base; main = m; suffix = x }) →
    base_of (integer_text (record { base = base; main = m; suffix = x })) ≡ base
base_of-text Binary m x g = refl
base_of-text Octal m x g = refl
base_of-text Hexadecimal m x g = refl
base_of-text Decimal m x g = base_of-decimal (m ++ x) (g.decimal_prefix refl)

pub cut_of_text : (t : List ℕ) (d : IntegerParts) → IsIntegerOf t d → integer_cut t ≡ d
cut_of_text t d r =
    integer_cut-is t ∙ (ap (λ u. cut_with (base_of u) u) (sym r.spells)
    ∙ (ap (λ b. cut_with b (integer_text d)) (base_of-text d.base d.main d.suffix r.grammar) ∙ cut_with-text d r.grammar))

-- At most one derivation

pub only_integer : (t : List ℕ) (d e : IntegerParts) → IsIntegerOf t d → IsIntegerOf t e → e ≡ d
only_integer t d e r s = sym (cut_of_text t e s) ∙ cut_of_text t d r

-- a text with a derivation has no refusal

first_digit : (base : IntegerBase) (m x : List ℕ) → IsInteger (record { base = base; main = m; suffix = x }) →
    first_passes is_ascii_digit (integer_text (record { base = base; main = m; suffix = x })) ≡ true
first_digit Binary m x g = refl
first_digit Octal m x g = refl
first_digit Hexadecimal m x g = refl
first_digit Decimal m x g = first_passes-append is_ascii_digit m x (g.decimal_digit refl)

pub starts_with_digit : (t : List ℕ) (d : IntegerParts) → IsIntegerOf t d → first_passes is_ascii_digit t ≡ true
starts_with_digit t d r = ap (first_passes is_ascii_digit) (sym r.spells) ∙ first_digit d.base d.main d.suffix r.grammar

cut_refusal-free : (d : IntegerParts) → IsInteger d → integer_cut_refusal d ≡ None
cut_refusal-free d g = rw (g.suffix, g.no_exponent, g.some_digit) refl

pub integer_refusal-free : (t : List ℕ) (d : IntegerParts) → IsIntegerOf t d → integer_refusal t ≡ None
unfolding integer_refusal
integer_refusal-free t d r =
    let digit = starts_with_digit t d r in
    let filled = not_empty_by_first is_ascii_digit t digit in
    rw (filled, digit, cut_of_text t d r) (cut_refusal-free d r.grammar)

-- if there is no refusal, the cut is a derivation

abbrev IsBase : List ℕ → IntegerBase → Type 0
IsBase t base = (prefix base ++ drop (length (prefix base)) t ≡ t) × (base ≡ Decimal → has_prefix t ≡ false)

base_by : (t : List ℕ) (b o x : Bool) → begins_with (prefix Binary) t ≡ b → begins_with (prefix Octal) t ≡ o → begins_with (prefix Hexadecimal) t ≡ x →
    IsBase t (cond b Binary (cond o Octal (cond x Hexadecimal Decimal)))
base_by t true o x is_b is_o is_x = (begins_with-split (prefix Binary) t is_b, λ e. cc)
base_by t false true x is_b is_o is_x = (begins_with-split (prefix Octal) t is_o, λ e. cc)
base_by t false false true is_b is_o is_x = (begins_with-split (prefix Hexadecimal) t is_x, λ e. cc)
base_by t false false false is_b is_o is_x = (refl, λ e. rw (is_b, is_o, is_x) refl)

pub base_of-is : (t : List ℕ) → IsBase t (base_of t)
base_of-is t = base_by t (begins_with (prefix Binary) t) (begins_with (prefix Octal) t) (begins_with (prefix Hexadecimal) t) refl refl refl

pub cut-spells : (t : List ℕ) → integer_text (cut_with (base_of t) t) ≡ t
cut-spells t =
    let after = drop (length (prefix (base_of t))) t in
    ap (λ u. prefix (base_of t) ++ u) (take_while-append-rest (is_digit_or_underscore (base_of t)) after) ∙ (base_of-is t).0

first_taken : (p q : ℕ → Bool) (t : List ℕ) → ((c : ℕ) → q c ≡ true → p c ≡ true) → first_passes q t ≡ true → first_passes q (take_while p t) ≡ true
first_taken p q [] implies e = cc
first_taken p q (c ∷ t) implies e =
    ap (λ v. first_passes q (take (cond v (1 + prefix_len p t) 0) (c ∷ t))) (implies c e)
    ∙ (ap (λ n. first_passes q (take n (c ∷ t))) (one_more (prefix_len p t)) ∙ e)

-- the main part of a decimal text
decimal_main : (t : List ℕ) (base : IntegerBase) → base ≡ Decimal → first_passes is_ascii_digit t ≡ true →
    first_passes is_ascii_digit (cut_with base t).main ≡ true
decimal_main t base e digit =
    subst (λ (b : IntegerBase). first_passes is_ascii_digit (cut_with b t).main ≡ true) (sym e)
    (first_taken (is_digit_or_underscore Decimal) is_ascii_digit t (λ c is. or_left (is_ascii_digit c) (eqb c 95) is) digit)

pub derivable : (t : List ℕ) → integer_refusal t ≡ None → IsIntegerOf t (integer_cut t)
unfolding integer_refusal
derivable t free =
    let rows = number_rows-None (is_empty t) (first_passes is_ascii_digit t) (integer_cut_refusal (integer_cut t)) free in
    let d = cut_with (base_of t) t in
    let cut_free : integer_cut_refusal d ≡ None = ap integer_cut_refusal (sym (integer_cut-is t)) ∙ rows.2 in
    let facts = integer_rows-None (byte_len (prefix d.base)) (byte_len (prefix d.base ++ d.main)) (byte_len (integer_text d))
    (is_suffix d.suffix) (first_passes is_ascii_digit d.suffix) (suffix_kind d.suffix)
    (first_passes is_e d.suffix) (list_any (is_digit d.base) d.main) cut_free in
    let after = drop (length (prefix (base_of t))) t in
    let p = is_digit_or_underscore (base_of t) in
    subst (λ (e : IntegerParts). IsIntegerOf t e) (sym (integer_cut-is t)) (record {
      spells = cut-spells t;
      grammar = record {
        digits = list_all-take_while p after;
        some_digit = facts.2;
        ends = ap (λ n. first_passes p (drop n after)) (length-prefix_len p after) ∙ first_passes-rest p after;
        suffix = facts.0;
        no_exponent = facts.1;
        decimal_digit = λ e. decimal_main t (base_of t) e rows.1;
        decimal_prefix = λ e. ap has_prefix (cut-spells t) ∙ (base_of-is t).1 e;
      };
    })

-- a refused text has no derivation
pub refused : (t : List ℕ) (e : Refusal) → integer_refusal t ≡ Some e → HasNoDerivation (IsIntegerOf t)
refused t e refusal d r = let free = integer_refusal-free t d r in cc

-- the cut of a text that is not refused is its only derivation
pub only_cut : (t : List ℕ) → integer_refusal t ≡ None → IsOnlyDerivation (IsIntegerOf t) (integer_cut t)
only_cut t free = (derivable t free, λ e r. only_integer t (integer_cut t) e (derivable t free) r)

-- if a text begins with a digit the cut alone decides
pub refusal_of_digit : (t : List ℕ) → first_passes is_ascii_digit t ≡ true → integer_refusal t ≡ integer_cut_refusal (integer_cut t)
unfolding integer_refusal
refusal_of_digit t digit = rw (not_empty_by_first is_ascii_digit t digit, digit) refl
