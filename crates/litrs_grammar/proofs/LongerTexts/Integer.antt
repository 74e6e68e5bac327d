-- Refused integers under every appended text: which stay refused, and which some text completes.
use Rattle.std.proofs.Common.{◌≡◌, ℕ, Bool, true, false, not, List, [], ◌∷◌, ◌++◌, length, drop, Some, None, refl, sym, ap, ◌∙◌, subst, arith, inl, inr, append_assoc}
use Rattle.std.specs.Prelude.{◌==◌, ◌↔◌, if◌then◌else◌}
use Rattle.std.specs.List.{list_all, list_any, take_while}
use Rattle.std.specs.Char.{is_ascii_digit}
use Rattle.std.proofs.lemmas.Bool.{and_from, both_ways, or_left, or_right}
use Rattle.std.proofs.lemmas.Bool.Decides.{nat_tests}
use Rattle.std.proofs.lemmas.List.{append-nil, drop_at}
use Rattle.std.proofs.lemmas.List.Folds.{list_any-append, length-prefix_len}
use Rattle.litrs_base.specs.Refusal.{Refusal}
use Rattle.litrs_base.specs.declared.err.ParseErrorKind.TheVariants.{Empty, NoDigits}
use Rattle.litrs_base.specs.declared.integer.IntegerBase.{IntegerBase}
use Rattle.litrs_base.specs.declared.integer.IntegerBase.TheVariants.{Binary, Octal, Decimal, Hexadecimal}
use Rattle.litrs_base.specs.Refusal.{spanning, without_span}
use Rattle.litrs_base.specs.Finality.{is_final}
use Rattle.litrs_grammar.specs.Suffix.{is_suffix, suffix_kind}
use Rattle.litrs_base.specs.Text.{byte_len, first_passes, is_empty}
use Rattle.litrs_base.specs.Base.{prefix, is_digit, is_digit_or_underscore}
use Rattle.litrs_grammar.specs.Integer.{IntegerParts, integer_text, is_e, base_of, integer_cut, integer_cut_refusal, integer_refusal, IsIntegerOf}
use Rattle.litrs_base.proofs.Runs.{list_all-append, list_all-weaken, list_all-take_while}
use Rattle.litrs_grammar.proofs.LineFeeds.{is_other, suffix_other, no_line_feed}
use Rattle.litrs_grammar.proofs.Laws.Integer.{take_while_front, first_passes-rest, integer_rows-None, cut_with, integer_cut-is, cut-spells, derivable, integer_refusal-free, refusal_of_digit, starts_with_digit}
use Rattle.litrs_grammar.specs.LongerTexts.{BeginsBy, EndsBy}
use Rattle.litrs_grammar.specs.GoesOn.Integer.{IntegerGoesOn}
use Rattle.litrs_grammar.proofs.LongerTexts.Escape.{never}
use Rattle.litrs_grammar.proofs.LongerTexts.Suffix.{is_suffix-nil, suffix_freed}

-- the cut of parts
pub cut_parts : (base : IntegerBase) (m x : List ℕ) → list_all (is_digit_or_underscore base) m ≡ true → first_passes (is_digit_or_underscore base) x ≡ false →
    cut_with base (prefix base ++ (m ++ x)) ≡ record { base = base; main = m; suffix = x }
cut_parts base m x all stops =
    let p = is_digit_or_underscore base in
    let after : drop (length (prefix base)) (prefix base ++ (m ++ x)) ≡ m ++ x = drop_at (prefix base) (m ++ x) (length (prefix base)) refl in
    let main : take_while p (m ++ x) ≡ m = take_while_front p m x all stops in
    ap (λ u. record { base = base; main = take_while p u; suffix = drop (length (take_while p u)) u }) after
    ∙ (ap (λ n. record { base = base; main = n; suffix = drop (length n) (m ++ x) }) main
    ∙ ap (λ y. record { base = base; main = m; suffix = y }) (drop_at m x (length m) refl))

-- none of its characters follows the main part
cut_ends : (base : IntegerBase) (t : List ℕ) → first_passes (is_digit_or_underscore base) (cut_with base t).suffix ≡ false
cut_ends base t =
    let after = drop (length (prefix base)) t in
    let p = is_digit_or_underscore base in
    ap (λ n. first_passes p (drop n after)) (length-prefix_len p after) ∙ first_passes-rest p after

cut_digits : (base : IntegerBase) (t : List ℕ) → list_all (is_digit_or_underscore base) (cut_with base t).main ≡ true
cut_digits base t = list_all-take_while (is_digit_or_underscore base) (drop (length (prefix base)) t)

-- the cut of a longer text, if something follows the main part
cut_more : (c d : ℕ) (r x : List ℕ) (k : ℕ) (s : List ℕ) → (cut_with (base_of (c ∷ d ∷ r)) (c ∷ d ∷ r)).suffix ≡ k ∷ s →
    integer_cut (c ∷ d ∷ (r ++ x)) ≡ record { base = base_of (c ∷ d ∷ r); main = (cut_with (base_of (c ∷ d ∷ r)) (c ∷ d ∷ r)).main; suffix = k ∷ (s ++ x) }
cut_more c d r x k s is =
    let base = base_of (c ∷ d ∷ r) in
    let cut = cut_with base (c ∷ d ∷ r) in
    let spelled : c ∷ d ∷ (r ++ x) ≡ prefix base ++ (cut.main ++ (k ∷ (s ++ x))) =
    ap (λ l. l ++ x) (sym (cut-spells (c ∷ d ∷ r)) ∙ ap (λ l. prefix base ++ (cut.main ++ l)) is)
    ∙ append_assoc (prefix base) (cut.main ++ k ∷ s) x ∙ ap (λ l. prefix base ++ l) (append_assoc cut.main (k ∷ s) x) in
    let stops : first_passes (is_digit_or_underscore base) (k ∷ s) ≡ false = ap (first_passes (is_digit_or_underscore base)) (sym is) ∙ cut_ends base (c ∷ d ∷ r) in
    integer_cut-is (c ∷ d ∷ (r ++ x)) ∙ ap (cut_with base) spelled ∙ cut_parts base cut.main (k ∷ (s ++ x)) (cut_digits base (c ∷ d ∷ r)) stops

-- ... if nothing follows it, and one more digit is appended
cut_one : (c d : ℕ) (r : List ℕ) → (cut_with (base_of (c ∷ d ∷ r)) (c ∷ d ∷ r)).suffix ≡ [] →
    integer_cut (c ∷ d ∷ (r ++ 49 ∷ [])) ≡ record { base = base_of (c ∷ d ∷ r); main = (cut_with (base_of (c ∷ d ∷ r)) (c ∷ d ∷ r)).main ++ 49 ∷ []; suffix = [] }
cut_one c d r is =
    let base = base_of (c ∷ d ∷ r) in
    let cut = cut_with base (c ∷ d ∷ r) in
    let spelled : c ∷ d ∷ (r ++ 49 ∷ []) ≡ prefix base ++ ((cut.main ++ 49 ∷ []) ++ []) =
    ap (λ l. l ++ 49 ∷ []) (sym (cut-spells (c ∷ d ∷ r)) ∙ ap (λ l. prefix base ++ (cut.main ++ l)) is ∙ ap (λ l. prefix base ++ l) (append-nil cut.main))
    ∙ append_assoc (prefix base) cut.main (49 ∷ []) ∙ ap (λ l. prefix base ++ l) (sym (append-nil (cut.main ++ 49 ∷ []))) in
    integer_cut-is (c ∷ d ∷ (r ++ 49 ∷ [])) ∙ ap (cut_with base) spelled
    ∙ cut_parts base (cut.main ++ 49 ∷ []) [] (list_all-append (is_digit_or_underscore base) cut.main (49 ∷ []) (cut_digits base (c ∷ d ∷ r)) (one_is base)) refl
  where
    one_is : (base : IntegerBase) → list_all (is_digit_or_underscore base) (49 ∷ []) ≡ true
    one_is Binary = refl
    one_is Octal = refl
    one_is Decimal = refl
    one_is Hexadecimal = refl

-- the rows by their tests
rows_of : (d : IntegerParts) → integer_cut_refusal d ≡ None → (is_suffix d.suffix ≡ true) × (first_passes is_e d.suffix ≡ false) × (list_any (is_digit d.base) d.main ≡ true)
rows_of d h =
    integer_rows-None (byte_len (prefix d.base)) (byte_len (prefix d.base ++ d.main)) (byte_len (integer_text d))
    (is_suffix d.suffix) (first_passes is_ascii_digit d.suffix) (suffix_kind d.suffix) (first_passes is_e d.suffix) (list_any (is_digit d.base) d.main) h

pub under_stays : (base : IntegerBase) → is_digit_or_underscore base 95 ≡ true
under_stays Binary = refl
under_stays Octal = refl
under_stays Decimal = refl
under_stays Hexadecimal = refl

-- parts with a suffix that are refused are refused whatever is appended
parts_stay : (base : IntegerBase) (m : List ℕ) (k : ℕ) (s x : List ℕ) (e : Refusal) → first_passes (is_digit_or_underscore base) (k ∷ s) ≡ false →
    integer_cut_refusal (record { base = base; main = m; suffix = k ∷ s }) ≡ Some e → integer_cut_refusal (record { base = base; main = m; suffix = k ∷ (s ++ x) }) ≡ None → ⊥
parts_stay base m k s x e stops h none = go (is_suffix (k ∷ s)) refl
  where
    rows : (is_suffix (k ∷ (s ++ x)) ≡ true) × (is_e k ≡ false) × (list_any (is_digit base) m ≡ true)
    rows = rows_of (record { base = base; main = m; suffix = k ∷ (s ++ x) }) none

    go : (b : Bool) → is_suffix (k ∷ s) ≡ b → ⊥
    go true e' = let free : integer_cut_refusal (record { base = base; main = m; suffix = k ∷ s }) ≡ None = rw (e', rows.1, rows.2) refl in cc
    go false e' =
        let lone : k ∷ s ≡ 95 ∷ [] = suffix_freed (k ∷ s) x e' rows.0 in
        both_ways _ stops (ap (first_passes (is_digit_or_underscore base)) lone ∙ under_stays base)

-- one digit is an integer
one_digit : (c : ℕ) → is_ascii_digit c ≡ true → integer_refusal (c ∷ []) ≡ None
one_digit c h =
    let cut : cut_with Decimal (c ∷ []) ≡ record { base = Decimal; main = c ∷ []; suffix = [] } =
    cut_parts Decimal (c ∷ []) [] (and_from _ _ (or_left _ _ h) refl) refl in
    refusal_of_digit (c ∷ []) h ∙ ap integer_cut_refusal (integer_cut-is (c ∷ []) ∙ decimal ∙ cut) ∙ rw (is_suffix-nil, h) refl
  where
    base_single : (b : Bool) → (48 == c) ≡ b → base_of (c ∷ []) ≡ Decimal
    base_single true e = rw e refl
    base_single false e = rw e refl

    decimal : cut_with (base_of (c ∷ [])) (c ∷ []) ≡ cut_with Decimal (c ∷ [])
    decimal = ap (λ b. cut_with b (c ∷ [])) (base_single (48 == c) refl)

begins_suffix : (c d : ℕ) (r : List ℕ) (e : Refusal) → is_ascii_digit c ≡ true → integer_refusal (c ∷ d ∷ r) ≡ Some e → (x : List ℕ) (lit : IntegerParts) → IsIntegerOf ((c ∷ d ∷ r) ++ x) lit →
    (cut_with (base_of (c ∷ d ∷ r)) (c ∷ d ∷ r)).suffix ≡ []
begins_suffix c d r e digit h x lit reads = go (cut_with (base_of (c ∷ d ∷ r)) (c ∷ d ∷ r)).suffix refl
  where
    go : (sfx : List ℕ) → (cut_with (base_of (c ∷ d ∷ r)) (c ∷ d ∷ r)).suffix ≡ sfx → sfx ≡ []
    go [] is = refl
    go (k ∷ s) is =
        let base = base_of (c ∷ d ∷ r) in
        let m = (cut_with base (c ∷ d ∷ r)).main in
        let here : integer_cut_refusal (record { base = base; main = m; suffix = k ∷ s }) ≡ Some e =
        ap (λ y. integer_cut_refusal (record { base = base; main = m; suffix = y })) (sym is) ∙ ap integer_cut_refusal (sym (integer_cut-is (c ∷ d ∷ r))) ∙ sym (refusal_of_digit (c ∷ d ∷ r) digit) ∙ h in
        let free : integer_cut_refusal (record { base = base; main = m; suffix = k ∷ (s ++ x) }) ≡ None =
        ap integer_cut_refusal (sym (cut_more c d r x k s is)) ∙ sym (refusal_of_digit (c ∷ d ∷ (r ++ x)) digit) ∙ integer_refusal-free (c ∷ d ∷ (r ++ x)) lit reads in
        absurd (parts_stay base m k s x e (ap (first_passes (is_digit_or_underscore base)) (sym is) ∙ cut_ends base (c ∷ d ∷ r)) here free)

suffix_begins : (c d : ℕ) (r : List ℕ) → is_ascii_digit c ≡ true → (cut_with (base_of (c ∷ d ∷ r)) (c ∷ d ∷ r)).suffix ≡ [] → BeginsBy IsIntegerOf (c ∷ d ∷ r)
suffix_begins c d r digit is =
    let base = base_of (c ∷ d ∷ r) in
    let m = (cut_with base (c ∷ d ∷ r)).main in
    let some : list_any (is_digit base) (m ++ 49 ∷ []) ≡ true = list_any-append (is_digit base) m (49 ∷ []) ∙ or_right _ _ (one_digit_is base) in
    let free : integer_refusal (c ∷ d ∷ (r ++ 49 ∷ [])) ≡ None =
    refusal_of_digit (c ∷ d ∷ (r ++ 49 ∷ [])) digit ∙ ap integer_cut_refusal (cut_one c d r is) ∙ rw (is_suffix-nil, some) refl in
    (49 ∷ [], integer_cut (c ∷ d ∷ (r ++ 49 ∷ [])), refl, derivable (c ∷ d ∷ (r ++ 49 ∷ [])) free)
  where
    one_digit_is : (base : IntegerBase) → list_any (is_digit base) (49 ∷ []) ≡ true
    one_digit_is Binary = refl
    one_digit_is Octal = refl
    one_digit_is Decimal = refl
    one_digit_is Hexadecimal = refl

-- if some list after a refused text gives an integer, nothing follows the main part
freed_suffix : (t : List ℕ) (e : Refusal) → first_passes is_ascii_digit t ≡ true → integer_refusal t ≡ Some e → (x : List ℕ) (d : IntegerParts) → IsIntegerOf (t ++ x) d →
    (integer_cut t).suffix ≡ []
freed_suffix [] e digit h x d reads = cc
freed_suffix (c ∷ []) e digit h x d reads = let free = one_digit c digit in absurd (cc)
freed_suffix (c ∷ d ∷ r) e digit h x lit reads = ap (λ p. p.suffix) (integer_cut-is (c ∷ d ∷ r)) ∙ begins_suffix c d r e digit h x lit reads

from_suffix : (t : List ℕ) (e : Refusal) → first_passes is_ascii_digit t ≡ true → integer_refusal t ≡ Some e → (integer_cut t).suffix ≡ [] → BeginsBy IsIntegerOf t
from_suffix [] e digit h is = cc
from_suffix (c ∷ []) e digit h is = let free = one_digit c digit in absurd (cc)
from_suffix (c ∷ d ∷ r) e digit h is = suffix_begins c d r digit (ap (λ p. p.suffix) (sym (integer_cut-is (c ∷ d ∷ r))) ∙ is)

no_digits_kind : (d : IntegerParts) (e : Refusal) → d.suffix ≡ [] → is_final e.kind ≡ true → integer_cut_refusal d ≡ Some e → ⊥
no_digits_kind d e is f h = go (list_any (is_digit d.base) d.main) (rw (is, is_suffix-nil) at h)
  where
    go : (b : Bool) → (if not b then Some (spanning (byte_len (prefix d.base)) (byte_len (prefix d.base ++ d.main)) NoDigits) else None) ≡ Some e → ⊥
    go true g = cc
    go false g = never (spanning (byte_len (prefix d.base)) (byte_len (prefix d.base ++ d.main)) NoDigits) e refl f g

no_integer : (t : List ℕ) (x : List ℕ) (d : IntegerParts) → first_passes is_ascii_digit t ≡ false → is_empty t ≡ false → IsIntegerOf (t ++ x) d → ⊥
no_integer [] x d h n reads = cc
no_integer (c ∷ t) x d h n reads = both_ways _ h (starts_with_digit (c ∷ (t ++ x)) d reads)

-- after a final refusal no extension of the text is an integer
pub integer_finality : (t : List ℕ) (e : Refusal) → integer_refusal t ≡ Some e → is_final e.kind ≡ true → EndsBy IsIntegerOf t
unfolding integer_refusal
integer_finality t e h f x d reads = go (is_empty t) (first_passes is_ascii_digit t) refl refl
  where
    go : (n b : Bool) → is_empty t ≡ n → first_passes is_ascii_digit t ≡ b → ⊥
    go true b is_n is_b = never (without_span Empty) e refl f (rw is_n at h)
    go false false is_n is_b = no_integer t x d is_b is_n reads
    go false true is_n is_b =
        no_digits_kind (integer_cut t) e (freed_suffix t e is_b h x d reads) f (sym (refusal_of_digit t is_b) ∙ h)

-- a refused text begins an integer if and only if it is empty or nothing follows its main part
pub integer_goes_on : (t : List ℕ) (e : Refusal) → integer_refusal t ≡ Some e → BeginsBy IsIntegerOf t ↔ IntegerGoesOn t
integer_goes_on t e h = (λ begins. goes (is_empty t) (first_passes is_ascii_digit t) refl refl begins, begin t h)
  where
    empty : (t : List ℕ) → is_empty t ≡ true → t ≡ []
    empty [] is = refl
    empty (c ∷ t) is = cc

    goes : (n b : Bool) → is_empty t ≡ n → first_passes is_ascii_digit t ≡ b → BeginsBy IsIntegerOf t → IntegerGoesOn t
    goes true b is_n is_b begins = inl (empty t is_n)
    goes false false is_n is_b (x, d, text, reads) = absurd (no_integer t x d is_b is_n reads)
    goes false true is_n is_b (x, d, text, reads) = inr (is_b, freed_suffix t e is_b h x d reads)

    begin : (t : List ℕ) → integer_refusal t ≡ Some e → IntegerGoesOn t → BeginsBy IsIntegerOf t
    begin t h (inl none) = subst (λ l. BeginsBy IsIntegerOf l) (sym none) (49 ∷ [], integer_cut (49 ∷ []), refl, derivable (49 ∷ []) (one_digit 49 refl))
    begin t h (inr (digit, is)) = from_suffix t e digit h is

-- Texts that end with LF

digit_other : (base : IntegerBase) (c : ℕ) → is_digit_or_underscore base c ≡ true → is_other c ≡ true
digit_other Binary c h = grind (arith, nat_tests)
digit_other Octal c h = grind (arith, nat_tests)
digit_other Decimal c h = grind (arith, nat_tests)
digit_other Hexadecimal c h = grind (arith, nat_tests)

prefix_other : (base : IntegerBase) → list_all is_other (prefix base) ≡ true
prefix_other Binary = refl
prefix_other Octal = refl
prefix_other Decimal = refl
prefix_other Hexadecimal = refl

-- an integer does not contain LF, so no text that begins one ends with LF
pub integer_line_end : (t : List ℕ) → EndsBy IsIntegerOf (t ++ 10 ∷ [])
integer_line_end t x d reads =
    no_line_feed t x (subst (λ l. list_all is_other l ≡ true) reads.spells
    (list_all-append is_other (prefix d.base) (d.main ++ d.suffix) (prefix_other d.base)
    (list_all-append is_other d.main d.suffix (list_all-weaken _ _ (digit_other d.base) d.main reads.grammar.digits) (suffix_other d.suffix reads.grammar.suffix))))
