-- Words that begin a literal.
use Rattle.std.proofs.Common.{◌≡◌, inl, inr, ◌<◌, ◌≤◌, ℕ, Bool, true, false, ltb, ◌&&◌, List, [], ◌∷◌, ◌++◌, length, refl, sym, ap, ◌∙◌, arith, ◌⊎◌, subst}
use Rattle.std.specs.Prelude.{◌↔◌, ◌==◌, ◌||◌, codes, IsTrue, if◌then◌else◌}
use Rattle.std.specs.List.{list_all}
use Rattle.std.specs.Str.{chars, IsUtf8}
use Rattle.std.proofs.Math.Bool.{or-false}
use Rattle.std.proofs.lemmas.List.{drop_all, append-nil}
use Rattle.std.proofs.lemmas.Bool.{false_from_ne_true, and_parts, and_left, cases_lt, both_ways, eqb-true, ltb-true, ne_eqb}
use Rattle.std.proofs.lemmas.Str.{chars-nil}
use Rattle.litrs_base.specs.declared.err.ParseErrorKind.TheVariants.{Empty, InvalidLiteral}
use Rattle.litrs_base.specs.Refusal.{Refusal, without_span}
use Rattle.litrs_base.specs.Text.{is_empty, first_passes, begins_with}
use Rattle.litrs_base.proofs.Chars.{chars_ascii, chars_wide, utf8_after_ascii}
use Rattle.litrs_grammar.specs.Literal.{a_bool, literal_parse, bool_literal, c_string_literal, IsLiteralOf, Begins}
use Rattle.litrs_grammar.specs.LiteralRefusals.{refused_as, parsed_as, dispatch}
use Rattle.litrs_grammar.specs.Bool.{bool_text}
use Rattle.litrs_base.proofs.Begins.{begins_with-split}
use Rattle.litrs_grammar.specs.GoesOn.Undispatched.{undispatched_goes_on}
use Rattle.litrs_base.specs.declared.quotes.StringKind.TheVariants.{CString as c_string_kind}
use Rattle.litrs_grammar.proofs.Laws.Bool.{chars-bool_text}
use Rattle.litrs_grammar.proofs.LongerTexts.Dispatch.{undispatched_begins}
use Rattle.litrs_grammar.proofs.LongerTexts.Literal.{back}
use Rattle.litrs_lex.proofs.Dispatch.{dispatch-chars}
use Rattle.litrs_lex.specs.declared.kind.Front.{Front}
use Rattle.litrs_lex.specs.declared.kind.Front.TheVariants as front
use Rattle.litrs_lex.specs.Front.{IsFront}
use Rattle.litrs_lex.proofs.Fronts.{some_text}
use Rattle.litrs.proofs.Begins.{yes, answer_is, begins_now}
use Rattle.litrs.proofs.StringEnds.{string_parsed, lone_string}

-- an ASCII word begins with the bytes if and only if it begins with the characters
fronts-chars : (word bs : List ℕ) → list_all (λ c. ltb c 128) word ≡ true → IsUtf8 bs →
    begins_with (chars bs) word ≡ begins_with bs word
fronts-chars word [] low u = ap (λ t. begins_with t word) chars-nil
fronts-chars [] (b ∷ bs) low u = elim (cases_lt b 128) [
  | inl low_b ↦ ap (λ t. begins_with t []) (chars_ascii b bs low_b)
  | inr high ↦ ap (λ t. begins_with t []) (chars_wide b bs high u).is
]
fronts-chars (c ∷ word) (b ∷ bs) low u =
    let parts = and_parts (ltb c 128) (list_all (λ d. ltb d 128) word) low in
    let small : c < 128 = ltb-true c 128 parts.0 in
    elim (cases_lt b 128) [
      | inl low_b ↦ ap (λ t. begins_with t (c ∷ word)) (chars_ascii b bs low_b)
          ∙ ap (λ v. (b == c) && v) (fronts-chars word bs parts.1 (utf8_after_ascii b bs low_b u))
      | inr high ↦ (let wide = chars_wide b bs high u in
          let above = wide.wide in
          ap (λ t. begins_with t (c ∷ word)) wide.is
          ∙ and_left (wide.first == c) _ (ne_eqb wide.first c (λ same. omega arith))
          ∙ sym (and_left (b == c) _ (ne_eqb b c (λ same. omega arith))))
    ]

undispatched-chars : (bs : List ℕ) → IsUtf8 bs → undispatched_goes_on (chars bs) ≡ undispatched_goes_on bs
undispatched-chars bs u = rw (
  fronts-chars (codes "true") bs refl u,
  fronts-chars (codes "false")
      bs refl u,
  fronts-chars (codes "b") bs refl u,
) refl

pub word_decided : (bs seen : List ℕ) (e : Refusal) (b : Bool) → IsUtf8 bs →
    refused_as e ≡ dispatch bs → seen ≡ bs → b ≡ undispatched_goes_on seen →
    IsTrue b ↔ Begins literal_parse (chars bs)
word_decided bs seen e b u row same is =
    answer_is b (undispatched_goes_on (chars bs))
    (is ∙ ap undispatched_goes_on same ∙ sym (undispatched-chars bs u))
    (back (undispatched_begins (chars bs) e (dispatch-chars bs u ∙ sym row)))

-- a word that does not begin with one of the letters does not begin any of the words
other_letter : (a b d e x y z w : Bool) → a || (b || (d || e)) ≡ false →
    (((a && x) || (b && y)) || (d && z)) || (e && w) ≡ false
other_letter false false false false x y z w none = refl
other_letter true b d e x y z w none = cc
other_letter false true d e x y z w none = cc
other_letter false false true e x y z w none = cc
other_letter false false false true x y z w none = cc

pub other_word : (word : List ℕ) → is_empty word
    || first_passes (λ c. (c == 116) || ((c == 102) || ((c == 98) || (c == 99)))) word ≡ false →
    undispatched_goes_on word || begins_with word (codes "c") ≡ false
other_word [] none = cc
other_word (c ∷ cs) none = other_letter (c == 116) (c == 102) (c == 98) (c == 99) _ _ _ _ none

-- nor does a longer one, or another one of five letters than `false`
no_front : (front word : List ℕ) → length front ≤ length word → (word ≡ front → ⊥) →
    begins_with word front ≡ false
no_front front word long other = false_from_ne_true (begins_with word front) (λ begins. other
    (sym (append-nil word) ∙ ap (λ l. word ++ l) (sym (drop_all (length word) front long))
    ∙ begins_with-split word front begins))

shorter : (front word : List ℕ) → length front < 5 → 5 ≤ length word →
    begins_with word front ≡ false
shorter front word short long = no_front front word (omega arith) (λ e. omega (arith, ap length e))

pub long_word : (word : List ℕ) → 5 ≤ length word → (word ≡ bool_text false → ⊥) →
    undispatched_goes_on word || begins_with word (codes "c") ≡ false
long_word word long other = rw (
  shorter (codes "true") word (omega arith) long,
  no_front (bool_text false) word long other,
  shorter (codes "b") word (omega arith) long,
  shorter (codes "c") word (omega arith) long,
) refl

-- a text that does not begin as a literal is not `false`
false_row : dispatch (bool_text false) ≡ parsed_as bool_literal
unfolding dispatch
false_row = refl

pub other_is_no_bool : (word bs : List ℕ) → IsFront front.Other bs → word ≡ bs →
    word ≡ bool_text false → ⊥
other_is_no_bool word bs is same e = no_row (subst (λ l. IsFront front.Other l) (sym same ∙ e) is)
  where
    no_row : IsFront front.Other (bool_text false) → ⊥
    no_row other = absurd (let f : refused_as (without_span InvalidLiteral) ≡ parsed_as bool_literal =
        other.row ∙ false_row in cc)

-- Fronts that do not belong to a kind

-- the empty text begins a literal
empty_decided : (bs : List ℕ) → IsUtf8 bs → IsFront front.Empty bs →
    IsTrue true ↔ Begins literal_parse (chars bs)
empty_decided bs u is = at bs u is.row is.begins
  where
    at : (bs : List ℕ) → IsUtf8 bs → refused_as (without_span Empty) ≡ dispatch bs → is_empty bs ≡ true →
        IsTrue true ↔ Begins literal_parse (chars bs)
    at [] u row none = word_decided [] [] (without_span Empty) true u row refl refl
    at (b ∷ bs) u row none = cc

-- a bool is a literal
bool_decided : (value : Bool) (bs : List ℕ) → IsFront (front.Bool value) bs →
    IsTrue true ↔ Begins literal_parse (chars bs)
bool_decided value bs is =
    yes (begins_now (IsLiteralOf literal_parse) (chars bs) (a_bool value)
    (sym (ap chars is.begins ∙ chars-bool_text value)))

pub whole_decided : (f : Front) (bs : List ℕ) → IsUtf8 bs → IsFront f bs →
    (f ≡ front.Empty) ⊎ ((value : Bool) × (f ≡ front.Bool value)) →
    IsTrue true ↔ Begins literal_parse (chars bs)
whole_decided f bs u is (inl empty) =
    empty_decided bs u (subst (λ (g : Front). IsFront g bs) empty is)
whole_decided f bs u is (inr bool) =
    bool_decided bool.0 bs (subst (λ (g : Front). IsFront g bs) bool.1 is)

-- a text that begins with another letter than `c`
other_first : (bs : List ℕ) → is_empty bs ≡ false → begins_with (codes "c") bs ≡ false →
    begins_with bs (codes "c") ≡ false
other_first [] some other = cc
other_first (b ∷ bs) some other =
    and_left (b == 99) _ (ne_eqb b 99 (λ same. both_ways _ other
    (ap (λ k. begins_with (codes "c") (k ∷ bs)) same)))

-- a text that begins with `c` does not begin another word
c_word : (bs : List ℕ) → begins_with (codes "c") bs ≡ true → undispatched_goes_on bs ≡ false
c_word [] begins = cc
c_word (b ∷ bs) begins =
    ap (λ k. undispatched_goes_on (k ∷ bs)) (sym (eqb-true 99 b (and_parts (99 == b) true begins).0))

pub other_decided : (bs seen : List ℕ) (b : Bool) → IsUtf8 bs → IsFront front.Other bs →
    seen ≡ bs → b ≡ undispatched_goes_on seen || begins_with seen (codes "c") →
    IsTrue b ↔ Begins literal_parse (chars bs)
other_decided bs seen b u is same answer = at (begins_with (codes "c") bs) refl
  where
    now : b ≡ undispatched_goes_on bs || begins_with bs (codes "c")
    now = answer ∙ ap (λ l. undispatched_goes_on l || begins_with l (codes "c")) same

    row : (v : Bool) → begins_with (codes "c") bs ≡ v →
        (if v then parsed_as c_string_literal else refused_as (without_span InvalidLiteral)) ≡ dispatch bs
    row v test = ap (λ w. if w then parsed_as c_string_literal else refused_as (without_span InvalidLiteral))
        (sym test) ∙ is.row

    at : (v : Bool) → begins_with (codes "c") bs ≡ v → IsTrue b ↔ Begins literal_parse (chars bs)
    at true test = string_parsed c_string_kind bs b u (row true test)
        (lone_string bs b u test is.begins.0 is.begins.1
        (now ∙ ap (λ v. v || begins_with bs (codes "c")) (c_word bs test)))
    at false test = word_decided bs bs (without_span InvalidLiteral) b u (row false test) refl
        (now ∙ ap (λ v. undispatched_goes_on bs || v)
        (other_first bs (some_text front.Other bs is (λ e. cc)) test) ∙ or-false (undispatched_goes_on bs))
