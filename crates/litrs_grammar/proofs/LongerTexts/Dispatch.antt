-- The dispatch of longer texts.
use Rattle.std.proofs.Common.{◌≡◌, ℕ, Bool, true, false, ◌||◌, List, [], ◌∷◌, ◌++◌, length, drop, Some, None, refl, sym, ap, ◌∙◌, subst, arith, inl, inr, append_assoc}
use Rattle.std.specs.Prelude.{◌==◌, if◌then◌else◌, codes}
use Rattle.std.specs.List.{list_all, list_any}
use Rattle.std.specs.Char.{is_ascii_digit}
use Rattle.std.proofs.lemmas.Bool.{and_parts, false≢true, eqb-true, or_left, or_cases}
use Rattle.std.proofs.lemmas.Bool.Decides.{nat_tests}
use Rattle.std.proofs.lemmas.List.{append-nil, drop_at}
use Rattle.litrs_base.proofs.ListTests.{if_true, if_false}
use Rattle.litrs_base.specs.Refusal.{Refusal}
use Rattle.litrs_base.specs.declared.err.ParseErrorKind.TheVariants.{InvalidLiteral}
use Rattle.litrs_base.specs.declared.integer.IntegerBase.TheVariants.{Decimal}
use Rattle.litrs_base.specs.Refusal.{without_span}
use Rattle.litrs_base.specs.Text.{first_passes, begins_with}
use Rattle.litrs_base.specs.Base.{is_digit_or_underscore}
use Rattle.litrs_grammar.specs.Bool.{is_bool}
use Rattle.litrs_grammar.specs.Integer.{integer_refusal, base_of, integer_cut_refusal}
use Rattle.litrs_grammar.specs.Literal.{LiteralKind, bool_literal, integer_literal, float_literal, char_literal, byte_literal, string_literal, byte_string_literal, c_string_literal}
use Rattle.litrs_grammar.specs.LiteralRefusals.{Dispatch, refused_as, parsed_as, dispatch, is_float_mark, begins_with_float, IsKindRefusal}
use Rattle.litrs_base.proofs.Runs.{IsRun, run_of, prefix_len_all}
use Rattle.litrs_grammar.proofs.Laws.Integer.{prefix_len_front, refusal_of_digit, integer_cut-is, cut_with}
use Rattle.litrs_grammar.proofs.LongerTexts.Integer.{cut_parts}
use Rattle.litrs_grammar.proofs.Laws.Literal.{is_bool-digit, some_bool, dispatch_literal}
use Rattle.std.specs.Prelude.{◌↔◌}
use Rattle.litrs_grammar.specs.CharByte.{plain_char}
use Rattle.litrs_grammar.specs.Literal.{a_bool, a_byte, Derivation, IsLiteral, literal_kind, literal_parse, kind_parse, Begins}
use Rattle.litrs_grammar.specs.GoesOn.Bool.{bool_goes_on}
use Rattle.litrs_grammar.specs.GoesOn.Undispatched.{undispatched_goes_on}
use Rattle.litrs_grammar.proofs.LongerTexts.Suffix.{is_suffix-nil}
use Rattle.litrs_grammar.proofs.LongerTexts.Bool.{bool_front, bool_begins}
use Rattle.litrs_grammar.proofs.LineFeeds.{is_other, no_line_feed}
use Rattle.litrs_base.proofs.Begins.{begins_with-split}

-- the rows of what begins with no digit
abbrev other : List ℕ → Dispatch
other t =
    if begins_with (codes "'") t then parsed_as char_literal
    else if begins_with (codes "\"") t || begins_with (codes "r") t then parsed_as string_literal
    else if begins_with (codes "b'") t then parsed_as byte_literal
    else if begins_with (codes "b\"") t || begins_with (codes "br") t then parsed_as byte_string_literal
    else if begins_with (codes "c") t then parsed_as c_string_literal
    else refused_as (without_span InvalidLiteral)

abbrev number : List ℕ → Dispatch
number t = if begins_with_float t then parsed_as float_literal else parsed_as integer_literal

single : (c : ℕ) (x : List ℕ) (k : LiteralKind) (p q r b s : Bool) → (39 == c) ≡ p → (34 == c) ≡ q → (114 == c) ≡ r → (98 == c) ≡ b → (99 == c) ≡ s →
    other (c ∷ []) ≡ parsed_as k → other (c ∷ x) ≡ parsed_as k
single c x k true q r b s e1 e2 e3 e4 e5 h = rw e1 (rw e1 at h)
single c x k false true r b s e1 e2 e3 e4 e5 h = rw (e1, e2) (rw (e1, e2) at h)
single c x k false false true b s e1 e2 e3 e4 e5 h = rw (e1, e2, e3) (rw (e1, e2, e3) at h)
single c x k false false false true s e1 e2 e3 e4 e5 h = absurd (let at : 98 ≡ c = eqb-true 98 c e4 in let g : other (98 ∷ []) ≡ parsed_as k = subst (λ n. other (n ∷ []) ≡ parsed_as k) (sym at) h in cc)
single c x k false false false false true e1 e2 e3 e4 e5 h = rw (e1, e2, e3, e4, e5) (rw (e1, e2, e3, e4, e5) at h)
single c x k false false false false false e1 e2 e3 e4 e5 h = absurd (let g : refused_as (without_span InvalidLiteral) ≡ parsed_as k = rw (e1, e2, e3, e4, e5) at h in cc)

other_stays : (c : ℕ) (r x : List ℕ) (k : LiteralKind) → other (c ∷ r) ≡ parsed_as k → other (c ∷ (r ++ x)) ≡ parsed_as k
other_stays c [] x k h = single c x k (39 == c) (34 == c) (114 == c) (98 == c) (99 == c) refl refl refl refl refl h
other_stays c (d ∷ r) x k h = h

no_bool : (c : ℕ) (r x : List ℕ) (k : LiteralKind) → other (c ∷ r) ≡ parsed_as k → is_bool (c ∷ (r ++ x)) ≡ false
no_bool c r x k h = go (116 == c) (102 == c) refl refl
  where
    go : (a b : Bool) → (116 == c) ≡ a → (102 == c) ≡ b → is_bool (c ∷ (r ++ x)) ≡ false
    go true b e f = absurd (let at : 116 ≡ c = eqb-true 116 c e in let g : other (116 ∷ r) ≡ parsed_as k = subst (λ n. other (n ∷ r) ≡ parsed_as k) (sym at) h in cc)
    go false true e f = absurd (let at : 102 ≡ c = eqb-true 102 c f in let g : other (102 ∷ r) ≡ parsed_as k = subst (λ n. other (n ∷ r) ≡ parsed_as k) (sym at) h in cc)
    go false false e f = rw (e, f) refl

-- a character follows the leading run
float_more : (run : List ℕ) (m : ℕ) (s x : List ℕ) → list_all (is_digit_or_underscore Decimal) run ≡ true → is_digit_or_underscore Decimal m ≡ false →
    begins_with_float ((run ++ m ∷ s) ++ x) ≡ is_float_mark m
float_more run m s x all stops =
    ap begins_with_float (append_assoc run (m ∷ s) x) ∙ float_here run m (s ++ x) all stops
  where
    float_here : (run : List ℕ) (m : ℕ) (s : List ℕ) → list_all (is_digit_or_underscore Decimal) run ≡ true → is_digit_or_underscore Decimal m ≡ false → begins_with_float (run ++ m ∷ s) ≡ is_float_mark m
    float_here run m s all stops =
        ap (λ n. first_passes is_float_mark (drop n (run ++ m ∷ s))) (prefix_len_front (is_digit_or_underscore Decimal) run (m ∷ s) all stops)
        ∙ ap (first_passes is_float_mark) (drop_at run (m ∷ s) (length run) refl)

-- digits and underscores alone are an integer
no_letter : (d : ℕ) → is_digit_or_underscore Decimal d ≡ true → ((98 == d) ≡ false) × ((111 == d) ≡ false) × ((120 == d) ≡ false)
no_letter d h = (grind (arith, nat_tests), grind (arith, nat_tests), grind (arith, nat_tests))

pub digits_base : (t : List ℕ) → list_all (is_digit_or_underscore Decimal) t ≡ true → base_of t ≡ Decimal
digits_base [] h = refl
digits_base (c ∷ []) h = go (48 == c) refl
  where
    go : (b : Bool) → (48 == c) ≡ b → base_of (c ∷ []) ≡ Decimal
    go true e = rw e refl
    go false e = rw e refl
digits_base (c ∷ d ∷ t) h = go (48 == c) refl
  where
    none : ((98 == d) ≡ false) × ((111 == d) ≡ false) × ((120 == d) ≡ false)
    none = no_letter d (and_parts _ _ (and_parts (is_digit_or_underscore Decimal c) _ h).1).0

    go : (b : Bool) → (48 == c) ≡ b → base_of (c ∷ d ∷ t) ≡ Decimal
    go true e = rw (e, none.0, none.1, none.2) refl
    go false e = rw e refl

any_first : (t : List ℕ) → first_passes is_ascii_digit t ≡ true → list_any is_ascii_digit t ≡ true
any_first [] h = cc
any_first (c ∷ t) h = or_left _ _ h

plain_digits : (t : List ℕ) → list_all (is_digit_or_underscore Decimal) t ≡ true → first_passes is_ascii_digit t ≡ true → integer_refusal t ≡ None
plain_digits t h digit =
    let cut : cut_with (base_of t) t ≡ record { base = Decimal; main = t; suffix = [] } =
    ap (λ b. cut_with b t) (digits_base t h) ∙ ap (cut_with Decimal) (sym (append-nil t)) ∙ cut_parts Decimal t [] h refl in
    refusal_of_digit t digit ∙ ap integer_cut_refusal (integer_cut-is t ∙ cut) ∙ rw (is_suffix-nil, any_first t digit) refl

drop-all : (t : List ℕ) → drop (length t) t ≡ []
drop-all t = ap (drop (length t)) (sym (append-nil t)) ∙ drop_at t [] (length t) refl

number_stays : (t x : List ℕ) (k : LiteralKind) (e : Refusal) → first_passes is_ascii_digit t ≡ true → number t ≡ parsed_as k → IsKindRefusal k t e → number (t ++ x) ≡ parsed_as k
number_stays t x k e digit h fault = go (run_of (is_digit_or_underscore Decimal) t)
  where
    whole : (run : List ℕ) → run ++ [] ≡ t → list_all (is_digit_or_underscore Decimal) run ≡ true → ⊥
    whole run spells all =
        let same : run ≡ t = sym (append-nil run) ∙ spells in
        let all' : list_all (is_digit_or_underscore Decimal) t ≡ true = subst (λ l. list_all (is_digit_or_underscore Decimal) l ≡ true) same all in
        let shut : begins_with_float t ≡ false = ap (λ n. first_passes is_float_mark (drop n t)) (prefix_len_all (is_digit_or_underscore Decimal) t all') ∙ ap (first_passes is_float_mark) (drop-all t) in
        let kind : parsed_as integer_literal ≡ parsed_as k = rw shut at h in
        let is : integer_literal ≡ k = cc in
        let free = plain_digits t all' digit in
        let fault' : IsKindRefusal integer_literal t e = subst (λ k. IsKindRefusal k t e) (sym is) fault in
        cc

    go : IsRun (is_digit_or_underscore Decimal) t → number (t ++ x) ≡ parsed_as k
    go r = by r.rest r.spells r.stops
      where
        by : (rest : List ℕ) → r.front ++ rest ≡ t → first_passes (is_digit_or_underscore Decimal) rest ≡ false → number (t ++ x) ≡ parsed_as k
        by [] spells stops = absurd (whole r.front spells r.passes)
        by (m ∷ s) spells stops =
            let long : begins_with_float (t ++ x) ≡ is_float_mark m = ap (λ l. begins_with_float (l ++ x)) (sym spells) ∙ float_more r.front m s x r.passes stops in
            let short : begins_with_float t ≡ is_float_mark m = ap begins_with_float (sym (append-nil t) ∙ ap (λ l. l ++ []) (sym spells)) ∙ float_more r.front m s [] r.passes stops in
            ap (λ b. if b then parsed_as float_literal else parsed_as integer_literal) (long ∙ sym short) ∙ h

-- a text that a kind's own table refuses is dispatched alike whatever is appended
pub dispatch_stays : (t x : List ℕ) (k : LiteralKind) (e : Refusal) → dispatch t ≡ parsed_as k → IsKindRefusal k t e → dispatch (t ++ x) ≡ parsed_as k
unfolding dispatch
dispatch_stays [] x k e h fault = cc
dispatch_stays (c ∷ r) x k e h fault = go (is_bool (c ∷ r)) (is_ascii_digit c) refl refl
  where
    go : (b d : Bool) → is_bool (c ∷ r) ≡ b → is_ascii_digit c ≡ d → dispatch (c ∷ (r ++ x)) ≡ parsed_as k
    go true d is_b is_d =
        let kind : parsed_as bool_literal ≡ parsed_as k = rw is_b at h in
        let is : bool_literal ≡ k = cc in
        let refused : (if is_bool (c ∷ r) then None else Some (without_span InvalidLiteral)) ≡ Some e = subst (λ k. IsKindRefusal k (c ∷ r) e) (sym is) fault in
        let none : None ≡ Some e = rw is_b at refused in
        absurd (cc)
    go false true is_b is_d =
        let number_is : number (c ∷ r) ≡ parsed_as k = sym (if_false (is_bool (c ∷ r)) _ _ is_b ∙ if_true (is_ascii_digit c) _ _ is_d) ∙ h in
        if_false (is_bool (c ∷ (r ++ x))) _ _ (is_bool-digit (c ∷ (r ++ x)) is_d) ∙ if_true (is_ascii_digit c) _ _ is_d ∙ number_stays (c ∷ r) x k e is_d number_is fault
    go false false is_b is_d =
        let other_is : other (c ∷ r) ≡ parsed_as k = sym (if_false (is_bool (c ∷ r)) _ _ is_b ∙ if_false (is_ascii_digit c) _ _ is_d) ∙ h in
        if_false (is_bool (c ∷ (r ++ x))) _ _ (no_bool c r x k other_is) ∙ if_false (is_ascii_digit c) _ _ is_d ∙ other_stays c r x k other_is

-- a text that a kind's own table refuses begins a literal if and only if it begins one of that kind
pub literal_begins : (t : List ℕ) (k : LiteralKind) (e : Refusal) → dispatch t ≡ parsed_as k → IsKindRefusal k t e → Begins literal_parse t ↔ Begins (kind_parse k) t
literal_begins t k e named fault = (own, any)
  where
    own : Begins literal_parse t → Begins (kind_parse k) t
    own (more, d, text, lit) =
        let same : parsed_as (literal_kind d) ≡ parsed_as k = sym (dispatch_literal (t ++ more) d lit) ∙ dispatch_stays t more k e named fault in
        let kind : literal_kind d ≡ k = cc in
        (more, d, text, (kind, lit))

    any : Begins (kind_parse k) t → Begins literal_parse t
    any (more, d, text, (kind, lit)) = (more, d, text, lit)

-- Texts that no kind is named for

-- a character alone
undispatched_single : (c : ℕ) (x : List ℕ) (k : LiteralKind) (e : Refusal) (p q r b s : Bool) → (39 == c) ≡ p → (34 == c) ≡ q → (114 == c) ≡ r → (98 == c) ≡ b → (99 == c) ≡ s →
    other (c ∷ []) ≡ refused_as e → other (c ∷ x) ≡ parsed_as k → 98 ≡ c
undispatched_single c x k e true q r b s e1 e2 e3 e4 e5 h g = absurd (let f : parsed_as char_literal ≡ refused_as e = rw e1 at h in cc)
undispatched_single c x k e false true r b s e1 e2 e3 e4 e5 h g = absurd (let f : parsed_as string_literal ≡ refused_as e = rw (e1, e2) at h in cc)
undispatched_single c x k e false false true b s e1 e2 e3 e4 e5 h g = absurd (let f : parsed_as string_literal ≡ refused_as e = rw (e1, e2, e3) at h in cc)
undispatched_single c x k e false false false true s e1 e2 e3 e4 e5 h g = eqb-true 98 c e4
undispatched_single c x k e false false false false true e1 e2 e3 e4 e5 h g = absurd (let f : parsed_as c_string_literal ≡ refused_as e = rw (e1, e2, e3, e4, e5) at h in cc)
undispatched_single c x k e false false false false false e1 e2 e3 e4 e5 h g = absurd (let f : refused_as (without_span InvalidLiteral) ≡ parsed_as k = rw (e1, e2, e3, e4, e5) at g in cc)

undispatched_other : (c : ℕ) (r x : List ℕ) (k : LiteralKind) (e : Refusal) → other (c ∷ r) ≡ refused_as e → other (c ∷ (r ++ x)) ≡ parsed_as k → undispatched_goes_on (c ∷ r) ≡ true
undispatched_other c [] x k e h g =
    let at = undispatched_single c x k e (39 == c) (34 == c) (114 == c) (98 == c) (99 == c) refl refl refl refl refl h g in
    subst (λ n. undispatched_goes_on (n ∷ []) ≡ true) at refl
undispatched_other c (d ∷ r) x k e h g = absurd (let f : refused_as e ≡ parsed_as k = sym h ∙ g in cc)

number_named : (b : Bool) (e : Refusal) → (if b then parsed_as float_literal else parsed_as integer_literal) ≡ refused_as e → ⊥
number_named true e h = cc
number_named false e h = cc

-- a text that no kind is named for begins a literal only if it is a prefix of a bool or `b`
pub undispatched_front : (t x : List ℕ) (d : Derivation) (e : Refusal) → dispatch t ≡ refused_as e → IsLiteral (t ++ x) d → undispatched_goes_on t ≡ true
unfolding dispatch
undispatched_front [] x d e h lit = refl
undispatched_front (c ∷ r) x d e h lit = go (is_bool (c ∷ (r ++ x))) (is_bool (c ∷ r)) (is_ascii_digit c) refl refl refl
  where
    k : LiteralKind
    k = literal_kind d

    named : dispatch (c ∷ (r ++ x)) ≡ parsed_as k
    named = dispatch_literal (c ∷ (r ++ x)) d lit

    go : (l b n : Bool) → is_bool (c ∷ (r ++ x)) ≡ l → is_bool (c ∷ r) ≡ b → is_ascii_digit c ≡ n → undispatched_goes_on (c ∷ r) ≡ true
    go true b n is_l is_b is_n = let whole = some_bool (c ∷ (r ++ x)) is_l in or_left _ _ (bool_front (c ∷ r) x whole.0 whole.1)
    go false true n is_l is_b is_n = absurd (let f : parsed_as bool_literal ≡ refused_as e = sym (if_true (is_bool (c ∷ r)) _ _ is_b) ∙ h in cc)
    go false false true is_l is_b is_n = absurd (number_named (begins_with_float (c ∷ r)) e (sym (if_false (is_bool (c ∷ r)) _ _ is_b ∙ if_true (is_ascii_digit c) _ _ is_n) ∙ h))
    go false false false is_l is_b is_n =
        undispatched_other c r x k e (sym (if_false (is_bool (c ∷ r)) _ _ is_b ∙ if_false (is_ascii_digit c) _ _ is_n) ∙ h)
        (sym (if_false (is_bool (c ∷ (r ++ x))) _ _ is_l ∙ if_false (is_ascii_digit c) _ _ is_n) ∙ named)

bool_completes : (t : List ℕ) → bool_goes_on t ≡ true → Begins literal_parse t
bool_completes t h = let more = (bool_begins t).1 h in (more.0, a_bool more.1, more.2, more.3)

b_completes : (t : List ℕ) → begins_with t (codes "b") ≡ true → Begins literal_parse t
b_completes [] h = bool_completes [] refl
b_completes (c ∷ []) h =
    subst (λ n. Begins literal_parse (n ∷ [])) (sym (eqb-true c 98 (and_parts (c == 98) _ h).0))
    (39 ∷ 97 ∷ 39 ∷ [], a_byte (record { item = plain_char 97; suffix = [] }), refl, record { spells = refl; item = refl; suffix = is_suffix-nil })
b_completes (c ∷ d ∷ r) h = absurd (false≢true (and_parts (c == 98) _ h).1)

-- exactly there
pub undispatched_begins : (t : List ℕ) (e : Refusal) → dispatch t ≡ refused_as e → Begins literal_parse t ↔ (undispatched_goes_on t ≡ true)
undispatched_begins t e h = (λ begins. undispatched_front t begins.0 begins.1 e h begins.3, from)
  where
    from : undispatched_goes_on t ≡ true → Begins literal_parse t
    from g = elim (or_cases (bool_goes_on t) (begins_with t (codes "b")) g) [
      | inl front ↦ bool_completes t front
      | inr front ↦ b_completes t front
    ]

last_not_b : (t u : List ℕ) → list_all is_other u ≡ true → begins_with (t ++ 10 ∷ []) u ≡ true → ⊥
last_not_b t u others begins = no_line_feed t (drop (length (t ++ 10 ∷ [])) u) (ap (list_all is_other) (begins_with-split (t ++ 10 ∷ []) u begins) ∙ others)

-- none of them ends with LF
pub undispatched_line_end : (t : List ℕ) → undispatched_goes_on (t ++ 10 ∷ []) ≡ true → ⊥
undispatched_line_end t h = elim (or_cases (bool_goes_on (t ++ 10 ∷ [])) (begins_with (t ++ 10 ∷ []) (codes "b")) h) [
  | inr front ↦ last_not_b t (codes "b") refl front
  | inl front ↦ elim (or_cases (begins_with (t ++ 10 ∷ []) (codes "true")) (begins_with (t ++ 10 ∷ []) (codes "false")) front) [
    | inl of_true ↦ last_not_b t (codes "true") refl of_true
    | inr of_false ↦ last_not_b t (codes "false") refl of_false
  ]
]
