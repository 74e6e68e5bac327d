-- A text has at most one literal at its front.
use Rattle.litrs_prefix.proofs.Words.{◌≡◌, true≢false, ◌⊎◌, inl, inr, ℕ, Bool, true, false, List, [], ◌∷◌, ◌++◌, refl, sym, ap, subst, ◌∙◌, arith, if◌then◌else◌, is_ascii_digit, first_passes, bool_text, is_bool, IntegerParts, Derivation, a_bool, an_integer, a_float, IsLiteral, begins_with_float, ends_suffix, ends_bool, HasPrefix, PrefixesAreUnique, InvalidLiteral, Refusal, without_span, FloatParts, literal_kind, bool_literal, integer_literal, float_literal, refused_as, parsed_as, dispatch, and_parts, append_cancel_right, starts_with_digit, first_passes-append, dispatch_literal, literals_are_unique}
use Rattle.litrs_grammar.proofs.Laws.Literal.{is_bool-digit}
use Rattle.litrs_prefix.proofs.Numbers.{same_integer, has_mark, integer_mark, float_mark}
use Rattle.litrs_prefix.proofs.Opened.{only_rest}

-- the kind of a literal, by how it begins

pub no_literal : (d : Derivation) → IsLiteral [] d → ⊥
unfolding dispatch
no_literal d h = (let row = dispatch_literal [] d h in cc)

abbrev pub IsNumber : Derivation → Type 0
IsNumber d = ((x : IntegerParts) × (d ≡ an_integer x)) ⊎ ((x : FloatParts) × (d ≡ a_float x))

pub number_kind : (v : Bool) (d : Derivation) → parsed_as (literal_kind d) ≡ (if v then parsed_as float_literal else parsed_as integer_literal) → IsNumber d
number_kind v d h = grind arith

-- a literal that begins with a digit is a number
pub number_of : (s r : List ℕ) (d : Derivation) → IsLiteral s d → first_passes is_ascii_digit (s ++ r) ≡ true → IsNumber d
unfolding dispatch
number_of [] r d h digit = absurd (no_literal d h)
number_of (c ∷ s) r d h digit =
    number_kind (begins_with_float (c ∷ s)) d (sym (dispatch_literal (c ∷ s) d h) ∙ rw (is_bool-digit (c ∷ s) digit, digit) refl)

bool_kind : (v : Bool) (e : Refusal) (d : Derivation) → parsed_as (literal_kind d) ≡ (if v then parsed_as bool_literal else refused_as e) → (b : Bool) × (d ≡ a_bool b)
bool_kind v e d h = grind arith

-- one that begins like a bool is a bool
bool_of : (v : Bool) (s r x : List ℕ) (d : Derivation) → IsLiteral s d → s ++ r ≡ bool_text v ++ x → (b : Bool) × (d ≡ a_bool b)
unfolding dispatch
bool_of v [] r x d h is = absurd (no_literal d h)
bool_of true (c ∷ s) r x d h is =
    (let first : c ≡ 116 = cc in bool_kind (is_bool (116 ∷ s)) (without_span InvalidLiteral) d (sym (dispatch_literal (116 ∷ s) d (rw first at h))))
bool_of false (c ∷ s) r x d h is =
    (let first : c ≡ 102 = cc in bool_kind (is_bool (102 ∷ s)) (without_span InvalidLiteral) d (sym (dispatch_literal (102 ∷ s) d (rw first at h))))

pub at_bool : (P : Type 0) (t r x : List ℕ) (d : Derivation) (v : Bool) → HasPrefix t d r → bool_text v ++ x ≡ t →
    ((b : Bool) → bool_text b ++ r ≡ t → ends_bool r ≡ true → P) → P
at_bool P t r x d v at is found = grind (arith, bool_of)

-- an integer without a suffix may end before what opens there does
bare_rest : (t r u : List ℕ) (x : IntegerParts) (e : Derivation) → HasPrefix t (an_integer x) r → HasPrefix t e u → IsNumber e → r ≡ u
bare_rest t r u x e h g (inl (y, is)) =
    let i : HasPrefix t (an_integer y) u = subst (λ (a : Derivation). HasPrefix t a u) is g in
    let p = and_parts (ends_suffix x.suffix r) _ h.follows in
    let q = and_parts (ends_suffix y.suffix u) _ i.follows in
    (same_integer h.front i.front r u x y h.literal i.literal p.0 p.1 q.0 q.1 (h.spells ∙ sym i.spells)).1
bare_rest t r u x e h g (inr (y, is)) =
    let f : HasPrefix t (a_float y) u = subst (λ (a : Derivation). HasPrefix t a u) is g in
    let p = and_parts (ends_suffix x.suffix r) _ h.follows in
    let q = and_parts (ends_suffix y.suffix u) _ f.follows in
    absurd (true≢false (sym (float_mark f.front u y f.literal q.0 q.1) ∙ (ap has_mark (f.spells ∙ sym h.spells) ∙ integer_mark h.front r x h.literal p.0 p.1)))

bare_same : (t r u : List ℕ) (x : IntegerParts) (d e : Derivation) → d ≡ an_integer x → HasPrefix t d r → HasPrefix t e u → r ≡ u
bare_same t r u x d e is h g =
    let lit : HasPrefix t (an_integer x) r = rw is at h in
    let digit = first_passes-append is_ascii_digit lit.front r (starts_with_digit lit.front x lit.literal) in
    bare_rest t r u x e lit g (number_of g.front u e g.literal (rw (g.spells, ← lit.spells) digit))

same_rest : (t r u : List ℕ) (d e : Derivation) → HasPrefix t d r → HasPrefix t e u → r ≡ u
same_rest t r u d e h g = elim (only_rest t d r h) [
  | inr (x, is, bare) ↦ bare_same t r u x d e is h g
  | inl here ↦ sym here ∙ elim (only_rest t e u g) [
    | inl there ↦ there
    | inr (x, is, bare) ↦ here ∙ sym (bare_same t u r x e d is g h)
  ]
]

-- the rest is the same, so the literal is
pub unique : PrefixesAreUnique
unique t d e r u h g =
    let rest = same_rest t r u d e h g in
    let front = append_cancel_right g.front h.front r (rw (← rest) at g.spells ∙ sym h.spells) in
    (literals_are_unique h.front d e h.literal (subst (λ (l : List ℕ). IsLiteral l e) front g.literal), rest)
