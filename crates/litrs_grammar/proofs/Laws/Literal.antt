-- Literals of all eight kinds: the dispatch names the kind of each, a text has at most one derivation, and one if
-- and only if it has no refusal.
use Rattle.std.proofs.Common.{◌≡◌, ◌⊎◌, ℕ, Bool, true, false, eqb, List, [], ◌∷◌, ◌++◌, length, drop, Option, Some, None, refl, sym, ap, subst, ◌∙◌, inl, inr}
use Rattle.std.specs.Prelude.{if◌then◌else◌}
use Rattle.std.specs.Char.{is_ascii_digit}
use Rattle.std.proofs.lemmas.Bool.{and_parts, or_cases, eqb-true, true≢false, false_from_ne_true}
use Rattle.litrs_base.specs.declared.err.ParseErrorKind.TheVariants.{Empty, InvalidLiteral}
use Rattle.litrs_base.specs.Refusal.{Refusal, without_span}
use Rattle.litrs_base.specs.Text.{is_empty, first_passes, begins_with, is_text}
use Rattle.litrs_base.specs.declared.quotes.StringKind.{StringKind}
use Rattle.litrs_base.specs.declared.quotes.StringKind.TheVariants.{String as string_kind, ByteString as byte_string_kind, CString as c_string_kind}
use Rattle.litrs_base.specs.Quotes.{switches_of, quoted_front, raw_front}
use Rattle.litrs_base.specs.declared.quotes.CharKind.{CharKind}
use Rattle.litrs_base.specs.declared.quotes.CharKind.TheVariants.{Char as char_kind, Byte as byte_kind}
use Rattle.litrs_grammar.specs.Bool.{bool_text, is_bool, bool_refusal}
use Rattle.litrs_grammar.specs.Integer.{integer_cut, integer_refusal}
use Rattle.litrs_grammar.specs.Float.{FloatParts, IsFloatOf, float_refusal}
use Rattle.litrs_grammar.specs.CharByte.{CharParts, IsCharLiteral, char_kind_refusal}
use Rattle.litrs_grammar.specs.Quoted.{QuotedParts, IsQuotedLiteral}
use Rattle.litrs_grammar.specs.Raw.{RawParts, IsRawLiteral, raw_literal_refusal}
use Rattle.litrs_grammar.specs.Literal.{StringParts, quoted_parts, raw_parts, IsString, Derivation, a_bool, an_integer, a_float, a_char, a_byte, a_string, a_byte_string, a_c_string, IsLiteral, LiteralKind, bool_literal, integer_literal, float_literal, char_literal, byte_literal, string_literal, byte_string_literal, c_string_literal, literal_kind, literal_parse, kind_parse, IsLiteralOf, string_literal_of}
use Rattle.litrs_grammar.specs.LiteralRefusals.{StringStart, refused_start, quoted_start, raw_start, string_start, string_start_refusal, IsRefusalOfStart, IsStringRefusal, IsKindRefusal, begins_with_float, Dispatch, refused_as, parsed_as, dispatch, IsRefusalOfDispatch}
use Rattle.litrs_grammar.specs.Laws.Literal.{LiteralsAreUnique, TextsAreDecided, LiteralsAreNotRefused, RefusalsAreUnique}
use Rattle.litrs_grammar.proofs.Laws.Bool.{same_bool}
use Rattle.litrs_base.proofs.Begins.{begins_with-split, begins_with-append}
use Rattle.litrs_grammar.proofs.Laws.Integer.{only_integer, starts_with_digit, not_empty_by_first, integer_refusal-free, derivable as derivable_integer}
use Rattle.litrs_grammar.proofs.Laws.Float.{only_float, starts_digit, refusal_free, derivable}
use Rattle.litrs_grammar.proofs.Laws.Number.{float_begins, integer_begins}
use Rattle.litrs_grammar.proofs.Laws.CharByte.{chars_are_unique, chars_are_decided}
use Rattle.litrs_grammar.proofs.Laws.Quoted.{quoted_literals_are_unique, quoted_texts_are_decided, quoted_texts_are_not_refused, quoted_refusals_are_unique}
use Rattle.litrs_grammar.proofs.RawKinds.{only_raw_literal, literal_derivable, literal_refusal_free}

-- Bools

pub is_text-is : (t u : List ℕ) → is_text t u ≡ true → t ≡ u
is_text-is [] [] e = refl
is_text-is [] (d ∷ u) e = cc
is_text-is (c ∷ t) [] e = cc
is_text-is (c ∷ t) (d ∷ u) e =
    let parts = and_parts (eqb c d) (is_text t u) e in
    let first = eqb-true c d parts.0 in
    let more = is_text-is t u parts.1 in cc

-- a text of the two is one of them
pub some_bool : (t : List ℕ) → is_bool t ≡ true → (b : Bool) × (bool_text b ≡ t)
some_bool t e = elim (or_cases (is_text (bool_text true) t) (is_text (bool_text false) t) e) [
  | inl is ↦ (true, is_text-is (bool_text true) t is)
  | inr is ↦ (false, is_text-is (bool_text false) t is)
]

pub is_bool-text : (b : Bool) → is_bool (bool_text b) ≡ true
is_bool-text false = refl
is_bool-text true = refl

pub no_digit_in_bool : (b : Bool) → first_passes is_ascii_digit (bool_text b) ≡ false
no_digit_in_bool false = refl
no_digit_in_bool true = refl

-- no bool begins with a digit
pub is_bool-digit : (t : List ℕ) → first_passes is_ascii_digit t ≡ true → is_bool t ≡ false
is_bool-digit t digit = false_from_ne_true (is_bool t) (λ e. let b = some_bool t e in
    true≢false (sym digit ∙ (ap (first_passes is_ascii_digit) (sym b.1) ∙ no_digit_in_bool b.0)))

-- a text that is not a bool
pub is_bool-none : (t : List ℕ) → ((b : Bool) → bool_text b ≡ t → ⊥) → is_bool t ≡ false
is_bool-none t none = false_from_ne_true (is_bool t) (λ e. let b = some_bool t e in none b.0 b.1)

pub bool_refusal-none : (t : List ℕ) → ((b : Bool) → bool_text b ≡ t → ⊥) → bool_refusal t ≡ Some (without_span InvalidLiteral)
bool_refusal-none t none = ap (λ v. if v then None else Some (without_span InvalidLiteral)) (is_bool-none t none)

bool_free : (t : List ℕ) (b : Bool) → bool_text b ≡ t → bool_refusal t ≡ None
bool_free t b is = ap (λ v. if v then None else Some (without_span InvalidLiteral)) (ap is_bool (sym is) ∙ is_bool-text b)

-- The dispatch names the kind of a literal.

dispatch_digit : (t : List ℕ) (v : Bool) → first_passes is_ascii_digit t ≡ true → begins_with_float t ≡ v →
    dispatch t ≡ (if v then parsed_as float_literal else parsed_as integer_literal)
unfolding dispatch
dispatch_digit t v digit float = rw (not_empty_by_first is_ascii_digit t digit, is_bool-digit t digit, digit, float) refl

dispatch_bool : (b : Bool) → dispatch (bool_text b) ≡ parsed_as bool_literal
unfolding dispatch
dispatch_bool false = refl
dispatch_bool true = refl

pub float_digit : (t : List ℕ) (d : FloatParts) → IsFloatOf t d → first_passes is_ascii_digit t ≡ true
float_digit t d r = ap (first_passes is_ascii_digit) (sym r.spells) ∙ (starts_digit d.integer _ r.grammar.integer).1

dispatch_char : (t : List ℕ) (d : CharParts) → IsCharLiteral char_kind t d → dispatch t ≡ parsed_as char_literal
unfolding dispatch
dispatch_char t d r = ap dispatch (sym r.spells)

dispatch_byte : (t : List ℕ) (d : CharParts) → IsCharLiteral byte_kind t d → dispatch t ≡ parsed_as byte_literal
unfolding dispatch
dispatch_byte t d r = ap dispatch (sym r.spells)

pub dispatch_quoted : (kind : StringKind) (x : List ℕ) → dispatch (quoted_front kind ++ x) ≡ parsed_as (string_literal_of kind)
unfolding dispatch
dispatch_quoted string_kind x = refl
dispatch_quoted byte_string_kind x = refl
dispatch_quoted c_string_kind x = refl

pub dispatch_raw : (kind : StringKind) (x : List ℕ) → dispatch (raw_front kind ++ x) ≡ parsed_as (string_literal_of kind)
unfolding dispatch
dispatch_raw string_kind x = refl
dispatch_raw byte_string_kind x = refl
dispatch_raw c_string_kind x = refl

dispatch_string : (kind : StringKind) (t : List ℕ) (d : StringParts) → IsString kind t d → dispatch t ≡ parsed_as (string_literal_of kind)
dispatch_string kind t (quoted_parts d) r = ap dispatch (sym r.spells) ∙ dispatch_quoted kind _
dispatch_string kind t (raw_parts d) r = ap dispatch (sym r.spells) ∙ dispatch_raw kind _

pub dispatch_literal : (t : List ℕ) (d : Derivation) → IsLiteral t d → dispatch t ≡ parsed_as (literal_kind d)
dispatch_literal t (a_bool b) r = ap dispatch (sym r) ∙ dispatch_bool b
dispatch_literal t (an_integer d) r = dispatch_digit t false (starts_with_digit t d r) (integer_begins t d r)
dispatch_literal t (a_float d) r = dispatch_digit t true (float_digit t d r) (float_begins t d r)
dispatch_literal t (a_char d) r = dispatch_char t d r
dispatch_literal t (a_byte d) r = dispatch_byte t d r
dispatch_literal t (a_string d) r = dispatch_string string_kind t d r
dispatch_literal t (a_byte_string d) r = dispatch_string byte_string_kind t d r
dispatch_literal t (a_c_string d) r = dispatch_string c_string_kind t d r

-- If the dispatch does not name a kind, the text is empty or does not begin like any kind.

else_row : (P : Refusal → Type 0) (b : Bool) (kind : LiteralKind) (o : Dispatch) (e : Refusal) →
    (o ≡ refused_as e → P e) → (if b then parsed_as kind else o) ≡ refused_as e → P e
else_row P true kind o e below is = cc
else_row P false kind o e below is = below is

number_row : (P : Refusal → Type 0) (b : Bool) (e : Refusal) → (if b then parsed_as float_literal else parsed_as integer_literal) ≡ refused_as e → P e
number_row P true e is = cc
number_row P false e is = cc

either_row : (P : Refusal → Type 0) (b : Bool) (x y : Dispatch) (e : Refusal) → (x ≡ refused_as e → P e) → (y ≡ refused_as e → P e) → (if b then x else y) ≡ refused_as e → P e
either_row P true x y e here below is = here is
either_row P false x y e here below is = below is

refusal_is : (P : Refusal → Type 0) (row e : Refusal) → P row → refused_as row ≡ refused_as e → P e
refusal_is P row e holds is = subst P (let same : row ≡ e = cc in same) holds

pub dispatch_refusal : (P : Refusal → Type 0) (t : List ℕ) (e : Refusal) → P (without_span Empty) → P (without_span InvalidLiteral) → dispatch t ≡ refused_as e → P e
unfolding dispatch
dispatch_refusal P t e empty invalid =
    either_row P (is_empty t) _ _ e (refusal_is P (without_span Empty) e empty)
    (else_row P (is_bool t) bool_literal _ e
    (either_row P (first_passes is_ascii_digit t) _ _ e (number_row P (begins_with_float t) e)
    (else_row P _ char_literal _ e
    (else_row P _ string_literal _ e
    (else_row P _ byte_literal _ e
    (else_row P _ byte_string_literal _ e
    (else_row P _ c_string_literal _ e (refusal_is P (without_span InvalidLiteral) e invalid))))))))

-- At most one derivation

pub start_quoted : (kind : StringKind) (x : List ℕ) → string_start kind (quoted_front kind ++ x) ≡ quoted_start
start_quoted string_kind x = refl
start_quoted byte_string_kind x = refl
start_quoted c_string_kind x = refl

pub start_raw : (kind : StringKind) (x : List ℕ) → string_start kind (raw_front kind ++ x) ≡ raw_start
start_raw string_kind x = refl
start_raw byte_string_kind x = refl
start_raw c_string_kind x = refl

pub quoted_starts : (kind : StringKind) (t : List ℕ) (d : QuotedParts) → IsQuotedLiteral kind t d → string_start kind t ≡ quoted_start
quoted_starts kind t d r = ap (string_start kind) (sym r.spells) ∙ start_quoted kind _

pub raw_starts : (kind : StringKind) (t : List ℕ) (d : RawParts) → IsRawLiteral kind t d → string_start kind t ≡ raw_start
raw_starts kind t d r = ap (string_start kind) (sym r.spells) ∙ start_raw kind _

no_quoted_is_raw : (kind : StringKind) (t : List ℕ) (d : QuotedParts) (e : RawParts) → IsQuotedLiteral kind t d → IsRawLiteral kind t e → ⊥
no_quoted_is_raw kind t d e r s = let both : quoted_start ≡ raw_start = sym (quoted_starts kind t d r) ∙ raw_starts kind t e s in cc

pub only_string : (kind : StringKind) (t : List ℕ) (d e : StringParts) → IsString kind t d → IsString kind t e → d ≡ e
only_string kind t (quoted_parts d) (quoted_parts e) r s = ap quoted_parts (quoted_literals_are_unique t kind kind d e r s).1
only_string kind t (quoted_parts d) (raw_parts e) r s = absurd (no_quoted_is_raw kind t d e r s)
only_string kind t (raw_parts d) (quoted_parts e) r s = absurd (no_quoted_is_raw kind t e d s r)
only_string kind t (raw_parts d) (raw_parts e) r s = ap raw_parts (only_raw_literal t kind kind d e r s).1

same_kind : (t : List ℕ) (d e : Derivation) → IsLiteral t d → IsLiteral t e → literal_kind d ≡ literal_kind e
same_kind t d e r s = let both : parsed_as (literal_kind d) ≡ parsed_as (literal_kind e) = sym (dispatch_literal t d r) ∙ dispatch_literal t e s in cc

only_of_kind : (t : List ℕ) (d e : Derivation) → literal_kind d ≡ literal_kind e → IsLiteral t d → IsLiteral t e → d ≡ e
only_of_kind t (a_bool b) (a_bool c) same r s = ap a_bool (same_bool b c (r ∙ sym s))
only_of_kind t (an_integer d) (an_integer e) same r s = ap an_integer (sym (only_integer t d e r s))
only_of_kind t (a_float d) (a_float e) same r s = ap a_float (only_float t d e r s)
only_of_kind t (a_char d) (a_char e) same r s = ap a_char (chars_are_unique t char_kind char_kind d e r s).1
only_of_kind t (a_byte d) (a_byte e) same r s = ap a_byte (chars_are_unique t byte_kind byte_kind d e r s).1
only_of_kind t (a_string d) (a_string e) same r s = ap a_string (only_string string_kind t d e r s)
only_of_kind t (a_byte_string d) (a_byte_string e) same r s = ap a_byte_string (only_string byte_string_kind t d e r s)
only_of_kind t (a_c_string d) (a_c_string e) same r s = ap a_c_string (only_string c_string_kind t d e r s)
only_of_kind t d e same r s = cc

pub literals_are_unique : LiteralsAreUnique
literals_are_unique t d e r s = only_of_kind t d e (same_kind t d e r s) r s

-- No literal is refused.

none_some : (o : Option Refusal) (e : Refusal) → o ≡ None → o ≡ Some e → ⊥
none_some o e none some = let both : None ≡ Some e = sym none ∙ some in cc

string_not_refused : (kind : StringKind) (t : List ℕ) (d : StringParts) (e : Refusal) → IsString kind t d → IsStringRefusal kind t e → ⊥
string_not_refused kind t (quoted_parts d) e r refused =
    quoted_texts_are_not_refused (quoted_front kind) (switches_of kind) t d e r
    (subst (λ o. IsRefusalOfStart kind o t e) (quoted_starts kind t d r) refused)
string_not_refused kind t (raw_parts d) e r refused =
    let begins : begins_with (raw_front kind) t ≡ true = ap (begins_with (raw_front kind)) (sym r.spells) ∙ begins_with-append (raw_front kind) _ in
    none_some (raw_literal_refusal kind t) e (literal_refusal_free kind t d begins r)
    (subst (λ o. IsRefusalOfStart kind o t e) (raw_starts kind t d r) refused)

char_free : (kind : CharKind) (t : List ℕ) (d : CharParts) → IsCharLiteral kind t d → char_kind_refusal kind t ≡ None
char_free kind t d r = (chars_are_decided kind t).1 (d, r)

not_refused : (t : List ℕ) (d : Derivation) (e : Refusal) → IsLiteral t d → IsKindRefusal (literal_kind d) t e → ⊥
not_refused t (a_bool b) e r refused = none_some (bool_refusal t) e (bool_free t b r) refused
not_refused t (an_integer d) e r refused = none_some (integer_refusal t) e (integer_refusal-free t d r) refused
not_refused t (a_float d) e r refused = none_some (float_refusal t) e (refusal_free t d r) refused
not_refused t (a_char d) e r refused = none_some (char_kind_refusal char_kind t) e (char_free char_kind t d r) refused
not_refused t (a_byte d) e r refused = none_some (char_kind_refusal byte_kind t) e (char_free byte_kind t d r) refused
not_refused t (a_string d) e r refused = string_not_refused string_kind t d e r refused
not_refused t (a_byte_string d) e r refused = string_not_refused byte_string_kind t d e r refused
not_refused t (a_c_string d) e r refused = string_not_refused c_string_kind t d e r refused

pub literals_are_not_refused : LiteralsAreNotRefused
literals_are_not_refused literal_parse t d e r refused =
    not_refused t d e r (subst (λ o. IsRefusalOfDispatch o t e) (dispatch_literal t d r) refused)
literals_are_not_refused (kind_parse kind) t d e r refused =
    not_refused t d e r.1 (subst (λ k. IsKindRefusal k t e) (sym r.0) refused)

-- One refusal

same_some : (o : Option Refusal) (e f : Refusal) → o ≡ Some e → o ≡ Some f → e ≡ f
same_some o e f is also = let both : Some e ≡ Some f = sym is ∙ also in cc

started_refusal : (kind : StringKind) (start : StringStart) (t : List ℕ) (e f : Refusal) → IsRefusalOfStart kind start t e → IsRefusalOfStart kind start t f → e ≡ f
started_refusal kind (refused_start refusal) t e f is also = sym is ∙ also
started_refusal kind quoted_start t e f is also = quoted_refusals_are_unique (quoted_front kind) (switches_of kind) t e f is also
started_refusal kind raw_start t e f is also = same_some (raw_literal_refusal kind t) e f is also

only_refusal : (kind : LiteralKind) (t : List ℕ) (e f : Refusal) → IsKindRefusal kind t e → IsKindRefusal kind t f → e ≡ f
only_refusal bool_literal t e f is also = same_some (bool_refusal t) e f is also
only_refusal integer_literal t e f is also = same_some (integer_refusal t) e f is also
only_refusal float_literal t e f is also = same_some (float_refusal t) e f is also
only_refusal char_literal t e f is also = same_some (char_kind_refusal char_kind t) e f is also
only_refusal byte_literal t e f is also = same_some (char_kind_refusal byte_kind t) e f is also
only_refusal string_literal t e f is also = started_refusal string_kind (string_start string_kind t) t e f is also
only_refusal byte_string_literal t e f is also = started_refusal byte_string_kind (string_start byte_string_kind t) t e f is also
only_refusal c_string_literal t e f is also = started_refusal c_string_kind (string_start c_string_kind t) t e f is also

dispatched_refusal : (o : Dispatch) (t : List ℕ) (e f : Refusal) → IsRefusalOfDispatch o t e → IsRefusalOfDispatch o t f → e ≡ f
dispatched_refusal (refused_as refusal) t e f is also = sym is ∙ also
dispatched_refusal (parsed_as kind) t e f is also = only_refusal kind t e f is also

pub refusals_are_unique : RefusalsAreUnique
refusals_are_unique literal_parse t e f is also = dispatched_refusal (dispatch t) t e f is also
refusals_are_unique (kind_parse kind) t e f is also = only_refusal kind t e f is also

-- A derivation or a refusal

by_option : {A : Type 0} (o : Option Refusal) → (o ≡ None → A) → A ⊎ ((e : Refusal) × (o ≡ Some e))
by_option None read = inl (read refl)
by_option (Some e) read = inr (e, refl)

-- the text by its start
abbrev pub StartSays : StringStart → (quoted raw : Bool) → Type 0
StartSays start quoted raw = (start ≡ quoted_start → quoted ≡ true) × (start ≡ raw_start → raw ≡ true)

start_says : (empty quoted raw : Bool) (e f : Refusal) →
    StartSays (if empty then refused_start e else if quoted then quoted_start else if raw then raw_start else refused_start f) quoted raw
start_says true quoted raw e f = (λ is. cc, λ is. cc)
start_says false true raw e f = (λ is. refl, λ is. cc)
start_says false false true e f = (λ is. cc, λ is. refl)
start_says false false false e f = (λ is. cc, λ is. cc)

pub string_start_says : (kind : StringKind) (t : List ℕ) → StartSays (string_start kind t) (begins_with (quoted_front kind) t) (begins_with (raw_front kind) t)
string_start_says kind t =
    start_says (is_empty t) (begins_with (quoted_front kind) t) (begins_with (raw_front kind) t) (without_span Empty) (string_start_refusal kind)

abbrev IsStringDecided : StringKind → StringStart → List ℕ → Type 0
IsStringDecided kind start t = ((d : StringParts) × IsString kind t d) ⊎ ((e : Refusal) × IsRefusalOfStart kind start t e)

quoted_decided : (kind : StringKind) (t : List ℕ) → begins_with (quoted_front kind) t ≡ true → IsStringDecided kind quoted_start t
quoted_decided kind t begins =
    subst (λ s. IsStringDecided kind quoted_start s) (begins_with-split (quoted_front kind) t begins)
    (elim (quoted_texts_are_decided (quoted_front kind) (switches_of kind) (drop (length (quoted_front kind)) t)) [
      | inl r ↦ inl (quoted_parts r.0, r.1)
      | inr r ↦ inr r
    ])

raw_decided : (kind : StringKind) (t : List ℕ) → begins_with (raw_front kind) t ≡ true → IsStringDecided kind raw_start t
raw_decided kind t begins =
    by_option (raw_literal_refusal kind t) (λ none. let r = literal_derivable kind t begins none in (raw_parts r.0, r.1))

started_decided : (kind : StringKind) (start : StringStart) (t : List ℕ) → StartSays start (begins_with (quoted_front kind) t) (begins_with (raw_front kind) t) →
    IsStringDecided kind start t
started_decided kind (refused_start refusal) t says = inr (refusal, refl)
started_decided kind quoted_start t says = quoted_decided kind t (says.0 refl)
started_decided kind raw_start t says = raw_decided kind t (says.1 refl)

string_decided : (kind : StringKind) (t : List ℕ) → IsStringDecided kind (string_start kind t) t
string_decided kind t = started_decided kind (string_start kind t) t (string_start_says kind t)

-- of what is derived, by a constructor of derivations
named : {D : Type 0} (kind : LiteralKind) (t : List ℕ) (name : D → Derivation) (Derives : D → Type 0) (Refuses : Refusal → Type 0) →
    ((d : D) → Derives d → IsLiteralOf (kind_parse kind) t (name d)) → ((d : D) × Derives d) ⊎ ((e : Refusal) × Refuses e) →
    ((d : Derivation) × IsLiteralOf (kind_parse kind) t d) ⊎ ((e : Refusal) × Refuses e)
named kind t name Derives Refuses is (inl r) = inl (name r.0, is r.0 r.1)
named kind t name Derives Refuses is (inr r) = inr r

bool_derivable : (t : List ℕ) → bool_refusal t ≡ None → (b : Bool) × (bool_text b ≡ t)
bool_derivable t none = some_bool t (read (is_bool t) none)
  where
    read : (v : Bool) → (if v then None else Some (without_span InvalidLiteral)) ≡ None → v ≡ true
    read true h = refl
    read false h = cc

kind_decided : (kind : LiteralKind) (t : List ℕ) → ((d : Derivation) × IsLiteralOf (kind_parse kind) t d) ⊎ ((e : Refusal) × IsKindRefusal kind t e)
kind_decided bool_literal t = by_option (bool_refusal t) (λ none. let r = bool_derivable t none in (a_bool r.0, (refl, r.1)))
kind_decided integer_literal t = by_option (integer_refusal t) (λ none. (an_integer (integer_cut t), (refl, derivable_integer t none)))
kind_decided float_literal t = by_option (float_refusal t) (λ none. let r = derivable t none in (a_float r.0, (refl, r.1)))
kind_decided char_literal t = by_option (char_kind_refusal char_kind t) (λ none. let r = (chars_are_decided char_kind t).0 none in (a_char r.0, (refl, r.1)))
kind_decided byte_literal t = by_option (char_kind_refusal byte_kind t) (λ none. let r = (chars_are_decided byte_kind t).0 none in (a_byte r.0, (refl, r.1)))
kind_decided string_literal t = named string_literal t a_string (IsString string_kind t) (IsStringRefusal string_kind t) (λ d r. (refl, r)) (string_decided string_kind t)
kind_decided byte_string_literal t = named byte_string_literal t a_byte_string (IsString byte_string_kind t) (IsStringRefusal byte_string_kind t) (λ d r. (refl, r)) (string_decided byte_string_kind t)
kind_decided c_string_literal t = named c_string_literal t a_c_string (IsString c_string_kind t) (IsStringRefusal c_string_kind t) (λ d r. (refl, r)) (string_decided c_string_kind t)

dispatched_decided : (o : Dispatch) (t : List ℕ) → ((d : Derivation) × IsLiteral t d) ⊎ ((e : Refusal) × IsRefusalOfDispatch o t e)
dispatched_decided (refused_as refusal) t = inr (refusal, refl)
dispatched_decided (parsed_as kind) t = elim (kind_decided kind t) [
  | inl r ↦ inl (r.0, r.1.1)
  | inr r ↦ inr r
]

pub texts_are_decided : TextsAreDecided
texts_are_decided literal_parse t = dispatched_decided (dispatch t) t
texts_are_decided (kind_parse kind) t = kind_decided kind t
