-- The refusals of the nine parses under every appended text.
use Rattle.std.proofs.Common.{◌≡◌, ℕ, Bool, true, false, List, [], ◌∷◌, ◌++◌, ◌+◌, ◌⊎◌, length, drop, Some, None, refl, sym, ap, ◌∙◌, subst, inl, inr, append_assoc}
use Rattle.std.specs.Prelude.{◌↔◌, if◌then◌else◌}
use Rattle.std.specs.List.{list_all}
use Rattle.std.proofs.lemmas.Bool.{both_ways}
use Rattle.std.proofs.lemmas.List.{append-nil, append_cancel_left, append_cancel_right}
use Rattle.litrs_base.specs.declared.err.ParseErrorKind.TheVariants.{InvalidLiteral}
use Rattle.litrs_base.specs.Finality.{is_final, is_open}
use Rattle.litrs_base.specs.Refusal.{Refusal, without_span}
use Rattle.litrs_base.specs.declared.quotes.StringKind.{StringKind}
use Rattle.litrs_base.specs.declared.quotes.StringKind.TheVariants.{String as string_kind, ByteString as byte_string_kind, CString as c_string_kind}
use Rattle.litrs_base.specs.Quotes.{switches_of, quoted_front, raw_front}
use Rattle.litrs_base.specs.declared.quotes.CharKind.TheVariants.{Char as char_kind, Byte as byte_kind}
use Rattle.litrs_grammar.specs.Bool.{is_bool, IsBool}
use Rattle.litrs_grammar.specs.Integer.{IntegerParts, IsIntegerOf, integer_refusal}
use Rattle.litrs_grammar.specs.Float.{FloatParts, IsFloatOf}
use Rattle.litrs_grammar.specs.CharByte.{CharParts, IsCharLiteral}
use Rattle.litrs_grammar.specs.Quoted.{IsQuotedLiteralRefusal}
use Rattle.litrs_grammar.specs.Raw.{raw_closing, hashes, hash_len, RawParts, IsRawLiteral, IsRawOf, has_unicode, allows_nul, raw_refusal}
use Rattle.litrs_grammar.specs.Literal.{StringParts, string_suffix, quoted_parts, raw_parts, IsString, Derivation, a_bool, an_integer, a_float, a_char, a_byte, a_string, a_byte_string, a_c_string, IsLiteral, LiteralKind, bool_literal, integer_literal, float_literal, char_literal, byte_literal, string_literal, byte_string_literal, c_string_literal, literal_kind, literal_parse, kind_parse, IsLiteralOf, Begins, string_literal_of}
use Rattle.litrs_grammar.specs.LiteralRefusals.{StringStart, refused_start, quoted_start, raw_start, string_start, IsRefusalOfStart, IsStringRefusal, IsKindRefusal, Dispatch, refused_as, parsed_as, dispatch, IsRefusalOfDispatch}
use Rattle.litrs_grammar.specs.Closing.{after_raw_front, closing_text, closing_of, opening_text, written_body, IsClosedBy}
use Rattle.litrs_grammar.specs.LongerTexts.{BeginsBy, EndsBy}
use Rattle.litrs_grammar.specs.GoesOn.Raw.{raw_open_parts}
use Rattle.litrs_grammar.specs.GoesOn.{StartGoesOn, KindGoesOn, DispatchedGoesOn}
use Rattle.litrs_grammar.specs.Laws.LongerTexts.{FinalRefusalsStay, OpenRefusalsClose, LineEndsAreDecided, RefusedTextsGoOn}
use Rattle.litrs_base.proofs.Runs.{last_passes, is_line_feed, line_feed_last}
use Rattle.litrs_grammar.proofs.LongerTexts.OpenRows.{is_open_row, shut_if, shut_number, shut_suffix}
use Rattle.litrs_grammar.proofs.Laws.Literal.{dispatch_literal, dispatch_refusal}
use Rattle.litrs_grammar.proofs.RawKinds.{after_front}
use Rattle.litrs_grammar.proofs.LongerTexts.Suffix.{front_of}
use Rattle.litrs_grammar.proofs.LineFeeds.{is_other, no_line_feed}
use Rattle.litrs_grammar.proofs.LongerTexts.Bool.{bool_begins, bool_line_end}
use Rattle.litrs_grammar.proofs.LongerTexts.Integer.{integer_finality, integer_goes_on, integer_line_end}
use Rattle.litrs_grammar.proofs.LongerTexts.Float.{float_begins, float_finality, float_not_open, float_line_end}
use Rattle.litrs_grammar.proofs.LongerTexts.CharByte.{char_begins, char_finality, char_not_open, char_line_end}
use Rattle.litrs_grammar.proofs.LongerTexts.Quoted.{quoted_finality, quoted_open, quoted_open_kind, quoted_begins, quoted_line_end}
use Rattle.litrs_grammar.proofs.LongerTexts.Raw.{raw_finality, raw_begins, raw_open, raw_open_kind, raw_line_end}
use Rattle.litrs_grammar.proofs.LongerTexts.Dispatch.{dispatch_stays, literal_begins, undispatched_begins, undispatched_line_end}
use Rattle.litrs_grammar.proofs.LongerTexts.String.{after_raw, quoted_string_ends, quoted_string_begins, raw_string_ends, raw_string_begins, start_begins, start_line_end, start_not_open, start_final, raw_other}

-- The parts of one kind

abbrev pub Parts : LiteralKind → Type 0
Parts bool_literal = Bool
Parts integer_literal = IntegerParts
Parts float_literal = FloatParts
Parts char_literal = CharParts
Parts byte_literal = CharParts
Parts string_literal = StringParts
Parts byte_string_literal = StringParts
Parts c_string_literal = StringParts

abbrev pub HasParts : (kind : LiteralKind) → List ℕ → Parts kind → Type 0
HasParts bool_literal t d = IsBool t d
HasParts integer_literal t d = IsIntegerOf t d
HasParts float_literal t d = IsFloatOf t d
HasParts char_literal t d = IsCharLiteral char_kind t d
HasParts byte_literal t d = IsCharLiteral byte_kind t d
HasParts string_literal t d = IsString string_kind t d
HasParts byte_string_literal t d = IsString byte_string_kind t d
HasParts c_string_literal t d = IsString c_string_kind t d

parts_of_literal : (t : List ℕ) (d : Derivation) → IsLiteral t d → (p : Parts (literal_kind d)) × HasParts (literal_kind d) t p
parts_of_literal t (a_bool d) r = (d, r)
parts_of_literal t (an_integer d) r = (d, r)
parts_of_literal t (a_float d) r = (d, r)
parts_of_literal t (a_char d) r = (d, r)
parts_of_literal t (a_byte d) r = (d, r)
parts_of_literal t (a_string d) r = (d, r)
parts_of_literal t (a_byte_string d) r = (d, r)
parts_of_literal t (a_c_string d) r = (d, r)

parts_of_kind : (kind : LiteralKind) (t : List ℕ) (d : Derivation) → IsLiteralOf (kind_parse kind) t d → (p : Parts kind) × HasParts kind t p
parts_of_kind kind t d (same, r) = subst (λ k. (p : Parts k) × HasParts k t p) same (parts_of_literal t d r)

literal_of_parts : (kind : LiteralKind) (t : List ℕ) (p : Parts kind) → HasParts kind t p → (d : Derivation) × IsLiteralOf (kind_parse kind) t d
literal_of_parts bool_literal t p r = (a_bool p, (refl, r))
literal_of_parts integer_literal t p r = (an_integer p, (refl, r))
literal_of_parts float_literal t p r = (a_float p, (refl, r))
literal_of_parts char_literal t p r = (a_char p, (refl, r))
literal_of_parts byte_literal t p r = (a_byte p, (refl, r))
literal_of_parts string_literal t p r = (a_string p, (refl, r))
literal_of_parts byte_string_literal t p r = (a_byte_string p, (refl, r))
literal_of_parts c_string_literal t p r = (a_c_string p, (refl, r))

ends_kind : (kind : LiteralKind) (t : List ℕ) → EndsBy (HasParts kind) t → EndsBy (IsLiteralOf (kind_parse kind)) t
ends_kind kind t none x d lit = let p = parts_of_kind kind (t ++ x) d lit in none x p.0 p.1

pub begins_kind : (kind : LiteralKind) (t : List ℕ) → Begins (kind_parse kind) t ↔ BeginsBy (HasParts kind) t
begins_kind kind t = (
  λ begins. let p = parts_of_kind kind (t ++ begins.0) begins.1 begins.3 in (begins.0, p.0, begins.2, p.1),
  λ begins. let d = literal_of_parts kind (t ++ begins.0) begins.1 begins.3 in (begins.0, d.0, begins.2, d.1),
)

-- one equivalence after the other
pub chain : {A B C : Type 0} → A ↔ B → B ↔ C → A ↔ C
chain f g = (λ a. g.0 (f.0 a), λ c. f.1 (g.1 c))

pub back : {A B : Type 0} → A ↔ B → B ↔ A
back f = (f.1, f.0)

-- if neither holds
neither : {A : Type 0} (b : Bool) → b ≡ false → (A → ⊥) → (b ≡ true) ↔ A
neither b shut none = (λ h. absurd (both_ways b shut h), λ a. absurd (none a))

-- Raw literals, by what follows their front

raw_literal : (kind : StringKind) (u x : List ℕ) (d : RawParts) → IsRawOf (has_unicode kind) (allows_nul kind) (u ++ x) d → IsRawLiteral kind ((raw_front kind ++ u) ++ x) d
raw_literal kind u x d r = record { spells = ap (λ l. raw_front kind ++ l) r.spells ∙ sym (append_assoc (raw_front kind) u x); grammar = r.grammar }

raw_after : (kind : StringKind) (u x : List ℕ) (d : RawParts) → IsRawLiteral kind ((raw_front kind ++ u) ++ x) d → IsRawOf (has_unicode kind) (allows_nul kind) (u ++ x) d
raw_after kind u x d r = after_front kind (u ++ x) ((raw_front kind ++ u) ++ x) d (sym (append_assoc (raw_front kind) u x)) r

pub raw_begins_after : (kind : StringKind) (u : List ℕ) → BeginsBy (IsRawLiteral kind) (raw_front kind ++ u) ↔ BeginsBy (IsRawOf (has_unicode kind) (allows_nul kind)) u
raw_begins_after kind u = (
  λ begins. (begins.0, begins.1, begins.2, raw_after kind u begins.0 begins.1 begins.3),
  λ begins. (begins.0, begins.1, begins.2, raw_literal kind u begins.0 begins.1 begins.3),
)

-- LF ends what follows the front
after_line : (kind : StringKind) (u t : List ℕ) → raw_front kind ++ u ≡ t ++ 10 ∷ [] → (z : List ℕ) × (u ≡ z ++ 10 ∷ [])
after_line kind u t same = elim (front_of t (raw_front kind) (10 ∷ []) u (sym same)) [
  | inl (z, s) ↦ (z, append_cancel_left (raw_front kind) _ _ (same ∙ ap (λ l. l ++ 10 ∷ []) s ∙ append_assoc (raw_front kind) z (10 ∷ [])))
  | inr (c, z, s) ↦ absurd (
      let tails : 10 ∷ [] ≡ c ∷ (z ++ u) = append_cancel_left t _ _ (sym same ∙ ap (λ l. l ++ u) s ∙ append_assoc t (c ∷ z) u) in
      let at : 10 ≡ c = cc in
      no_line_feed t z (ap (list_all is_other) (append_assoc t (10 ∷ []) z ∙ ap (λ n. t ++ n ∷ z) at ∙ sym s) ∙ raw_other kind))
]

-- Strings

start_ends : (kind : StringKind) (start : StringStart) (t : List ℕ) (e : Refusal) → string_start kind t ≡ start → IsRefusalOfStart kind start t e → is_final e.kind ≡ true → EndsBy (IsString kind) t
start_ends kind (refused_start refusal) t e is refused final = start_final kind t e (is ∙ ap refused_start refused) final
start_ends kind quoted_start t e is refused final = quoted_string_ends kind t is (quoted_finality (quoted_front kind) (switches_of kind) t e refused final)
start_ends kind raw_start t e is refused final =
    let u = drop (length (raw_front kind)) t in
    raw_string_ends kind t is (λ x d lit.
    raw_finality (has_unicode kind) (allows_nul kind) (length (raw_front kind)) u e refused final x d
    (raw_after kind u x d (subst (λ l. IsRawLiteral kind (l ++ x) d) (sym (after_raw kind t is)) lit)))

start_goes : (kind : StringKind) (start : StringStart) (t : List ℕ) (e : Refusal) → string_start kind t ≡ start → IsRefusalOfStart kind start t e → BeginsBy (IsString kind) t ↔ StartGoesOn kind start t
start_goes kind (refused_start refusal) t e is refused = start_begins kind t refusal is
start_goes kind quoted_start t e is refused = chain (quoted_string_begins kind t is) (quoted_begins (quoted_front kind) (switches_of kind) t e refused)
start_goes kind raw_start t e is refused =
    let u = drop (length (raw_front kind)) t in
    chain (raw_string_begins kind t is)
    (chain (subst (λ l. BeginsBy (IsRawLiteral kind) l ↔ BeginsBy (IsRawOf (has_unicode kind) (allows_nul kind)) u) (after_raw kind t is) (raw_begins_after kind u))
    (raw_begins (has_unicode kind) (allows_nul kind) (length (raw_front kind)) u e refused))

start_line : (kind : StringKind) (start : StringStart) (t : List ℕ) (e : Refusal) → string_start kind (t ++ 10 ∷ []) ≡ start → IsRefusalOfStart kind start (t ++ 10 ∷ []) e →
    (is_open e.kind ≡ true) ↔ BeginsBy (IsString kind) (t ++ 10 ∷ [])
start_line kind (refused_start refusal) t e is refused =
    neither (is_open e.kind) (start_not_open kind (t ++ 10 ∷ []) e (is ∙ ap refused_start refused)) (λ begins. start_line_end kind t refusal is begins.0 begins.1 begins.3)
start_line kind quoted_start t e is refused =
    chain (quoted_line_end (quoted_front kind) (switches_of kind) t e refused) (back (quoted_string_begins kind (t ++ 10 ∷ []) is))
start_line kind raw_start t e is refused =
    let u = drop (length (raw_front kind)) (t ++ 10 ∷ []) in
    let spelled : raw_front kind ++ u ≡ t ++ 10 ∷ [] = after_raw kind (t ++ 10 ∷ []) is in
    let z = after_line kind u t spelled in
    let last : last_passes is_line_feed u ≡ true = ap (last_passes is_line_feed) z.1 ∙ line_feed_last z.0 in
    let at_line : (is_open e.kind ≡ true) ↔ BeginsBy (IsRawOf (has_unicode kind) (allows_nul kind)) u =
    raw_line_end (has_unicode kind) (allows_nul kind) (length (raw_front kind)) u e last refused in
    chain at_line
    (chain (back (subst (λ l. BeginsBy (IsRawLiteral kind) l ↔ BeginsBy (IsRawOf (has_unicode kind) (allows_nul kind)) u) spelled (raw_begins_after kind u)))
    (back (raw_string_begins kind (t ++ 10 ∷ []) is)))

-- a string of the kind without suffix, whose body is all of the text after the opening
record IsClosedString (kind : StringKind) (t closing : List ℕ) : Type 0 where
  parts : StringParts
  literal : IsString kind (t ++ closing) parts
  no_suffix : string_suffix parts ≡ []
  body : opening_text kind parts ++ written_body parts ≡ t

quoted_closes : (kind : StringKind) (t : List ℕ) (e : Refusal) → IsQuotedLiteralRefusal kind t e → is_open e.kind ≡ true → IsClosedString kind t (closing_of t e)
quoted_closes kind t e refused is =
    let shut = quoted_open (quoted_front kind) (switches_of kind) t e is refused in
    subst (λ k. IsClosedString kind t (closing_text t k)) (quoted_open_kind (quoted_front kind) (switches_of kind) t e is refused)
    (record { parts = quoted_parts (record { items = shut.items; suffix = [] }); literal = shut.literal; no_suffix = refl; body = shut.body })

after_is : (kind : StringKind) (u : List ℕ) → after_raw_front (raw_front kind ++ u) ≡ u
after_is string_kind u = refl
after_is byte_string_kind u = refl
after_is c_string_kind u = refl

raw_closed : (kind : StringKind) (u : List ℕ) (e : Refusal) → raw_refusal (has_unicode kind) (allows_nul kind) (length (raw_front kind)) u ≡ Some e → is_open e.kind ≡ true →
    IsClosedString kind (raw_front kind ++ u) (closing_of (raw_front kind ++ u) e)
raw_closed kind u e refused is =
    let n = hash_len u in
    let body = drop (n + 1) u in
    let shut = raw_open (has_unicode kind) (allows_nul kind) (length (raw_front kind)) u e is refused in
    let spelled : (hashes n ++ 34 ∷ body) ++ raw_closing n ≡ u ++ raw_closing n =
    append_assoc (hashes n) (34 ∷ body) (raw_closing n) ∙ ap (λ l. hashes n ++ 34 ∷ (body ++ l)) (sym (append-nil (raw_closing n))) ∙ shut.spells in
    let whole : hashes n ++ 34 ∷ body ≡ u = append_cancel_right _ _ (raw_closing n) spelled in
    subst (λ k. IsClosedString kind (raw_front kind ++ u) (closing_text (raw_front kind ++ u) k)) (raw_open_kind (has_unicode kind) (allows_nul kind) (length (raw_front kind)) u e is refused)
    (subst (λ l. IsClosedString kind (raw_front kind ++ u) (raw_closing (hash_len l))) (sym (after_is kind u))
    (record {
      parts = raw_parts (raw_open_parts u);
      literal = raw_literal kind u (raw_closing n) (raw_open_parts u) shut;
      no_suffix = refl;
      body = append_assoc (raw_front kind) (hashes n ++ 34 ∷ []) body ∙ ap (λ l. raw_front kind ++ l) (append_assoc (hashes n) (34 ∷ []) body ∙ whole);
    }))

start_closes : (kind : StringKind) (start : StringStart) (t : List ℕ) (e : Refusal) → string_start kind t ≡ start → IsRefusalOfStart kind start t e → is_open e.kind ≡ true →
    IsClosedString kind t (closing_of t e)
start_closes kind (refused_start refusal) t e is refused shut = absurd (both_ways (is_open e.kind) (start_not_open kind t e (is ∙ ap refused_start refused)) shut)
start_closes kind quoted_start t e is refused shut = quoted_closes kind t e refused shut
start_closes kind raw_start t e is refused shut =
    subst (λ l. IsClosedString kind l (closing_of l e)) (after_raw kind t is) (raw_closed kind (drop (length (raw_front kind)) t) e refused shut)

-- One kind

bool_kind : (t : List ℕ) (b : Bool) (e : Refusal) → (if b then None else Some (without_span InvalidLiteral)) ≡ Some e → without_span InvalidLiteral ≡ e
bool_kind t true e h = cc
bool_kind t false e h = cc

kind_ends : (kind : LiteralKind) (t : List ℕ) (e : Refusal) → IsKindRefusal kind t e → is_final e.kind ≡ true → EndsBy (HasParts kind) t
kind_ends bool_literal t e h final = absurd (let f : is_final InvalidLiteral ≡ true = ap (λ r. is_final r.kind) (bool_kind t (is_bool t) e h) ∙ final in cc)
kind_ends integer_literal t e h final = integer_finality t e h final
kind_ends float_literal t e h final = float_finality t e h final
kind_ends char_literal t e h final = char_finality char_kind t e h final
kind_ends byte_literal t e h final = char_finality byte_kind t e h final
kind_ends string_literal t e h final = start_ends string_kind (string_start string_kind t) t e refl h final
kind_ends byte_string_literal t e h final = start_ends byte_string_kind (string_start byte_string_kind t) t e refl h final
kind_ends c_string_literal t e h final = start_ends c_string_kind (string_start c_string_kind t) t e refl h final

kind_goes : (kind : LiteralKind) (t : List ℕ) (e : Refusal) → IsKindRefusal kind t e → BeginsBy (HasParts kind) t ↔ KindGoesOn kind t
kind_goes bool_literal t e h = bool_begins t
kind_goes integer_literal t e h = integer_goes_on t e h
kind_goes float_literal t e h = float_begins t e h
kind_goes char_literal t e h = char_begins char_kind t e h
kind_goes byte_literal t e h = char_begins byte_kind t e h
kind_goes string_literal t e h = start_goes string_kind (string_start string_kind t) t e refl h
kind_goes byte_string_literal t e h = start_goes byte_string_kind (string_start byte_string_kind t) t e refl h
kind_goes c_string_literal t e h = start_goes c_string_kind (string_start c_string_kind t) t e refl h

open_integer : (t : List ℕ) → is_open_row (integer_refusal t) ≡ false
unfolding integer_refusal
open_integer t = search (shut_number, shut_if, shut_suffix)

-- the kinds that have no open refusal
shut_kind : (kind : LiteralKind) (t : List ℕ) (e : Refusal) → IsKindRefusal kind t e → (is_open e.kind ≡ false) ⊎ ((k : StringKind) × (string_literal_of k ≡ kind))
shut_kind bool_literal t e h = inl (ap (λ r. is_open r.kind) (sym (bool_kind t (is_bool t) e h)))
shut_kind integer_literal t e h = inl (sym (ap is_open_row h) ∙ open_integer t)
shut_kind float_literal t e h = inl (float_not_open t e h)
shut_kind char_literal t e h = inl (char_not_open char_kind t e h)
shut_kind byte_literal t e h = inl (char_not_open byte_kind t e h)
shut_kind string_literal t e h = inr (string_kind, refl)
shut_kind byte_string_literal t e h = inr (byte_string_kind, refl)
shut_kind c_string_literal t e h = inr (c_string_kind, refl)

closed_string : (kind : StringKind) (t : List ℕ) (e : Refusal) → IsStringRefusal kind t e → is_open e.kind ≡ true → IsClosedBy (IsLiteralOf (kind_parse (string_literal_of kind))) t (closing_of t e)
closed_string kind t e h is = by kind (start_closes kind (string_start kind t) t e refl h is)
  where
    by : (kind : StringKind) → IsClosedString kind t (closing_of t e) → IsClosedBy (IsLiteralOf (kind_parse (string_literal_of kind))) t (closing_of t e)
    by string_kind shut = record { kind = string_kind; parts = shut.parts; literal = (refl, shut.literal); no_suffix = shut.no_suffix; body = shut.body }
    by byte_string_kind shut = record { kind = byte_string_kind; parts = shut.parts; literal = (refl, shut.literal); no_suffix = shut.no_suffix; body = shut.body }
    by c_string_kind shut = record { kind = c_string_kind; parts = shut.parts; literal = (refl, shut.literal); no_suffix = shut.no_suffix; body = shut.body }

kind_closes : (kind : LiteralKind) (t : List ℕ) (e : Refusal) → IsKindRefusal kind t e → is_open e.kind ≡ true → IsClosedBy (IsLiteralOf (kind_parse kind)) t (closing_of t e)
kind_closes kind t e h is = elim (shut_kind kind t e h) [
  | inl shut ↦ absurd (both_ways (is_open e.kind) shut is)
  | inr (k, same) ↦ by k kind same h
]
  where
    by : (k : StringKind) (kind : LiteralKind) → string_literal_of k ≡ kind → IsKindRefusal kind t e → IsClosedBy (IsLiteralOf (kind_parse kind)) t (closing_of t e)
    by k kind same refused =
        subst (λ m. IsClosedBy (IsLiteralOf (kind_parse m)) t (closing_of t e)) same (of k (subst (λ m. IsKindRefusal m t e) (sym same) refused))
      where
        of : (k : StringKind) → IsKindRefusal (string_literal_of k) t e → IsClosedBy (IsLiteralOf (kind_parse (string_literal_of k))) t (closing_of t e)
        of string_kind g = closed_string string_kind t e g is
        of byte_string_kind g = closed_string byte_string_kind t e g is
        of c_string_kind g = closed_string c_string_kind t e g is

kind_line : (kind : LiteralKind) (t : List ℕ) (e : Refusal) → IsKindRefusal kind (t ++ 10 ∷ []) e → (is_open e.kind ≡ true) ↔ BeginsBy (HasParts kind) (t ++ 10 ∷ [])
kind_line bool_literal t e h =
    neither (is_open e.kind) (ap (λ r. is_open r.kind) (sym (bool_kind t (is_bool (t ++ 10 ∷ [])) e h))) (λ begins. bool_line_end t begins.0 begins.1 begins.3)
kind_line integer_literal t e h =
    neither (is_open e.kind) (sym (ap is_open_row h) ∙ open_integer (t ++ 10 ∷ [])) (λ begins. integer_line_end t begins.0 begins.1 begins.3)
kind_line float_literal t e h = neither (is_open e.kind) (float_not_open (t ++ 10 ∷ []) e h) (λ begins. float_line_end t begins.0 begins.1 begins.3)
kind_line char_literal t e h = char_line_end char_kind t e h
kind_line byte_literal t e h = char_line_end byte_kind t e h
kind_line string_literal t e h = start_line string_kind (string_start string_kind (t ++ 10 ∷ [])) t e refl h
kind_line byte_string_literal t e h = start_line byte_string_kind (string_start byte_string_kind (t ++ 10 ∷ [])) t e refl h
kind_line c_string_literal t e h = start_line c_string_kind (string_start c_string_kind (t ++ 10 ∷ [])) t e refl h

-- All kinds, by the dispatch

-- a longer text is a literal of the kind that the table is named for
pub own_kind : (t x : List ℕ) (k : LiteralKind) (d : Derivation) (e : Refusal) → dispatch t ≡ parsed_as k → IsKindRefusal k t e → IsLiteral (t ++ x) d → literal_kind d ≡ k
own_kind t x k d e named refused lit =
    let same : parsed_as (literal_kind d) ≡ parsed_as k = sym (dispatch_literal (t ++ x) d lit) ∙ dispatch_stays t x k e named refused in cc

pub undispatched_not_final : (t : List ℕ) (e : Refusal) → dispatch t ≡ refused_as e → is_final e.kind ≡ false
undispatched_not_final t e is = dispatch_refusal (λ r. is_final r.kind ≡ false) t e refl refl is

pub undispatched_not_open : (t : List ℕ) (e : Refusal) → dispatch t ≡ refused_as e → is_open e.kind ≡ false
undispatched_not_open t e is = dispatch_refusal (λ r. is_open r.kind ≡ false) t e refl refl is

dispatched_ends : (o : Dispatch) (t : List ℕ) (e : Refusal) → dispatch t ≡ o → IsRefusalOfDispatch o t e → is_final e.kind ≡ true → EndsBy IsLiteral t
dispatched_ends (refused_as refusal) t e named refused final = absurd (both_ways _ (undispatched_not_final t e (named ∙ ap refused_as refused)) final)
dispatched_ends (parsed_as k) t e named refused final =
    λ x d lit. ends_kind k t (kind_ends k t e refused final) x d (own_kind t x k d e named refused lit, lit)

dispatched_goes : (o : Dispatch) (t : List ℕ) (e : Refusal) → dispatch t ≡ o → IsRefusalOfDispatch o t e → Begins literal_parse t ↔ DispatchedGoesOn o t
dispatched_goes (refused_as refusal) t e named refused = undispatched_begins t refusal named
dispatched_goes (parsed_as k) t e named refused = chain (literal_begins t k e named refused) (chain (begins_kind k t) (kind_goes k t e refused))

dispatched_line : (o : Dispatch) (t : List ℕ) (e : Refusal) → dispatch (t ++ 10 ∷ []) ≡ o → IsRefusalOfDispatch o (t ++ 10 ∷ []) e → (is_open e.kind ≡ true) ↔ Begins literal_parse (t ++ 10 ∷ [])
dispatched_line (refused_as refusal) t e named refused =
    neither (is_open e.kind) (undispatched_not_open (t ++ 10 ∷ []) e (named ∙ ap refused_as refused)) (λ begins. undispatched_line_end t ((undispatched_begins (t ++ 10 ∷ []) refusal named).0 begins))
dispatched_line (parsed_as k) t e named refused =
    chain (kind_line k t e refused) (chain (back (begins_kind k (t ++ 10 ∷ []))) (back (literal_begins (t ++ 10 ∷ []) k e named refused)))

any_kind : (k : LiteralKind) (t closing : List ℕ) → IsClosedBy (IsLiteralOf (kind_parse k)) t closing → IsClosedBy (IsLiteralOf literal_parse) t closing
any_kind k t closing shut = record { kind = shut.kind; parts = shut.parts; literal = shut.literal.1; no_suffix = shut.no_suffix; body = shut.body }

dispatched_closes : (o : Dispatch) (t : List ℕ) (e : Refusal) → dispatch t ≡ o → IsRefusalOfDispatch o t e → is_open e.kind ≡ true → IsClosedBy (IsLiteralOf literal_parse) t (closing_of t e)
dispatched_closes (refused_as refusal) t e named refused is = absurd (both_ways _ (undispatched_not_open t e (named ∙ ap refused_as refused)) is)
dispatched_closes (parsed_as k) t e named refused is = any_kind k t (closing_of t e) (kind_closes k t e refused is)

-- The laws

pub final_refusals_stay : FinalRefusalsStay
final_refusals_stay literal_parse t r refused final = dispatched_ends (dispatch t) t r refl refused final
final_refusals_stay (kind_parse kind) t r refused final = ends_kind kind t (kind_ends kind t r refused final)

pub open_refusals_close : OpenRefusalsClose
open_refusals_close literal_parse t r refused is = dispatched_closes (dispatch t) t r refl refused is
open_refusals_close (kind_parse kind) t r refused is = kind_closes kind t r refused is

pub line_ends_are_decided : LineEndsAreDecided
line_ends_are_decided literal_parse t r refused = dispatched_line (dispatch (t ++ 10 ∷ [])) t r refl refused
line_ends_are_decided (kind_parse kind) t r refused = chain (kind_line kind t r refused) (back (begins_kind kind (t ++ 10 ∷ [])))

pub refused_texts_go_on : RefusedTextsGoOn
refused_texts_go_on literal_parse t r refused = dispatched_goes (dispatch t) t r refl refused
refused_texts_go_on (kind_parse kind) t r refused = chain (begins_kind kind t) (kind_goes kind t r refused)
