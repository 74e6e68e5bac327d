-- Longer texts that start as strings.
use Rattle.std.proofs.Common.{◌≡◌, ℕ, Bool, true, false, List, [], ◌∷◌, ◌++◌, length, drop, refl, sym, ap, ◌∙◌, subst, arith, ◌⊎◌, inl, inr, append_assoc}
use Rattle.std.specs.Prelude.{◌↔◌, if◌then◌else◌}
use Rattle.std.specs.List.{list_all}
use Rattle.std.proofs.lemmas.Bool.{or_left, or_right, or_cases}
use Rattle.litrs_base.specs.declared.err.ParseErrorKind.TheVariants.{Empty}
use Rattle.litrs_base.specs.Characters.{is_scalar}
use Rattle.litrs_base.specs.Finality.{is_final, is_open}
use Rattle.litrs_base.specs.Refusal.{Refusal, without_span}
use Rattle.litrs_base.specs.Text.{begins_with, is_empty}
use Rattle.litrs_base.proofs.Begins.{begins_with-split, begins_with-append}
use Rattle.litrs_base.proofs.Runs.{list_all-append}
use Rattle.litrs_base.specs.declared.quotes.StringKind.{StringKind}
use Rattle.litrs_base.specs.declared.quotes.StringKind.TheVariants.{String as string_kind, ByteString as byte_string_kind, CString as c_string_kind}
use Rattle.litrs_base.specs.Quotes.{quoted_front, raw_front}
use Rattle.litrs_grammar.specs.Quoted.{QuotedParts, IsQuotedLiteral}
use Rattle.litrs_grammar.specs.Raw.{RawParts, IsRawLiteral}
use Rattle.litrs_grammar.specs.Literal.{StringParts, quoted_parts, raw_parts, IsString}
use Rattle.litrs_grammar.specs.LiteralRefusals.{refused_start, quoted_start, raw_start, string_start, string_start_refusal}
use Rattle.litrs_grammar.specs.LongerTexts.{BeginsBy, EndsBy}
use Rattle.litrs_grammar.specs.GoesOn.String.{start_goes_on}
use Rattle.litrs_grammar.proofs.Laws.Literal.{string_start_says, start_quoted, start_raw, quoted_starts, raw_starts}
use Rattle.litrs_grammar.proofs.LongerTexts.Suffix.{is_suffix-nil, front_of}
use Rattle.litrs_grammar.proofs.LongerTexts.Bool.{rest_is_text}
use Rattle.litrs_grammar.proofs.LineFeeds.{is_other, no_line_feed}

-- Quoted and raw starts

-- the text after the front that a text begins with
pub after_quoted : (kind : StringKind) (t : List ℕ) → string_start kind t ≡ quoted_start → quoted_front kind ++ drop (length (quoted_front kind)) t ≡ t
after_quoted kind t is = begins_with-split (quoted_front kind) t ((string_start_says kind t).0 is)

pub after_raw : (kind : StringKind) (t : List ℕ) → string_start kind t ≡ raw_start → raw_front kind ++ drop (length (raw_front kind)) t ≡ t
after_raw kind t is = begins_with-split (raw_front kind) t ((string_start_says kind t).1 is)

quoted_stays : (kind : StringKind) (t x : List ℕ) → string_start kind t ≡ quoted_start → string_start kind (t ++ x) ≡ quoted_start
quoted_stays kind t x is =
    ap (λ l. string_start kind (l ++ x)) (sym (after_quoted kind t is))
    ∙ ap (string_start kind) (append_assoc (quoted_front kind) (drop (length (quoted_front kind)) t) x) ∙ start_quoted kind _

raw_stays : (kind : StringKind) (t x : List ℕ) → string_start kind t ≡ raw_start → string_start kind (t ++ x) ≡ raw_start
raw_stays kind t x is =
    ap (λ l. string_start kind (l ++ x)) (sym (after_raw kind t is))
    ∙ ap (string_start kind) (append_assoc (raw_front kind) (drop (length (raw_front kind)) t) x) ∙ start_raw kind _

-- a string of the kind that a text begins is quoted if the text starts so
pub only_quoted : (kind : StringKind) (t x : List ℕ) (d : StringParts) → string_start kind t ≡ quoted_start → IsString kind (t ++ x) d → (q : QuotedParts) × IsQuotedLiteral kind (t ++ x) q
only_quoted kind t x (quoted_parts q) is lit = (q, lit)
only_quoted kind t x (raw_parts q) is lit = absurd (let both : quoted_start ≡ raw_start = sym (quoted_stays kind t x is) ∙ raw_starts kind (t ++ x) q lit in cc)

-- and raw if it starts so
pub only_raw : (kind : StringKind) (t x : List ℕ) (d : StringParts) → string_start kind t ≡ raw_start → IsString kind (t ++ x) d → (q : RawParts) × IsRawLiteral kind (t ++ x) q
only_raw kind t x (raw_parts q) is lit = (q, lit)
only_raw kind t x (quoted_parts q) is lit = absurd (let both : raw_start ≡ quoted_start = sym (raw_stays kind t x is) ∙ quoted_starts kind (t ++ x) q lit in cc)

pub quoted_string_ends : (kind : StringKind) (t : List ℕ) → string_start kind t ≡ quoted_start → EndsBy (IsQuotedLiteral kind) t → EndsBy (IsString kind) t
quoted_string_ends kind t is none x d lit = let q = only_quoted kind t x d is lit in none x q.0 q.1

pub quoted_string_begins : (kind : StringKind) (t : List ℕ) → string_start kind t ≡ quoted_start → BeginsBy (IsString kind) t ↔ BeginsBy (IsQuotedLiteral kind) t
quoted_string_begins kind t is = (
  λ begins. let q = only_quoted kind t begins.0 begins.1 is begins.3 in (begins.0, q.0, begins.2, q.1),
  λ begins. (begins.0, quoted_parts begins.1, begins.2, begins.3),
)

pub raw_string_ends : (kind : StringKind) (t : List ℕ) → string_start kind t ≡ raw_start → EndsBy (IsRawLiteral kind) t → EndsBy (IsString kind) t
raw_string_ends kind t is none x d lit = let q = only_raw kind t x d is lit in none x q.0 q.1

pub raw_string_begins : (kind : StringKind) (t : List ℕ) → string_start kind t ≡ raw_start → BeginsBy (IsString kind) t ↔ BeginsBy (IsRawLiteral kind) t
raw_string_begins kind t is = (
  λ begins. let q = only_raw kind t begins.0 begins.1 is begins.3 in (begins.0, q.0, begins.2, q.1),
  λ begins. (begins.0, raw_parts begins.1, begins.2, begins.3),
)

-- Texts that begin with neither front

-- one of the fronts is longer than the text, and begins with it
abbrev pub StartsFront : StringKind → List ℕ → Type 0
StartsFront kind t = ((c : ℕ) × (z : List ℕ) × (quoted_front kind ≡ t ++ c ∷ z)) ⊎ ((c : ℕ) × (z : List ℕ) × (raw_front kind ≡ t ++ c ∷ z))

pub starts_front : (kind : StringKind) (t x : List ℕ) (d : StringParts) (e : Refusal) → string_start kind t ≡ refused_start e → IsString kind (t ++ x) d → StartsFront kind t
starts_front kind t x (quoted_parts q) e is lit = elim (front_of t (quoted_front kind) x _ (sym lit.spells)) [
  | inr front ↦ inl front
  | inl (z, s) ↦ absurd (let both : quoted_start ≡ refused_start e = sym (ap (string_start kind) s ∙ start_quoted kind z) ∙ is in cc)
]
starts_front kind t x (raw_parts q) e is lit = elim (front_of t (raw_front kind) x _ (sym lit.spells)) [
  | inr front ↦ inr front
  | inl (z, s) ↦ absurd (let both : raw_start ≡ refused_start e = sym (ap (string_start kind) s ∙ start_raw kind z) ∙ is in cc)
]

front_goes_on : (kind : StringKind) (t : List ℕ) → StartsFront kind t → start_goes_on kind t ≡ true
front_goes_on kind t (inl (c, z, s)) = or_left _ _ (ap (begins_with t) s ∙ begins_with-append t (c ∷ z))
front_goes_on kind t (inr (c, z, s)) = or_right _ _ (ap (begins_with t) s ∙ begins_with-append t (c ∷ z))

quoted_scalar : (kind : StringKind) → list_all is_scalar (quoted_front kind) ≡ true
quoted_scalar string_kind = refl
quoted_scalar byte_string_kind = refl
quoted_scalar c_string_kind = refl

raw_scalar : (kind : StringKind) → list_all is_scalar (raw_front kind) ≡ true
raw_scalar string_kind = refl
raw_scalar byte_string_kind = refl
raw_scalar c_string_kind = refl

quoted_completes : (kind : StringKind) (t : List ℕ) → begins_with t (quoted_front kind) ≡ true → BeginsBy (IsString kind) t
quoted_completes kind t h =
    let rest = drop (length t) (quoted_front kind) in (
      rest ++ 34 ∷ [],
      quoted_parts (record { items = []; suffix = [] }),
      list_all-append is_scalar rest (34 ∷ []) (rest_is_text t (quoted_front kind) (quoted_scalar kind) h) refl,
      record {
        spells = ap (λ l. l ++ 34 ∷ []) (sym (begins_with-split t (quoted_front kind) h)) ∙ append_assoc t rest (34 ∷ []);
        body = refl;
        suffix = is_suffix-nil;
      },
    )

raw_completes : (kind : StringKind) (t : List ℕ) → begins_with t (raw_front kind) ≡ true → BeginsBy (IsString kind) t
raw_completes kind t h =
    let rest = drop (length t) (raw_front kind) in (
      rest ++ 34 ∷ 34 ∷ [],
      raw_parts (record { hash_count = 0; body = []; suffix = [] }),
      list_all-append is_scalar rest (34 ∷ 34 ∷ []) (rest_is_text t (raw_front kind) (raw_scalar kind) h) refl,
      record {
        spells = ap (λ l. l ++ 34 ∷ 34 ∷ []) (sym (begins_with-split t (raw_front kind) h)) ∙ append_assoc t rest (34 ∷ 34 ∷ []);
        grammar = record { hash_count = omega arith; body = record { allowed = refl; unclosed = refl }; suffix = is_suffix-nil };
      },
    )

-- a text that begins with neither front begins a string if and only if one of them begins with it
pub start_begins : (kind : StringKind) (t : List ℕ) (e : Refusal) → string_start kind t ≡ refused_start e → BeginsBy (IsString kind) t ↔ (start_goes_on kind t ≡ true)
start_begins kind t e is = (λ begins. front_goes_on kind t (starts_front kind t begins.0 begins.1 e is begins.3), from)
  where
    from : start_goes_on kind t ≡ true → BeginsBy (IsString kind) t
    from h = elim (or_cases (begins_with t (quoted_front kind)) (begins_with t (raw_front kind)) h) [
      | inl quoted ↦ quoted_completes kind t quoted
      | inr raw ↦ raw_completes kind t raw
    ]

pub quoted_other : (kind : StringKind) → list_all is_other (quoted_front kind) ≡ true
quoted_other string_kind = refl
quoted_other byte_string_kind = refl
quoted_other c_string_kind = refl

pub raw_other : (kind : StringKind) → list_all is_other (raw_front kind) ≡ true
raw_other string_kind = refl
raw_other byte_string_kind = refl
raw_other c_string_kind = refl

pub start_line_end : (kind : StringKind) (t : List ℕ) (e : Refusal) → string_start kind (t ++ 10 ∷ []) ≡ refused_start e → EndsBy (IsString kind) (t ++ 10 ∷ [])
start_line_end kind t e is x d lit = elim (starts_front kind (t ++ 10 ∷ []) x d e is lit) [
  | inl (c, z, s) ↦ no_line_feed t (c ∷ z) (ap (list_all is_other) (sym s) ∙ quoted_other kind)
  | inr (c, z, s) ↦ no_line_feed t (c ∷ z) (ap (list_all is_other) (sym s) ∙ raw_other kind)
]

-- the results of the rows
start_row : (P : Refusal → Type 0) (kind : StringKind) (t : List ℕ) (e : Refusal) → P (without_span Empty) → P (string_start_refusal kind) → (empty quoted raw : Bool) →
    (if empty then refused_start (without_span Empty) else if quoted then quoted_start else if raw then raw_start else refused_start (string_start_refusal kind)) ≡ refused_start e → P e
start_row P kind t e empty other true quoted raw is = subst P (let same : without_span Empty ≡ e = cc in same) empty
start_row P kind t e empty other false true raw is = cc
start_row P kind t e empty other false false true is = cc
start_row P kind t e empty other false false false is = subst P (let same : string_start_refusal kind ≡ e = cc in same) other

pub start_not_open : (kind : StringKind) (t : List ℕ) (e : Refusal) → string_start kind t ≡ refused_start e → is_open e.kind ≡ false
start_not_open kind t e is =
    start_row (λ e. is_open e.kind ≡ false) kind t e refl (shut kind) (is_empty t) (begins_with (quoted_front kind) t) (begins_with (raw_front kind) t) is
  where
    shut : (kind : StringKind) → is_open (string_start_refusal kind).kind ≡ false
    shut string_kind = refl
    shut byte_string_kind = refl
    shut c_string_kind = refl

-- only that of strings is final, whose fronts have one character
final_kind : (kind : StringKind) (t : List ℕ) (e : Refusal) → string_start kind t ≡ refused_start e → is_final e.kind ≡ true → kind ≡ string_kind
final_kind kind t e is final =
    start_row (λ e. is_final e.kind ≡ true → kind ≡ string_kind) kind t e (λ h. cc) (only kind) (is_empty t) (begins_with (quoted_front kind) t) (begins_with (raw_front kind) t) is final
  where
    only : (kind : StringKind) → is_final (string_start_refusal kind).kind ≡ true → kind ≡ string_kind
    only string_kind h = refl
    only byte_string_kind h = cc
    only c_string_kind h = cc

no_longer : (a c d : ℕ) (r z : List ℕ) → a ∷ [] ≡ (c ∷ r) ++ d ∷ z → ⊥
no_longer a c d [] z same = cc
no_longer a c d (e ∷ r) z same = cc

string_final : (t : List ℕ) (e : Refusal) → string_start string_kind t ≡ refused_start e → is_final e.kind ≡ true → EndsBy (IsString string_kind) t
string_final [] e is final x d lit = let same : refused_start (without_span Empty) ≡ refused_start e = is in let kind : without_span Empty ≡ e = cc in absurd (let f : is_final Empty ≡ true = ap (λ r. is_final r.kind) kind ∙ final in cc)
string_final (c ∷ r) e is final x d lit = elim (starts_front string_kind (c ∷ r) x d e is lit) [
  | inl (k, z, s) ↦ no_longer 34 c k r z s
  | inr (k, z, s) ↦ no_longer 114 c k r z s
]

-- after a final refusal no extension of the text is a string
pub start_final : (kind : StringKind) (t : List ℕ) (e : Refusal) → string_start kind t ≡ refused_start e → is_final e.kind ≡ true → EndsBy (IsString kind) t
start_final kind t e is final =
    let at = final_kind kind t e is final in
    subst (λ k. EndsBy (IsString k) t) (sym at) (string_final t e (ap (λ k. string_start k t) (sym at) ∙ is) final)
