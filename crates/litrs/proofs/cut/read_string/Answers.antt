-- The front tells an empty text and another start from those that the scans of quoted and of raw strings read.
use Rattle.std.proofs.Common.{◌≡◌, ℕ, true, List, rules, sym, subst, ◌∙◌}
use Rattle.std.specs.Str.{chars, IsUtf8}
use Rattle.std.proofs.lemmas.Result.{err_from_is_err_and, IfOk-weaker, IfErr-weaker}
use Rattle.litrs_base.specs.declared.err.ParseError.{ParseError}
use Rattle.litrs_base.specs.Refusal.{refusal_of, HasCharSpan}
use Rattle.litrs_base.specs.Text.{begins_with}
use Rattle.litrs_base.specs.Quotes.{quoted_front, raw_front}
use Rattle.litrs_base.specs.declared.quotes.StringKind.{StringKind}
use Rattle.litrs_grammar.specs.LiteralRefusals.{string_start_refusal}
use Rattle.litrs_lex.specs.declared.kind.Front.{Front}
use Rattle.litrs_lex.specs.declared.kind.Front.TheVariants as front
use Rattle.litrs_lex.specs.Front.{IsFront}
use Rattle.litrs_lex.proofs.Fronts.{some_text, no_quoted_front, no_raw_front}
use Rattle.litrs_lex.proofs.StringFronts.{quoted_boundary, raw_boundary}
use Rattle.litrs.proofs.ParsedStrings.{parsed_quoted, parsed_raw}
use Rattle.litrs.proofs.StringRefusals.{IsStringError, empty_start, other_start, quoted_error, raw_error}
use denote.Enum.Bare.{same_true, same_false}
use Rattle.litrs_base.specs.contracts.quotes.StringKind.{the_type}
use Rattle.litrs.proofs.cut.read_string.Goals as goal
use Rattle.litrs.proofs.cut.read_string.Goals.{in_default-via-in-Quoted+else-eq, in_default-via-in-Raw+else-eq-2, in_default-via-in_default}

quoted_by : (found kind : StringKind) (f : Front) (bs : List ℕ) → IsFront f bs →
    f ≡ front.Quoted found → found ≡ kind →
    begins_with (quoted_front kind) bs ≡ true
quoted_by found kind f bs at is same =
    let begins : IsFront (front.Quoted found) bs = subst (λ (g : Front). IsFront g bs) is at in
    subst (λ (k : StringKind). begins_with (quoted_front k) bs ≡ true) same begins.begins

raw_by : (found kind : StringKind) (f : Front) (bs : List ℕ) → IsFront f bs →
    f ≡ front.Raw found → found ≡ kind → begins_with (raw_front kind) bs ≡ true
raw_by found kind f bs at is same =
    let begins : IsFront (front.Raw found) bs = subst (λ (g : Front). IsFront g bs) is at in
    subst (λ (k : StringKind). begins_with (raw_front k) bs ≡ true) same begins.begins

-- a text with no front of the kind
other : (kind : StringKind) (f : Front) (bs : List ℕ) (e : ParseError) → IsUtf8 bs → IsFront f bs →
    (f ≡ front.Empty → ⊥) → (f ≡ front.Quoted kind → ⊥) → (f ≡ front.Raw kind → ⊥) →
    refusal_of e ≡ string_start_refusal kind → HasCharSpan (chars bs) e →
    IsStringError kind (chars bs) e
other kind f bs e u at empty quoted raw is ends =
    other_start kind bs e u (some_text f bs at empty)
    (no_quoted_front kind f bs at quoted raw) (no_raw_front kind f bs at quoted raw) is ends

other_quoted : (found kind : StringKind) (f : Front) (bs : List ℕ) (e : ParseError) → IsUtf8 bs →
    IsFront f bs → f ≡ front.Quoted found → (found ≡ kind → ⊥) →
    refusal_of e ≡ string_start_refusal kind → HasCharSpan (chars bs) e →
    IsStringError kind (chars bs) e
other_quoted found kind f bs e u at named differs is ends =
    other kind f bs e u at
    (λ h. let both : front.Quoted found ≡ front.Empty = sym named ∙ h in cc)
    (λ h. let both : front.Quoted found ≡ front.Quoted kind = sym named ∙ h in
    let same : found ≡ kind = cc in differs same)
    (λ h. let both : front.Quoted found ≡ front.Raw kind = sym named ∙ h in cc) is ends

other_raw : (found kind : StringKind) (f : Front) (bs : List ℕ) (e : ParseError) → IsUtf8 bs →
    IsFront f bs → f ≡ front.Raw found → (found ≡ kind → ⊥) →
    refusal_of e ≡ string_start_refusal kind → HasCharSpan (chars bs) e →
    IsStringError kind (chars bs) e
other_raw found kind f bs e u at named differs is ends =
    other kind f bs e u at
    (λ h. let both : front.Raw found ≡ front.Empty = sym named ∙ h in cc)
    (λ h. let both : front.Raw found ≡ front.Quoted kind = sym named ∙ h in cc)
    (λ h. let both : front.Raw found ≡ front.Raw kind = sym named ∙ h in
    let same : found ≡ kind = cc in differs same) is ends

pub quoted_value-requires-clause-at : goal.quoted_value-requires-clause-at
quoted_value-requires-clause-at g c =
    let seen = same_true the_type (search rules) _ c.args.kind (sym c.if-eq.ensures) in
    let same : c.in-Quoted.found ≡ c.args.kind = cc in
    rw (c.front_len-offset.ensures.quoted)
    (quoted_boundary c.args.kind c.args.input.now c.utf8.input
    (quoted_by c.in-Quoted.found c.args.kind c.args.front c.args.input.now c.requires.front c.in-Quoted.is same))

pub raw_place-requires : goal.raw_place-requires
raw_place-requires g c =
    let seen = same_true the_type (search rules) _ c.args.kind (sym c.if-eq-2.ensures) in
    let same : c.in-Raw.found ≡ c.args.kind = cc in
    rw (c.front_len-offset.ensures.raw)
    (raw_boundary c.args.kind c.args.input.now c.utf8.input
    (raw_by c.in-Raw.found c.args.kind c.args.front c.args.input.now c.requires.front c.in-Raw.is same))

pub returns-in-Quoted-clause-ok : goal.returns-in-Quoted-clause-ok
returns-in-Quoted-clause-ok g c =
    let seen = same_true the_type (search rules) _ c.args.kind (sym c.if-eq.ensures) in
    let same : c.in-Quoted.found ≡ c.args.kind = cc in
    let begins = quoted_by c.in-Quoted.found c.args.kind c.args.front c.args.input.now c.requires.front c.in-Quoted.is same in
    let ok = rw (c.front_len-offset.ensures.quoted, c.requires.same) at c.quoted_value.ensures.ok in
    IfOk-weaker c.quoted_value.result _ _
    (λ parsed is. parsed_quoted c.args.kind c.args.input.now _ parsed.1 c.utf8.input begins is) ok

pub returns-in-Quoted-clause-refused : goal.returns-in-Quoted-clause-refused
returns-in-Quoted-clause-refused g c =
    let seen = same_true the_type (search rules) _ c.args.kind (sym c.if-eq.ensures) in
    let same : c.in-Quoted.found ≡ c.args.kind = cc in
    let begins = quoted_by c.in-Quoted.found c.args.kind c.args.front c.args.input.now c.requires.front c.in-Quoted.is same in
    let refused = rw (c.front_len-offset.ensures.quoted, c.requires.same) at c.quoted_value.ensures.refused in
    IfErr-weaker c.quoted_value.result _ _
    (λ e is. quoted_error c.args.kind c.args.input.now e c.utf8.input begins is) refused

pub returns-in_err-start_suffix-in-Raw-clause-refused : goal.returns-in_err-start_suffix-in-Raw-clause-refused
returns-in_err-start_suffix-in-Raw-clause-refused g c =
    let seen = same_true the_type (search rules) _ c.args.kind (sym c.if-eq-2.ensures) in
    let same : c.in-Raw.found ≡ c.args.kind = cc in
    let begins = raw_by c.in-Raw.found c.args.kind c.args.front c.args.input.now c.requires.front c.in-Raw.is same in
    let refused = rw (c.front_len-offset.ensures.raw, c.requires.same) at c.in_err-start_suffix-in-Raw.ensures.refused in
    let p = err_from_is_err_and c.from_residual.result c.from_residual.ensures.1 in
    rw (p.1, p.2) (raw_error c.args.kind c.args.input.now _ c.utf8.input begins refused)

pub returns-in_ok-start_suffix-in-Raw-clause-ok : goal.returns-in_ok-start_suffix-in-Raw-clause-ok
returns-in_ok-start_suffix-in-Raw-clause-ok g c =
    let seen = same_true the_type (search rules) _ c.args.kind (sym c.if-eq-2.ensures) in
    let same : c.in-Raw.found ≡ c.args.kind = cc in
    let begins = raw_by c.in-Raw.found c.args.kind c.args.front c.args.input.now c.requires.front c.in-Raw.is same in
    let ok = rw (c.front_len-offset.ensures.raw, c.requires.same) at c.in_ok-start_suffix-in-Raw.ensures.ok in
    parsed_raw c.args.kind c.args.input.now c.in_ok-start_suffix-in-Raw.place c.in_ok-start_suffix-in-Raw.start_suffix c.utf8.input begins ok

pub returns-in-Empty-clause-refused : goal.returns-in-Empty-clause-refused
returns-in-Empty-clause-refused g c =
    let at = rw c.in-Empty.is at c.requires.front in
    empty_start c.args.kind c.args.input.now c.new.result at.begins c.new.ensures.refusal

pub returns-in_default-clause-refused : goal.returns-in_default-clause-refused
returns-in_default-clause-refused g c =
    elim c.in_default.branch [
      | in_default-via-in-Quoted+else-eq w ↦
          other_quoted w.in-Quoted.found c.args.kind c.args.front c.args.input.now c.start_refusal.result c.utf8.input
          c.requires.front w.in-Quoted.is
          (λ (e : w.in-Quoted.found ≡ c.args.kind). same_false the_type _ c.args.kind (sym w.if-eq.ensures) (cc))
          c.start_refusal.ensures.refusal c.start_refusal.ensures.char_span
      | in_default-via-in-Raw+else-eq-2 w ↦
          other_raw w.in-Raw.found c.args.kind c.args.front c.args.input.now c.start_refusal.result c.utf8.input
          c.requires.front w.in-Raw.is
          (λ (e : w.in-Raw.found ≡ c.args.kind). same_false the_type _ c.args.kind (sym w.if-eq-2.ensures) (cc))
          c.start_refusal.ensures.refusal c.start_refusal.ensures.char_span
      | in_default-via-in_default w ↦
          other c.args.kind c.args.front c.args.input.now c.start_refusal.result c.utf8.input c.requires.front
          w.in_default.not-Empty (w.in_default.not-Quoted c.args.kind) (w.in_default.not-Raw c.args.kind)
          c.start_refusal.ensures.refusal c.start_refusal.ensures.char_span
    ]
