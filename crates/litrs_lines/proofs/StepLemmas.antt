-- Texts that end with LF, the steps of texts, and texts that are held.
use Rattle.std.proofs.Common.{◌≡◌, ◌∙◌, ◌⊎◌, inl, inr, ℕ, Bool, true, false, List, [], ◌∷◌, ◌++◌, refl, sym, ap, subst, append-nil, arith, length, take, ◌-◌, ◌+◌, ◌<◌, length-append, slice_index, Result, Ok, Err, OnOk, OnErr}
use Rattle.std.specs.Prelude.{IfOk, IsOk, IsErr, IsTrue, IsFalse, ◌==◌}
use Rattle.std.specs.Str.{chars, IsUtf8, IsCharBoundary}
use Rattle.std.specs.String.Boundary.{IsSplitPoint}
use Rattle.std.proofs.Math.Seq.{take-append_seam, get_or-append_seam}
use Rattle.std.proofs.lemmas.Str.{chars-append, IsUtf8-from_ascii, IsUtf8-take, IsCharBoundary-at_seam}
use Rattle.std.proofs.lemmas.Bool.{false≢true}
use Rattle.litrs_base.specs.Derivations.{HasNoDerivation, IsOnlyDerivation}
use Rattle.litrs_base.specs.Text.{IsText}
use Rattle.litrs_base.specs.declared.err.ParseErrorKind.{ParseErrorKind}
use Rattle.litrs_base.specs.declared.err.ParseErrorKind.TheVariants.{UnterminatedRawString}
use Rattle.litrs_base.proofs.Chars.{ascii_by_test}
use Rattle.litrs_base.specs.Finality.{is_open}
use Rattle.litrs_base.specs.Refusal.{Refusal, refusal_of, kind_of}
use Rattle.litrs_grammar.specs.Allocation.{allocates}
use Rattle.litrs_grammar.specs.Literal.{Derivation, a_bool, an_integer, a_float, a_char, a_byte, a_string, a_byte_string, a_c_string, IsLiteral, literal_parse, Begins}
use Rattle.litrs_grammar.specs.LiteralRefusals.{IsRefusal}
use Rattle.litrs_grammar.proofs.Laws.Literal.{literals_are_not_refused, texts_are_decided}
use Rattle.litrs_grammar.proofs.Spans.Literal.{no_literal_ends_with_line_feed}
use Rattle.litrs_base.specs.declared.err.ParseError.{ParseError}
use Rattle.litrs_grammar.specs.Closing.{after_raw_front, closing_text, closing_of, a_string_of}
use Rattle.litrs_grammar.specs.Raw.{hash_len}
use Rattle.litrs_grammar.specs.Refused.{IsRefusedOrOutOfMemory}
use Rattle.litrs_grammar.proofs.LongerTexts.Raw.{closing_is_text}
use Rattle.litrs_grammar.specs.Quoted.{without_last}
use Rattle.litrs_grammar.proofs.QuotedItems.{without_last-append}
use Rattle.litrs_grammar.proofs.LongerTexts.Literal.{line_ends_are_decided}
use Rattle.litrs.specs.declared.Literal.{Literal as AnyLiteral}
use Rattle.litrs.specs.declared.Literal.TheVariants.{Bool as bool_lit, Integer as integer_lit, Float as float_lit, Char as char_lit, String as string_lit, Byte as byte_lit, ByteString as byte_string_lit, CString as c_string_lit}
use Rattle.litrs.specs.LiteralDerivation.{literal_raw, derivation, is_bool_literal}
use Rattle.litrs_lines.specs.declared.collector.Step.{Step}
use Rattle.litrs_lines.specs.declared.collector.Step.TheVariants.{More, Literal, Refused}
use Rattle.litrs_lines.specs.Held.{IsHeld}
use Rattle.litrs_lines.specs.Steps.{BeginsByLine, IsUnfinished, IsReadAs, IsLiteralStep, IsStep, is_a_bool, held_after, Feeds, Pushes}
use Rattle.litrs_lines.specs.StepLaws.{StepsAreDecided, StepsAreUnique}

line_feed_char : chars (10 ∷ []) ≡ 10 ∷ []
unfolding chars
line_feed_char = refl

-- the characters of a text with an LF after it
pub chars-line_feed : (t : List ℕ) → IsUtf8 t → chars (t ++ 10 ∷ []) ≡ chars t ++ 10 ∷ []
chars-line_feed t u = chars-append t (10 ∷ []) u ∙ ap (λ (c : List ℕ). chars t ++ c) line_feed_char

-- Its refusal decides if a text with LF after it begins a literal.

by_kind : (t : List ℕ) (test : Bool) (r : Refusal) → is_open r.kind ≡ test → IsRefusal literal_parse (chars t ++ 10 ∷ []) r → BeginsByLine t ⊎ (BeginsByLine t → ⊥)
by_kind t true r is table = inl ((line_ends_are_decided literal_parse (chars t) r table).0 is)
by_kind t false r is table = inr (λ begins. let both : true ≡ false = sym ((line_ends_are_decided literal_parse (chars t) r table).1 begins) ∙ is in cc)

pub begins_by_line_or_not : (t : List ℕ) → BeginsByLine t ⊎ (BeginsByLine t → ⊥)
begins_by_line_or_not t = elim (texts_are_decided literal_parse (chars t ++ 10 ∷ [])) [
  | inl d ↦ absurd (no_literal_ends_with_line_feed (chars t) d.0 d.1)
  | inr r ↦ by_kind t (is_open (r.0).kind) r.0 refl r.1
]

refused_step : (t : List ℕ) (r : Refusal) → IsRefusal literal_parse (chars t) r → BeginsByLine t ⊎ (BeginsByLine t → ⊥) →
    IsUnfinished t ⊎ ((r : Refusal) × IsRefusal literal_parse (chars t) r × (BeginsByLine t → ⊥))
refused_step t r table (inl begins) = inl ((λ d is. literals_are_not_refused literal_parse (chars t) d r is table), begins)
refused_step t r table (inr none) = inr (r, table, none)

pub steps_are_decided : StepsAreDecided
steps_are_decided t = elim (texts_are_decided literal_parse (chars t)) [
  | inl d ↦ inl d
  | inr r ↦ inr (refused_step t r.0 r.1 (begins_by_line_or_not t))
]

pub steps_are_unique : StepsAreUnique
steps_are_unique t More More a b = tt
steps_are_unique t More (Literal lit) a b = a.0 (derivation lit) b.1.0
steps_are_unique t More (Refused e) a b = b.1 a.1
steps_are_unique t (Literal lit) More a b = b.0 (derivation lit) a.1.0
steps_are_unique t (Literal lit) (Literal other) a b = (a.0 ∙ sym b.0, b.1.1 (derivation lit) a.1.0)
steps_are_unique t (Literal lit) (Refused e) a b = b.0.none (derivation lit) a.1.0
steps_are_unique t (Refused e) More a b = a.1 b.1
steps_are_unique t (Refused e) (Literal lit) a b = a.0.none (derivation lit) b.1.0
steps_are_unique t (Refused e) (Refused other) a b = b.0.only (refusal_of e) a.0.table

-- Texts that are held

-- the text without its LF
pub without_line_feed : (t : List ℕ) → without_last (t ++ 10 ∷ []) ≡ t
without_line_feed t = without_last-append t 10 [] ∙ append-nil t

pub nothing_is_held : (held : List ℕ) → held ≡ [] → IsHeld held
nothing_is_held held none some = absurd (some none)

pub line_is_held : (t held : List ℕ) → held ≡ t ++ 10 ∷ [] → IsUnfinished t → IsHeld held
line_is_held t held is unfinished some =
    let front : without_last held ≡ t = ap without_last is ∙ without_line_feed t in
    (ap (λ (x : List ℕ). x ++ 10 ∷ []) front ∙ sym is, subst IsUnfinished (sym front) unfinished)

-- an open refusal says what closes the text
closing_text_is_text : (t : List ℕ) (kind : ParseErrorKind) → IsText (closing_text t kind)
closing_text_is_text t UnterminatedRawString = closing_is_text (hash_len (after_raw_front t))
closing_text_is_text t _ = refl

pub open_begins : (t : List ℕ) (e : ParseError) → IsRefusedOrOutOfMemory literal_parse t e → is_open (kind_of e) ≡ true → Begins literal_parse t
open_begins t e (inl refused) opened =
    let closed = refused.closes opened in
    (closing_of t (refusal_of e), a_string_of closed.kind closed.parts, closing_text_is_text t (kind_of e), closed.literal)
open_begins t e (inr lack) opened = absurd (false≢true (sym (ap (λ (r : Refusal). is_open r.kind) lack.error) ∙ opened))

-- the text that is held after a step
step_is_held : (t held : List ℕ) (step : Step) → IsStep t step → held ≡ held_after t step → IsHeld held
step_is_held t held More is after = line_is_held t held after is
step_is_held t held (Literal lit) is after = nothing_is_held held after
step_is_held t held (Refused e) is after = nothing_is_held held after

-- and after an error it is what was held before
pub result_is_held : {E : Type 0} (t old new : List ℕ) (r : Result Step E) → IsHeld old → IfOk r (Feeds t new) → OnErr r (new ≡ old) → IsHeld new
result_is_held t old new (Ok step) held fed same = step_is_held t new step fed.is fed.after
result_is_held t old new (Err e) held fed same = subst IsHeld (sym same) held

-- the text that is held after a line, which is added if a literal continues after it
pub pushed_is_held : {E : Type 0} (old line new : List ℕ) (r : Result Bool E) → IsHeld old → IfOk r (Pushes old line new) → OnErr r (new ≡ old) → IsHeld new
pushed_is_held old line new (Ok true) held pushed err = line_is_held (old ++ line) new (pushed.more refl).1 (pushed.more refl).0
pushed_is_held old line new (Ok false) held pushed err = subst IsHeld (sym (pushed.other refl).1) held
pushed_is_held old line new (Err e) held pushed err = subst IsHeld (sym err) held

pub first_is : (old line : List ℕ) → old ≡ [] → old ++ line ≡ line
first_is old line none = ap (λ (l : List ℕ). l ++ line) none

-- a literal that is read is the step of its text
pub feeds_literal : {B : Type 0} (old line : List ℕ) (lit : AnyLiteral B) (step : Step) → old ≡ [] → IsUtf8 line → literal_raw lit ≡ line → IsOnlyDerivation (IsLiteral (chars line)) (derivation lit) →
    IsLiteralStep lit step → Feeds (old ++ line) old step
feeds_literal old line lit (Literal owned) none u raw only is =
    let text = first_is old line none in record {
      utf8 = subst IsUtf8 (sym text) u;
      is = subst (λ (t : List ℕ). IsReadAs t owned) (sym text) (is.0 ∙ raw, subst (IsOnlyDerivation (IsLiteral (chars line))) (sym is.1) only);
      after = none;
    }
feeds_literal old line lit More none u raw only is = absurd is
feeds_literal old line lit (Refused e) none u raw only is = absurd is

-- the text that is fed, by parts

pub fed_is : {E : Type 0} (t new : List ℕ) (r : Result Step E) → IfOk r (Feeds t new) → IfOk r (IsStep t)
fed_is t new (Ok step) fed = fed.is
fed_is t new (Err e) fed = tt

pub fed_utf8 : {E : Type 0} (t new : List ℕ) (r : Result Step E) → IfOk r (Feeds t new) → OnOk r (IsUtf8 t)
fed_utf8 t new (Ok step) fed = fed.utf8
fed_utf8 t new (Err e) fed = tt

pub fed_after : {E : Type 0} (t new : List ℕ) (r : Result Step E) → IfOk r (Feeds t new) → IfOk r (λ step. new ≡ held_after t step)
fed_after t new (Ok step) fed = fed.after
fed_after t new (Err e) fed = tt

-- the last character of a text that ends with LF is popped
popped : (bytes front left : List ℕ) (n : ℕ) → n ≡ length bytes → front ++ 10 ∷ [] ≡ bytes →
    (0 < n → slice_index bytes (n - 1) < 128 → left ≡ take (n - 1) bytes) → left ≡ front
popped bytes front left n len is pops =
    let long : n ≡ length front + 1 = len ∙ ap length (sym is) ∙ length-append front (10 ∷ []) in
    let place : n - 1 ≡ length front = omega arith in
    let last : slice_index bytes (n - 1) ≡ 10 = ap (λ (i : ℕ). slice_index bytes i) place ∙ ap (λ (x : List ℕ). slice_index x (length front)) (sym is) ∙ get_or-append_seam front 10 [] _ in
    pops (omega arith) (omega arith) ∙ ap (λ (i : ℕ). take i bytes) place ∙ ap (take (length front)) (sym is) ∙ take-append_seam front (10 ∷ [])

-- the held text without its last character: the lines
pub lines_of_held : (held left : List ℕ) (n m : ℕ) → IsHeld held → n ≡ length held → m < n →
    (0 < n → slice_index held (n - 1) < 128 → left ≡ take (n - 1) held) → (left ++ 10 ∷ [] ≡ held) × HasNoDerivation (IsLiteral (chars left))
lines_of_held held left n m is len some pops =
    let lines = is (λ none. let zero : length held ≡ 0 = ap length none in absurd (omega arith)) in
    let same : left ≡ without_last held = popped held (without_last held) left n len lines.0 pops in
    (ap (λ (x : List ℕ). x ++ 10 ∷ []) same ∙ lines.0, subst (λ (x : List ℕ). HasNoDerivation (IsLiteral (chars x))) (sym same) lines.1.0)

-- the new text is the old one with some text after it
abbrev Extends : List ℕ → List ℕ → Type 0
Extends old new = (more : List ℕ) × IsUtf8 more × (new ≡ old ++ more)

-- the place where a longer text was one may be cut
pub may_be_cut : (old new : List ℕ) (len : ℕ) → Extends old new → len ≡ length old → IsSplitPoint new len
may_be_cut old new len longer is =
    let boundary : IsCharBoundary new (length old) = IsCharBoundary-at_seam new old longer.0 longer.2 longer.1 in
    subst (IsSplitPoint new) (sym is) (boundary.0, λ _ below. boundary.1 below)

line_feed_is_utf8 : IsUtf8 (10 ∷ [])
line_feed_is_utf8 = IsUtf8-from_ascii (10 ∷ []) (ascii_by_test (10 ∷ []) refl)

-- the held text may be cut before its last byte, the LF after the lines
pub held_is_cut : (held : List ℕ) (end : ℕ) → IsHeld held → end + 1 ≡ length held → IsCharBoundary held end × (take end held ++ 10 ∷ [] ≡ held)
held_is_cut held end is len =
    let lines = is (λ none. let zero : length held ≡ 0 = ap length none in absurd (omega arith)) in
    let place : end ≡ length (without_last held) =
    (let sum : length held ≡ length (without_last held) + 1 = ap length (sym lines.0) ∙ length-append (without_last held) (10 ∷ []) in omega arith) in
    let front : take end held ≡ without_last held = ap (λ (k : ℕ). take k held) place ∙ (ap (take (length (without_last held))) (sym lines.0) ∙ take-append_seam (without_last held) (10 ∷ [])) in
    let boundary : IsCharBoundary held (length (without_last held)) = IsCharBoundary-at_seam held (without_last held) (10 ∷ []) (sym lines.0) line_feed_is_utf8 in
    (subst (IsCharBoundary held) (sym place) boundary, ap (λ (x : List ℕ). x ++ 10 ∷ []) front ∙ lines.0)

-- likewise for text that is known not to be empty
pub cut_of_held : (held : List ℕ) (test : Bool) → IsHeld held → test ≡ (length held == 0) → test ≡ false →
    IsCharBoundary held (length held - 1) × (take (length held - 1) held ++ 10 ∷ [] ≡ held)
cut_of_held held test is tests fails =
    let some : length held ≡ 0 → ⊥ = λ e. let yes : (length held == 0) ≡ true = ap (λ (k : ℕ). k == 0) e in let both : true ≡ false = sym yes ∙ sym tests ∙ fails in cc in
    let len : (length held - 1) + 1 ≡ length held = omega arith in
    held_is_cut held (length held - 1) is len

-- the lines that are held are a text
pub lines_are_utf8 : (held : List ℕ) → IsHeld held → IsUtf8 held → (held ≡ [] → ⊥) → IsUtf8 (without_last held)
lines_are_utf8 held is u some =
    let lines = is some in
    let end = length (without_last held) in
    let front : take end held ≡ without_last held = ap (take end) (sym lines.0) ∙ take-append_seam (without_last held) (10 ∷ []) in
    subst IsUtf8 front (IsUtf8-take held end u (IsCharBoundary-at_seam held (without_last held) (10 ∷ []) (sym lines.0) line_feed_is_utf8))

-- ---- the literals that are copied

-- no bool is one whose copy fails
pub copied_no_bool : {B T E : Type 0} (lit : AnyLiteral B) (result : Result T E) → (IsTrue (is_bool_literal lit) → IsOk result) → IsErr result → IsFalse (is_a_bool (derivation lit))
copied_no_bool (bool_lit b) (Ok r) succeeds failed = absurd (false≢true failed)
copied_no_bool (bool_lit b) (Err e) succeeds failed = absurd (false≢true (succeeds refl))
copied_no_bool (integer_lit l) result succeeds failed = refl
copied_no_bool (float_lit l) result succeeds failed = refl
copied_no_bool (char_lit l) result succeeds failed = refl
copied_no_bool (string_lit l) result succeeds failed = refl
copied_no_bool (byte_lit l) result succeeds failed = refl
copied_no_bool (byte_string_lit l) result succeeds failed = refl
copied_no_bool (c_string_lit l) result succeeds failed = refl

-- nor one whose value is allocated
pub allocated_no_bool : (d : Derivation) → IsTrue (allocates d) → IsFalse (is_a_bool d)
allocated_no_bool (a_bool b) allocated = absurd (false≢true allocated)
allocated_no_bool (an_integer d) allocated = refl
allocated_no_bool (a_float d) allocated = refl
allocated_no_bool (a_char d) allocated = refl
allocated_no_bool (a_byte d) allocated = refl
allocated_no_bool (a_string d) allocated = refl
allocated_no_bool (a_byte_string d) allocated = refl
allocated_no_bool (a_c_string d) allocated = refl
