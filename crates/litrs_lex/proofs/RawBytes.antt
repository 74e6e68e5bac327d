-- Raw strings: what the search in the bytes says of the characters.
use Rattle.std.proofs.Common.{◌≡◌, ℕ, zero, suc, ◌+◌, ◌-◌, ◌<◌, ◌≤◌, Bool, true, false, cond, not, ltb, ◌&&◌, ◌||◌, List, [], ◌∷◌, ◌++◌, length, take, drop, get_or, slice_range, Option, Some, None, refl, sym, ap, subst, ◌∙◌, eq-eqb, inl, inr, arith}
use Rattle.std.specs.Prelude.{◌==◌, if◌then◌else◌, IfSome}
use Rattle.std.specs.declared.ops.Range.{Range}
use Rattle.std.specs.Str.{chars, IsUtf8, IsCharBoundary}
use Rattle.std.specs.List.{prefix_len, list_all, slice_index}
use Rattle.std.proofs.Math.Seq.{drop-append-add}
use Rattle.std.proofs.lemmas.Bool.{and_parts, and_from, ne_eqb, eqb-true, not-true, not-false, cases_lt, lt-ltb, le-ltb, true≢false, false≢true}
use Rattle.std.proofs.lemmas.List.{length-append, length-drop, length-take-le, drop_more, drop_all, drop-drop, take_at, append_assoc, append_cancel_right, take-append-drop}
use Rattle.std.proofs.lemmas.Str.{chars-nil, chars-append, encodes-chars, IsUtf8-take, IsCharBoundary-from_drop}
use Rattle.litrs_base.specs.declared.err.ParseErrorKind.{ParseErrorKind}
use Rattle.litrs_base.specs.declared.err.ParseErrorKind.TheVariants.{InvalidLiteral, TooManyHashes, UnterminatedRawString}
use Rattle.litrs_base.specs.declared.err.ParseError.{ParseError}
use Rattle.litrs_base.specs.Characters.{is_ascii}
use Rattle.litrs_base.specs.Derivations.{IsOnlyDerivation}
use Rattle.litrs_base.specs.Refusal.{Refusal, refusal, refusal_of, without_span, spanning, at_byte, IsInText, HasCharSpan}
use Rattle.litrs_base.specs.Text.{is_empty, byte_len, first_passes, begins_with}
use Rattle.litrs_base.proofs.Begins.{begins_with-split, begins_with-append}
use Rattle.litrs_base.proofs.CharEnds.{char_span_points}
use Rattle.litrs_base.proofs.Chars.{OnlyAscii, chars_ascii, chars_wide, chars_empty, utf8_after_ascii, passing_front, prefix_len-chars, first_passes-chars, begins_with-chars}
use Rattle.litrs_base.proofs.Runs.{list_all-append, list_all-weaken}
use Rattle.litrs_base.proofs.Spans.{is_ascii_char, byte_len-append}
use Rattle.litrs_lex.specs.Special.{is_ordinary}
use Rattle.litrs_grammar.specs.Suffix.{is_suffix, suffix_kind}
use Rattle.litrs_grammar.specs.Raw.{is_quote, is_hash, hashes, raw_closing, occurs, is_raw_char, RawParts, IsRawOf, hash_len, length_before, raw_char_kind, raw_body_refusal, raw_refusal}
use Rattle.litrs_grammar.specs.Laws.Raw.{NoClosingIn}
use Rattle.litrs_grammar.proofs.LongerTexts.Raw.{raw_final, raw_finality, raw_open}
use Rattle.litrs_grammar.proofs.RawClosings.{raw_scans_stay}
use Rattle.litrs_grammar.proofs.Laws.Raw.{raw_rows, refusal_of_closed, after_closing, length_closing, only_parts, parts_of, refused}
use Rattle.litrs_grammar.proofs.RawScans.{raw_scans_go_on, raw_refusals_go_on}
use Rattle.litrs_grammar.proofs.Spans.Raw.{raw_refusal_within}
use Rattle.litrs_lex.specs.RawCut.{raw_parts_at, IsRawCut, IsRawRefused, raw_special, IsPastBody, IsStop, IsRawOpening, IsBodyCut}
use Rattle.litrs_lex.proofs.PlainRuns.{AlikeFrom128, IsCharRun, char_run, not_ascii, same_tests}
use Rattle.litrs_lex.proofs.FloatBytes.{chars_after, utf8_after, rest_is}

-- One character: the search stops at those that no body contains, and at `"`.

regrouped : (quote return x y : Bool) → (not quote && true && not return && x && y) ≡ (not quote && (not return && (x && y)))
regrouped true r x y = refl
regrouped false true x y = refl
regrouped false false true y = refl
regrouped false false false y = refl

ordinary_is : (u a : Bool) (c : ℕ) → is_ordinary (raw_special u a) c ≡ (not (c == 34) && is_raw_char u a c)
ordinary_is u a c = same_tests (c == 34) (c == 13) false (c == 0) (is_ascii c) u a ∙ regrouped (c == 34) (c == 13) (u || is_ascii c) (a || not (c == 0))

no_quote : (c : ℕ) → (c == 34) ≡ false → (34 == c) ≡ false
no_quote c other = ne_eqb 34 c (λ e. true≢false (sym (eq-eqb c 34 (sym e)) ∙ other))

ordinary_raw : (u a : Bool) (c : ℕ) → is_ordinary (raw_special u a) c ≡ true → is_raw_char u a c ≡ true
ordinary_raw u a c h = (and_parts (not (c == 34)) (is_raw_char u a c) (sym (ordinary_is u a c) ∙ h)).1

ordinary_no_quote : (u a : Bool) (c : ℕ) → is_ordinary (raw_special u a) c ≡ true → (34 == c) ≡ false
ordinary_no_quote u a c h = no_quote c (not-true _ (and_parts (not (c == 34)) (is_raw_char u a c) (sym (ordinary_is u a c) ∙ h)).0)

-- no body contains a character that is neither ordinary nor `"`
stops_raw : (u a : Bool) (c : ℕ) → is_ordinary (raw_special u a) c ≡ false → (c == 34) ≡ false → is_raw_char u a c ≡ false
stops_raw u a c h other = ap (λ v. not v && is_raw_char u a c) (sym other) ∙ (sym (ordinary_is u a c) ∙ h)

high_tests : (u a : Bool) → (not false && (not false && ((u || false) && (a || not false)))) ≡ u
high_tests true true = refl
high_tests true false = refl
high_tests false true = refl
high_tests false false = refl

ordinary_alike : (u a : Bool) → AlikeFrom128 (is_ordinary (raw_special u a)) u
ordinary_alike u a c high =
    let q = ne_eqb c 34 (λ e. omega arith) in
    let r = ne_eqb c 13 (λ e. omega arith) in
    let z = ne_eqb c 0 (λ e. omega arith) in
    let s = not_ascii c high in
    ordinary_is u a c ∙ ((λ j. not (q j) && (not (r j) && ((u || s j) && (a || not (z j))))) ∙ high_tests u a)

quote_raw : (u a : Bool) → is_raw_char u a 34 ≡ true
quote_raw true true = refl
quote_raw true false = refl
quote_raw false true = refl
quote_raw false false = refl

-- Places at which a closing does not begin

no_closing_run : (u a : Bool) (n : ℕ) (run rest : List ℕ) → list_all (is_ordinary (raw_special u a)) run ≡ true → NoClosingIn n run rest
no_closing_run u a n [] rest all i below = absurd (omega arith)
no_closing_run u a n (c ∷ run) rest all zero below =
    let parts = and_parts (is_ordinary (raw_special u a) c) (list_all (is_ordinary (raw_special u a)) run) all in
    ap (λ v. v && begins_with (hashes n) (run ++ rest)) (ordinary_no_quote u a c parts.0)
no_closing_run u a n (c ∷ run) rest all (suc i) below =
    let parts = and_parts (is_ordinary (raw_special u a) c) (list_all (is_ordinary (raw_special u a)) run) all in
    no_closing_run u a n run rest parts.1 i (omega arith)

no_closing_one : (n c : ℕ) (rest : List ℕ) → begins_with (raw_closing n) (c ∷ rest) ≡ false → NoClosingIn n (c ∷ []) rest
no_closing_one n c rest none zero below = none
no_closing_one n c rest none (suc i) below = absurd (omega arith)

no_closing_more : (n : ℕ) (front more rest : List ℕ) → NoClosingIn n front (more ++ rest) → NoClosingIn n more rest → NoClosingIn n (front ++ more) rest
no_closing_more n front more rest none after i below = elim (cases_lt i (length front)) [
  | inl inside ↦ ap (λ s. begins_with (raw_closing n) (drop i s)) (append_assoc front more rest) ∙ none i inside
  | inr beyond ↦ (let j : ℕ = i - length front in
      let at_j : i ≡ length front + j = omega arith in
      ap (λ k. begins_with (raw_closing n) (drop k ((front ++ more) ++ rest))) at_j
      ∙ (ap (λ s. begins_with (raw_closing n) (drop (length front + j) s)) (append_assoc front more rest)
      ∙ (ap (begins_with (raw_closing n)) (drop-append-add front (more ++ rest) j)
      ∙ after j (omega (arith, length-append front more)))))
]

-- The steps of the search

pub passed_none : (u a : Bool) (n : ℕ) (t : List ℕ) → IsPastBody u a n t t
passed_none u a n t = record { front = []; spells = refl; allowed = refl; unclosed = λ i below. absurd (omega arith) }

passed_more : (u a : Bool) (n : ℕ) (t more rest : List ℕ) → IsPastBody u a n t (more ++ rest) → list_all (is_raw_char u a) more ≡ true → NoClosingIn n more rest → IsPastBody u a n t rest
passed_more u a n t more rest s all none = record {
  front = s.front ++ more;
  spells = append_assoc s.front more rest ∙ s.spells;
  allowed = list_all-append (is_raw_char u a) s.front more s.allowed all;
  unclosed = no_closing_more n s.front more rest s.unclosed none;
}

passed_run : (u a : Bool) (n : ℕ) (t bs : List ℕ) (k : ℕ) → IsPastBody u a n t (chars bs) → IsCharRun (is_ordinary (raw_special u a)) bs k → IsPastBody u a n t (chars (drop k bs))
passed_run u a n t bs k s r =
    passed_more u a n t r.run (chars (drop k bs)) (subst (IsPastBody u a n t) (sym r.split) s)
    (list_all-weaken (is_ordinary (raw_special u a)) (is_raw_char u a) (ordinary_raw u a) r.run r.passes) (no_closing_run u a n r.run (chars (drop k bs)) r.passes)

closing_is_ascii : (n : ℕ) → list_all is_ascii_char (raw_closing n) ≡ true
closing_is_ascii n = hashes_are_ascii n
  where
    hashes_are_ascii : (n : ℕ) → list_all is_ascii_char (hashes n) ≡ true
    hashes_are_ascii zero = refl
    hashes_are_ascii (suc n) = hashes_are_ascii n

-- a quote that does not close the body
passed_quote : (u a : Bool) (n : ℕ) (t bs : List ℕ) → IsUtf8 (34 ∷ bs) → IsPastBody u a n t (chars (34 ∷ bs)) → begins_with (raw_closing n) (34 ∷ bs) ≡ false → IsPastBody u a n t (chars bs)
passed_quote u a n t bs utf8 s none =
    let one : chars (34 ∷ bs) ≡ 34 ∷ chars bs = chars_ascii 34 bs (omega arith) in
    let same : begins_with (raw_closing n) (34 ∷ chars bs) ≡ false =
    ap (begins_with (raw_closing n)) (sym one) ∙ (begins_with-chars (raw_closing n) (34 ∷ bs) (closing_is_ascii n) utf8 ∙ none) in
    passed_more u a n t (34 ∷ []) (chars bs) (subst (IsPastBody u a n t) one s) (and_from _ _ (quote_raw u a) refl) (no_closing_one n 34 (chars bs) same)

pub stop_made : (u a : Bool) (n start from place : ℕ) (bytes : List ℕ) → start ≤ from → from ≤ length bytes → IsUtf8 (drop from bytes) →
    IsPastBody u a n (chars (drop start bytes)) (chars (drop from bytes)) → place ≡ from + prefix_len (is_ordinary (raw_special u a)) (drop from bytes) → IsStop u a n start bytes place
stop_made u a n start from place bytes low within utf8 s is =
    let p = is_ordinary (raw_special u a) in
    let bs = drop from bytes in
    let r = char_run p u (ordinary_alike u a) bs utf8 in
    let there : drop (prefix_len p bs) bs ≡ drop place bytes = drop-drop (prefix_len p bs) from bytes ∙ ap (λ k. drop k bytes) (sym is) in record {
      from = omega arith;
      within = omega (arith, r.within, length-drop from bytes);
      utf8 = subst (λ (l : List ℕ). IsUtf8 l) there r.utf8;
      passed = subst (λ (l : List ℕ). IsPastBody u a n (chars (drop start bytes)) (chars l)) there (passed_run u a n (chars (drop start bytes)) bs (prefix_len p bs) s r);
      stops = ap (first_passes p) (sym there) ∙ r.stops;
    }

pub record After (u a : Bool) (n start place : ℕ) (bytes : List ℕ) : Type 0 where
  pub within : place + 1 ≤ length bytes
  pub utf8 : IsUtf8 (drop (place + 1) bytes)
  pub passed : IsPastBody u a n (chars (drop start bytes)) (chars (drop (place + 1) bytes))

after_first : (u a : Bool) (n start place : ℕ) (bytes rest : List ℕ) → drop place bytes ≡ rest → place ≤ length bytes → IsUtf8 rest →
    IsPastBody u a n (chars (drop start bytes)) (chars rest) → (first_passes is_quote rest && not (begins_with (raw_closing n) rest)) ≡ true → After u a n start place bytes
after_first u a n start place bytes [] is within utf8 s inner = absurd (false≢true inner)
after_first u a n start place bytes (b ∷ r) is within utf8 s inner =
    let parts = and_parts (is_quote b) (not (begins_with (raw_closing n) (b ∷ r))) inner in
    let quote : b ≡ 34 = eqb-true b 34 parts.0 in
    let there : drop (place + 1) bytes ≡ r = sym (drop-drop 1 place bytes) ∙ ap (drop 1) is in
    let none : begins_with (raw_closing n) (34 ∷ r) ≡ false = ap (λ c. begins_with (raw_closing n) (c ∷ r)) (sym quote) ∙ not-true _ parts.1 in
    let text : IsUtf8 (34 ∷ r) = subst (λ (c : ℕ). IsUtf8 (c ∷ r)) quote utf8 in
    let passed : IsPastBody u a n (chars (drop start bytes)) (chars (34 ∷ r)) = subst (λ (c : ℕ). IsPastBody u a n (chars (drop start bytes)) (chars (c ∷ r))) quote s in record {
      within = omega (arith, ap length is, length-drop place bytes);
      utf8 = subst (λ (l : List ℕ). IsUtf8 l) (sym there) (utf8_after_ascii 34 r (omega arith) text);
      passed = subst (λ (l : List ℕ). IsPastBody u a n (chars (drop start bytes)) (chars l)) (sym there) (passed_quote u a n (chars (drop start bytes)) r text passed none);
    }

-- after a quote that does not close the body
pub after_quote : (u a : Bool) (n start place : ℕ) (bytes : List ℕ) → IsStop u a n start bytes place →
    (first_passes is_quote (drop place bytes) && not (begins_with (raw_closing n) (drop place bytes))) ≡ true → After u a n start place bytes
after_quote u a n start place bytes s inner = after_first u a n start place bytes (drop place bytes) refl s.within s.utf8 s.passed inner

-- The place at which the search ends

place_is : (u a : Bool) (n start place : ℕ) (bytes : List ℕ) → IsUtf8 (drop start bytes) → (s : IsStop u a n start bytes place) → start + byte_len s.passed.front ≡ place
place_is u a n start place bytes utf8 s =
    let rest = chars (drop place bytes) in
    let whole : byte_len s.passed.front + byte_len rest ≡ byte_len (chars (drop start bytes)) = sym (byte_len-append s.passed.front rest) ∙ ap byte_len s.passed.spells in
    let from_start : byte_len (chars (drop start bytes)) ≡ length (drop start bytes) = ap length (encodes-chars (drop start bytes) utf8) in
    let from_place : byte_len rest ≡ length (drop place bytes) = ap length (encodes-chars (drop place bytes) s.utf8) in
    let low = s.from in
    let high = s.within in
    omega (arith, length-drop start bytes, length-drop place bytes)

-- the refusal of what is left is that of the whole body
refusal_here : (u a : Bool) (n start place : ℕ) (bytes : List ℕ) → IsUtf8 (drop start bytes) → IsStop u a n start bytes place →
    raw_body_refusal u a n start (chars (drop start bytes)) ≡ raw_body_refusal u a n place (chars (drop place bytes))
refusal_here u a n start place bytes utf8 s =
    let rest = chars (drop place bytes) in
    ap (raw_body_refusal u a n start) (sym s.passed.spells)
    ∙ (raw_refusals_go_on u a n start s.passed.front rest s.passed.allowed s.passed.unclosed
    ∙ ap (λ k. raw_body_refusal u a n k rest) (place_is u a n start place bytes utf8 s))

-- the text ends there
open_rest : (u a : Bool) (n place : ℕ) → raw_body_refusal u a n place [] ≡ Some (without_span UnterminatedRawString)
unfolding raw_body_refusal
open_rest u a n place = refl

pub open_body : (u a : Bool) (n start place : ℕ) (bytes : List ℕ) → IsUtf8 (drop start bytes) → IsStop u a n start bytes place → drop place bytes ≡ [] →
    raw_body_refusal u a n start (chars (drop start bytes)) ≡ Some (without_span UnterminatedRawString)
open_body u a n start place bytes utf8 s none =
    refusal_here u a n start place bytes utf8 s ∙ (ap (raw_body_refusal u a n place) (ap chars none ∙ chars-nil) ∙ open_rest u a n place)

-- a character that the body may not contain
body_by : (u a : Bool) (n place : ℕ) (t body : List ℕ) (allowed : ℕ) → Option Refusal
body_by u a n place t body allowed =
    if ltb allowed (length body) then Some (at_byte (place + byte_len (take allowed t)) (raw_char_kind (slice_index t allowed)))
    else if not (occurs (raw_closing n) t) then Some (without_span UnterminatedRawString)
    else if not (is_suffix (drop (length body + (1 + n)) t)) then Some (at_byte (place + (byte_len body + (1 + n))) (suffix_kind (drop (length body + (1 + n)) t)))
    else None

refused_rest : (u a : Bool) (n place c : ℕ) (r : List ℕ) → is_raw_char u a c ≡ false → (34 == c) ≡ false →
    raw_body_refusal u a n place (c ∷ r) ≡ Some (at_byte place (raw_char_kind c))
unfolding raw_body_refusal body_by
refused_rest u a n place c r not_raw other =
    let t : List ℕ = c ∷ r in
    let k : ℕ = length_before (raw_closing n) r in
    let later : length_before (raw_closing n) t ≡ suc k = ap (λ v. cond (v && begins_with (hashes n) r) 0 (1 + k)) other ∙ omega arith in
    let body : take (length_before (raw_closing n) t) t ≡ c ∷ take k r = ap (λ m. take m t) later in
    let none : prefix_len (is_raw_char u a) (c ∷ take k r) ≡ 0 = ap (λ v. cond v (1 + prefix_len (is_raw_char u a) (take k r)) 0) not_raw in
    let whole : raw_body_refusal u a n place t ≡ body_by u a n place t (c ∷ take k r) 0 =
    ap (λ (b : List ℕ). body_by u a n place t b (prefix_len (is_raw_char u a) b)) body ∙ ap (body_by u a n place t (c ∷ take k r)) none in
    let some : ltb 0 (suc (length (take k r))) ≡ true = lt-ltb 0 (suc (length (take k r))) (omega arith) in
    let there : place + 0 ≡ place = omega arith in
    whole ∙ (ap (λ v. if v then Some (at_byte (place + 0) (raw_char_kind c)) else if not (occurs (raw_closing n) t) then Some (without_span UnterminatedRawString)
    else if not (is_suffix (drop (length (c ∷ take k r) + (1 + n)) t)) then Some (at_byte (place + (byte_len (c ∷ take k r) + (1 + n))) (suffix_kind (drop (length (c ∷ take k r) + (1 + n)) t)))
    else None) some ∙ ap (λ m. Some (at_byte m (raw_char_kind c))) there)

-- a character from 128 on is refused as its first byte is
wide_refusal : (b c : ℕ) → 128 ≤ b → 128 ≤ c → raw_char_kind c ≡ raw_char_kind b
wide_refusal b c high wide =
    let p = ne_eqb b 13 (λ e. omega arith) in
    let q = ne_eqb b 0 (λ e. omega arith) in
    let r = ne_eqb c 13 (λ e. omega arith) in
    let s = ne_eqb c 0 (λ e. omega arith) in
    rw (p, q, r, s) refl

refused_first : (u a : Bool) (n place b : ℕ) (bs : List ℕ) → IsUtf8 (b ∷ bs) → is_ordinary (raw_special u a) b ≡ false → (b == 34) ≡ false →
    raw_body_refusal u a n place (chars (b ∷ bs)) ≡ Some (at_byte place (raw_char_kind b))
refused_first u a n place b bs utf8 stops other = elim (cases_lt b 128) [
  | inl low ↦ ap (raw_body_refusal u a n place) (chars_ascii b bs low) ∙ refused_rest u a n place b (chars bs) (stops_raw u a b stops other) (no_quote b other)
  | inr high ↦ (let w = chars_wide b bs high utf8 in
      let alike : is_ordinary (raw_special u a) w.first ≡ false = ordinary_alike u a w.first w.wide ∙ (sym (ordinary_alike u a b high) ∙ stops) in
      let another : (w.first == 34) ≡ false = (let wide = w.wide in ne_eqb w.first 34 (λ e. omega arith)) in
      ap (raw_body_refusal u a n place) w.is
      ∙ (refused_rest u a n place w.first w.rest (stops_raw u a w.first alike another) (no_quote w.first another)
      ∙ ap (λ k. Some (at_byte place k)) (wide_refusal b w.first high w.wide)))
]

pub refused_body : (u a : Bool) (n start place b : ℕ) (bytes r : List ℕ) → IsUtf8 (drop start bytes) → IsStop u a n start bytes place → drop place bytes ≡ b ∷ r →
    (b == 34) ≡ false → raw_body_refusal u a n start (chars (drop start bytes)) ≡ Some (at_byte place (raw_char_kind b))
refused_body u a n start place b bytes r utf8 s is other =
    refusal_here u a n start place bytes utf8 s ∙ (ap (λ l. raw_body_refusal u a n place (chars l)) is
    ∙ refused_first u a n place b r (subst (λ (l : List ℕ). IsUtf8 l) is s.utf8) (ap (first_passes (is_ordinary (raw_special u a))) (sym is) ∙ s.stops) other)

-- The closing

pub record Closing (n place : ℕ) (bytes : List ℕ) : Type 0 where
  pub spells : raw_closing n ++ chars (drop (place + 1 + n) bytes) ≡ chars (drop place bytes)
  pub utf8 : IsUtf8 (drop (place + 1 + n) bytes)
  pub within : place + 1 + n ≤ length bytes

pub closing_at : (n place : ℕ) (bytes : List ℕ) → place ≤ length bytes → IsUtf8 (drop place bytes) → begins_with (raw_closing n) (drop place bytes) ≡ true → Closing n place bytes
closing_at n place bytes within utf8 h =
    let rest : List ℕ = drop place bytes in
    let x : List ℕ = drop (length (raw_closing n)) rest in
    let split : raw_closing n ++ x ≡ rest = begins_with-split (raw_closing n) rest h in
    let there : x ≡ drop (place + 1 + n) bytes =
    drop-drop (length (raw_closing n)) place bytes ∙ ap (λ k. drop k bytes) (let len = length_closing n in let e : place + length (raw_closing n) ≡ place + 1 + n = omega arith in e) in record {
      spells = ap (λ l. raw_closing n ++ chars l) (sym there) ∙ (sym (chars_after (raw_closing n) x (closing_is_ascii n)) ∙ ap chars split);
      utf8 = subst (λ (l : List ℕ). IsUtf8 l) there (utf8_after (raw_closing n) x (closing_is_ascii n) (subst (λ (l : List ℕ). IsUtf8 l) (sym split) utf8));
      within = omega (arith, length_closing n, ap length split, length-append (raw_closing n) x, length-drop place bytes);
    }

closed_refusal : (u a : Bool) (n start place : ℕ) (bytes : List ℕ) → IsUtf8 (drop start bytes) → IsStop u a n start bytes place → Closing n place bytes →
    raw_body_refusal u a n start (chars (drop start bytes)) ≡ (if not (is_suffix (chars (drop (place + 1 + n) bytes))) then Some (at_byte (place + 1 + n) (suffix_kind (chars (drop (place + 1 + n) bytes)))) else None)
closed_refusal u a n start place bytes utf8 s c =
    let x = chars (drop (place + 1 + n) bytes) in
    let there : place + (byte_len [] + (1 + n)) ≡ place + 1 + n = omega arith in
    refusal_here u a n start place bytes utf8 s ∙ (ap (raw_body_refusal u a n place) (sym c.spells)
    ∙ (refusal_of_closed u a n place [] x refl ∙ ap (λ k. if not (is_suffix x) then Some (at_byte k (suffix_kind x)) else None) there))

pub suffix_refused : (u a : Bool) (n start place : ℕ) (bytes : List ℕ) → IsUtf8 (drop start bytes) → IsStop u a n start bytes place → Closing n place bytes →
    is_suffix (chars (drop (place + 1 + n) bytes)) ≡ false →
    raw_body_refusal u a n start (chars (drop start bytes)) ≡ Some (at_byte (place + 1 + n) (suffix_kind (chars (drop (place + 1 + n) bytes))))
suffix_refused u a n start place bytes utf8 s c none = let x = chars (drop (place + 1 + n) bytes) in
    closed_refusal u a n start place bytes utf8 s c ∙ ap (λ v. if not v then Some (at_byte (place + 1 + n) (suffix_kind x)) else None) none

front_bytes : (u a : Bool) (n start place : ℕ) (bytes : List ℕ) → IsUtf8 (drop start bytes) → (s : IsStop u a n start bytes place) → s.passed.front ≡ chars (slice_range bytes start place)
front_bytes u a n start place bytes utf8 s =
    let bs : List ℕ = drop start bytes in
    let k : ℕ = place - start in
    let low = s.from in
    let at_place : start + k ≡ place = omega arith in
    let after : drop k bs ≡ drop place bytes = drop-drop k start bytes ∙ ap (λ m. drop m bytes) at_place in
    let fits : k ≤ length bs = omega (arith, s.within, length-drop start bytes) in
    let text : IsUtf8 (take k bs) = IsUtf8-take bs k utf8 (IsCharBoundary-from_drop bs k fits (subst (λ (l : List ℕ). IsUtf8 l) (sym after) s.utf8)) in
    let both : s.passed.front ++ chars (drop place bytes) ≡ chars (take k bs) ++ chars (drop place bytes) =
    s.passed.spells ∙ (ap chars (sym (take-append-drop k bs)) ∙ (chars-append (take k bs) (drop k bs) text ∙ ap (λ l. chars (take k bs) ++ chars l) after)) in
    append_cancel_right s.passed.front (chars (take k bs)) (chars (drop place bytes)) both

pub body_cut : (u a : Bool) (n start place : ℕ) (bytes : List ℕ) → IsUtf8 (drop start bytes) → IsStop u a n start bytes place → Closing n place bytes →
    is_suffix (chars (drop (place + 1 + n) bytes)) ≡ true → IsBodyCut u a n start bytes (place + 1 + n)
body_cut u a n start place bytes utf8 s c ends =
    let t = chars (drop start bytes) in
    let p = raw_closing n in
    let x = chars (drop (place + 1 + n) bytes) in
    let front = s.passed.front in
    let whole : front ++ (p ++ x) ≡ t = ap (λ l. front ++ l) c.spells ∙ s.passed.spells in
    let here : length_before p (p ++ x) ≡ 0 = ap (λ v. cond v 0 (1 + length_before p (hashes n ++ x))) (begins_with-append p x) in
    let scan = (raw_scans_go_on n front (chars (drop place bytes)) s.passed.unclosed).0 in
    let before : length_before p t ≡ length front =
    ap (length_before p) (sym s.passed.spells) ∙ (scan ∙ (ap (λ l. length front + length_before p l) (sym c.spells) ∙ omega (arith, here))) in
    let back : place + 1 + n - (n + 1) ≡ place = omega arith in
    let low = s.from in record {
      free = closed_refusal u a n start place bytes utf8 s c ∙ ap (λ v. if not v then Some (at_byte (place + 1 + n) (suffix_kind x)) else None) ends;
      body = ap (λ k. take k t) before ∙ (ap (take (length front)) (sym s.passed.spells) ∙ (take_at front (chars (drop place bytes)) (length front) refl
          ∙ (front_bytes u a n start place bytes utf8 s ∙ ap (λ k. chars (slice_range bytes start k)) (sym back))));
      suffix = ap (λ k. drop (k + (1 + n)) t) before ∙ (ap (drop (length front + (1 + n))) (sym whole) ∙ after_closing n front x);
      in_order = omega arith;
      body_end = subst (λ (k : ℕ). IsCharBoundary bytes k) (sym back) (IsCharBoundary-from_drop bytes place s.within s.utf8);
      suffix_start = IsCharBoundary-from_drop bytes (place + 1 + n) c.within c.utf8;
    }

-- The opening, by the bytes after the hashes

hash_is_ascii : OnlyAscii is_hash
hash_is_ascii c high = ne_eqb c 35 (λ e. omega arith)

quote_is_ascii : OnlyAscii is_quote
quote_is_ascii c high = ne_eqb c 34 (λ e. omega arith)

opening_is : (u a : Bool) (start : ℕ) (bs : List ℕ) → IsUtf8 bs → raw_refusal u a start (chars bs) ≡
    raw_rows start (hash_len bs) (raw_body_refusal u a (hash_len bs) (start + (hash_len bs + 1)) (drop 1 (chars (drop (hash_len bs) bs))))
    (is_empty (chars (drop (hash_len bs) bs))) (ltb 255 (hash_len bs)) (first_passes is_quote (chars (drop (hash_len bs) bs)))
unfolding raw_refusal
opening_is u a start bs utf8 =
    let n : ℕ = hash_len bs in
    let count : hash_len (chars bs) ≡ n = prefix_len-chars is_hash bs hash_is_ascii utf8 in
    let front = passing_front is_hash bs hash_is_ascii utf8 in
    let after : drop (hash_len (chars bs)) (chars bs) ≡ chars (drop n bs) = ap (λ k. drop k (chars bs)) count ∙ front.rest in
    λ j. raw_rows start (count j) (raw_body_refusal u a (count j) (start + (count j + 1)) (drop 1 (after j))) (is_empty (after j)) (ltb 255 (count j)) (first_passes is_quote (after j))

some_char : (b : ℕ) (r : List ℕ) → IsUtf8 (b ∷ r) → is_empty (chars (b ∷ r)) ≡ false
some_char b r utf8 = chars_empty (b ∷ r) utf8 ∙ ne_eqb (suc (length r)) 0 (λ e. omega arith)

-- facts if a byte is after the hashes
record Opening (bs : List ℕ) (b : ℕ) (r : List ℕ) : Type 0 where
  some : is_empty (chars (drop (hash_len bs) bs)) ≡ false
  quote : first_passes is_quote (chars (drop (hash_len bs) bs)) ≡ is_quote b
  utf8 : IsUtf8 (b ∷ r)

opening_of : (bs : List ℕ) (b : ℕ) (r : List ℕ) → IsUtf8 bs → drop (hash_len bs) bs ≡ b ∷ r → Opening bs b r
opening_of bs b r u is =
    let front = passing_front is_hash bs hash_is_ascii u in
    let text : IsUtf8 (b ∷ r) = subst (λ (l : List ℕ). IsUtf8 l) is front.utf8 in record {
      some = ap (λ l. is_empty (chars l)) is ∙ some_char b r text;
      quote = ap (λ l. first_passes is_quote (chars l)) is ∙ first_passes-chars is_quote (b ∷ r) quote_is_ascii text;
      utf8 = text;
    }

pub opening_nothing : (u a : Bool) (start : ℕ) (bs : List ℕ) → IsUtf8 bs → drop (hash_len bs) bs ≡ [] → raw_refusal u a start (chars bs) ≡ Some (without_span InvalidLiteral)
opening_nothing u a start bs utf8 is =
    let n : ℕ = hash_len bs in
    let body = raw_body_refusal u a n (start + (n + 1)) (drop 1 (chars (drop n bs))) in
    opening_is u a start bs utf8 ∙ ap (λ v. raw_rows start n body v (ltb 255 n) (first_passes is_quote (chars (drop n bs)))) (ap is_empty (ap chars is ∙ chars-nil))

pub opening_many : (u a : Bool) (start b : ℕ) (bs r : List ℕ) → IsUtf8 bs → drop (hash_len bs) bs ≡ b ∷ r → 255 < hash_len bs →
    raw_refusal u a start (chars bs) ≡ Some (spanning start (start + hash_len bs) TooManyHashes)
opening_many u a start b bs r utf8 is many =
    let n : ℕ = hash_len bs in
    let body = raw_body_refusal u a n (start + (n + 1)) (drop 1 (chars (drop n bs))) in
    let o = opening_of bs b r utf8 is in
    opening_is u a start bs utf8 ∙ (λ j. raw_rows start n body (o.some j) (lt-ltb 255 n many j) (first_passes is_quote (chars (drop n bs))))

pub opening_other : (u a : Bool) (start b : ℕ) (bs r : List ℕ) → IsUtf8 bs → drop (hash_len bs) bs ≡ b ∷ r → hash_len bs ≤ 255 → (b == 34) ≡ false →
    raw_refusal u a start (chars bs) ≡ Some (without_span InvalidLiteral)
opening_other u a start b bs r utf8 is few other =
    let n : ℕ = hash_len bs in
    let body = raw_body_refusal u a n (start + (n + 1)) (drop 1 (chars (drop n bs))) in
    let o = opening_of bs b r utf8 is in
    opening_is u a start bs utf8 ∙ (λ j. raw_rows start n body (o.some j) (le-ltb 255 n few j) ((o.quote ∙ other) j))

after_opening_quote : (bs : List ℕ) (b : ℕ) (r : List ℕ) → IsUtf8 bs → drop (hash_len bs) bs ≡ b ∷ r → b ≡ 34 → drop 1 (chars (drop (hash_len bs) bs)) ≡ chars r
after_opening_quote bs b r utf8 is quote =
    ap (λ l. drop 1 (chars l)) is ∙ (ap (λ c. drop 1 (chars (c ∷ r))) quote ∙ ap (drop 1) (chars_ascii 34 r (omega arith)))

pub opening_quote : (u a : Bool) (start b : ℕ) (bs r : List ℕ) → IsUtf8 bs → drop (hash_len bs) bs ≡ b ∷ r → hash_len bs ≤ 255 → b ≡ 34 →
    raw_refusal u a start (chars bs) ≡ raw_body_refusal u a (hash_len bs) (start + (hash_len bs + 1)) (chars r)
opening_quote u a start b bs r utf8 is few quote =
    let n : ℕ = hash_len bs in
    let o = opening_of bs b r utf8 is in
    opening_is u a start bs utf8 ∙ (λ j. raw_rows start n (raw_body_refusal u a n (start + (n + 1)) (after_opening_quote bs b r utf8 is quote j)) (o.some j) (le-ltb 255 n few j) ((o.quote ∙ eq-eqb b 34 quote) j))

-- The whole

pub after_hashes_is : (text : List ℕ) (offset n : ℕ) → n ≡ hash_len (drop offset text) → drop (hash_len (drop offset text)) (drop offset text) ≡ drop (offset + n) text
after_hashes_is text offset n count = drop-drop (hash_len (drop offset text)) offset text ∙ ap (λ k. drop (offset + k) text) (sym count)

-- the hashes are counted in the bytes that the code looks at
pub hashes_at : (bytes text : List ℕ) (offset n : ℕ) → bytes ≡ text → offset ≤ length text → n ≡ hash_len (take (length bytes - offset) (drop offset bytes)) →
    n ≤ length (take (length bytes - offset) (drop offset bytes)) → (n ≡ hash_len (drop offset text)) × (offset + n ≤ length text)
hashes_at bytes text offset n same within count few =
    let rest = rest_is bytes text offset same in
    let all : n ≤ length (drop offset text) = subst (λ (l : List ℕ). n ≤ length l) rest few in
    (count ∙ ap hash_len rest, omega (arith, length-drop offset text))

-- the quote after the hashes
quote_after : (offset n start : ℕ) (bytes : List ℕ) → IsRawOpening offset bytes (n, start) →
    drop (hash_len (drop offset bytes)) (drop offset bytes) ≡ 34 ∷ drop start bytes
quote_after offset n start bytes o = after_hashes_is bytes offset n o.count ∙ o.quote

pub body_refusal_is : (u a : Bool) (offset n start : ℕ) (bytes : List ℕ) → IsUtf8 (drop offset bytes) → IsRawOpening offset bytes (n, start) →
    raw_refusal u a offset (chars (drop offset bytes)) ≡ raw_body_refusal u a n start (chars (drop start bytes))
body_refusal_is u a offset n start bytes utf8 o =
    let count : hash_len (drop offset bytes) ≡ n = sym o.count in
    let end : start ≡ offset + n + 1 = o.start in
    let at_start : offset + (hash_len (drop offset bytes) + 1) ≡ start = omega arith in
    opening_quote u a offset 34 (drop offset bytes) (drop start bytes) utf8 (quote_after offset n start bytes o) (subst (λ (k : ℕ). k ≤ 255) o.count o.few) refl
    ∙ (λ j. raw_body_refusal u a (count j) (at_start j) (chars (drop start bytes)))

pub raw_cut : (u a : Bool) (offset n start place : ℕ) (bytes : List ℕ) → IsUtf8 (drop offset bytes) → IsRawOpening offset bytes (n, start) → IsBodyCut u a n start bytes place →
    IsRawCut u a offset bytes (n, place)
raw_cut u a offset n start place bytes utf8 o b =
    let t = chars (drop offset bytes) in
    let r = chars (drop start bytes) in
    let count : hash_len t ≡ n = prefix_len-chars is_hash (drop offset bytes) hash_is_ascii utf8 ∙ sym o.count in
    let front = passing_front is_hash (drop offset bytes) hash_is_ascii utf8 in
    let after : drop (suc (hash_len t)) t ≡ r =
    ap (λ k. drop k t) (ap suc (prefix_len-chars is_hash (drop offset bytes) hash_is_ascii utf8) ∙ one_more (hash_len (drop offset bytes)))
    ∙ (sym (drop-drop 1 (hash_len (drop offset bytes)) t) ∙ (ap (drop 1) front.rest
    ∙ after_opening_quote (drop offset bytes) 34 (drop start bytes) utf8 (quote_after offset n start bytes o) refl)) in
    let end : start ≡ offset + n + 1 = o.start in
    let at_start : offset + (n + 1) ≡ start = omega arith in
    let parts : parts_of t ≡ raw_parts_at offset bytes (n, place) =
    (λ j. record {
      hash_count = count j;
      body = take (length_before (raw_closing (count j)) (after j)) (after j);
      suffix = drop (length_before (raw_closing (count j)) (after j) + (1 + count j)) (after j);
    }) ∙ (λ j. record {
      hash_count = n;
      body = (b.body ∙ ap (λ k. chars (slice_range bytes k (place - (n + 1)))) (sym at_start)) j;
      suffix = b.suffix j;
    }) in
    let only = only_parts u a offset t (body_refusal_is u a offset n start bytes utf8 o ∙ b.free) in record {
      only = subst (λ (d : RawParts). IsOnlyDerivation (IsRawOf u a t) d) parts only;
      in_order = omega (arith, b.in_order);
      start = subst (λ (k : ℕ). IsCharBoundary bytes k) (sym at_start) o.boundary;
      end = b.body_end;
      suffix = b.suffix_start;
      scan = raw_scans_stay t;
    }
  where
    one_more : (k : ℕ) → suc k ≡ k + 1
    one_more k = omega arith

-- The refusal of the whole

pub span_in_text : (u a : Bool) (offset : ℕ) (bytes : List ℕ) (r : Refusal) → IsUtf8 bytes → IsCharBoundary bytes offset →
    raw_refusal u a offset (chars (drop offset bytes)) ≡ Some r → IsInText (chars bytes) r
span_in_text u a offset bytes r utf8 boundary table =
    let front : List ℕ = take offset bytes in
    let front_utf8 : IsUtf8 front = IsUtf8-take bytes offset utf8 boundary in
    let spells : chars front ++ chars (drop offset bytes) ≡ chars bytes = sym (chars-append front (drop offset bytes) front_utf8) ∙ ap chars (take-append-drop offset bytes) in
    let size : byte_len (chars front) ≡ offset = ap length (encodes-chars front front_utf8) ∙ length-take-le offset bytes boundary.0 in
    let there : raw_refusal u a (byte_len (chars front)) (chars (drop offset bytes)) ≡ Some r = ap (λ k. raw_refusal u a k (chars (drop offset bytes))) size ∙ table in
    subst (λ (t : List ℕ). IsInText t r) spells (raw_refusal_within u a (chars front) (chars (drop offset bytes)) r there)

pub span_in_order : (u a : Bool) (offset : ℕ) (bytes : List ℕ) (span : Option (Range ℕ)) (kind : ParseErrorKind) → IsUtf8 bytes → IsCharBoundary bytes offset →
    raw_refusal u a offset (chars (drop offset bytes)) ≡ Some (refusal span kind) → IfSome span (λ range. range.start ≤ range.end)
span_in_order u a offset bytes None kind utf8 boundary table = tt
span_in_order u a offset bytes (Some range) kind utf8 boundary table = (span_in_text u a offset bytes (refusal (Some range) kind) utf8 boundary table).in_order

pub raw_refused : (u a : Bool) (offset : ℕ) (bytes : List ℕ) (e : ParseError) → IsUtf8 bytes → IsCharBoundary bytes offset →
    raw_refusal u a offset (chars (drop offset bytes)) ≡ Some (refusal_of e) → HasCharSpan (chars bytes) e → IsRawRefused u a offset bytes e
raw_refused u a offset bytes e utf8 boundary table ends =
    let inside = span_in_text u a offset bytes (refusal_of e) utf8 boundary table in record {
      none = refused u a offset (chars (drop offset bytes)) (refusal_of e) table;
      table = table;
      span = inside;
      char_span = ends;
      char_ends = char_span_points (chars bytes) e inside ends;
      scan = raw_scans_stay (chars (drop offset bytes));
      final = raw_finality u a offset (chars (drop offset bytes)) (refusal_of e) table;
      stays = λ final more. raw_final u a offset (chars (drop offset bytes)) more (refusal_of e) final table;
      closes = λ shut. raw_open u a offset (chars (drop offset bytes)) (refusal_of e) shut table;
    }

-- a byte in its place

pub inside_text : (bytes text : List ℕ) (place : ℕ) → bytes ≡ text → place ≤ length text → (place ≡ length bytes → ⊥) → place < length text
inside_text bytes text place same within inside =
    let size : length bytes ≡ length text = ap length same in
    elim (cases_lt place (length text)) [ inl low ↦ low | inr high ↦ absurd (inside (omega arith)) ]

pub cons_at : (bytes text : List ℕ) (place b : ℕ) → bytes ≡ text → place ≤ length text → (place ≡ length bytes → ⊥) → get_or bytes place 0 ≡ b → drop place text ≡ b ∷ drop (place + 1) text
cons_at bytes text place b same within inside is =
    let below : place < length text = inside_text bytes text place same within inside in
    drop_more text place 0 below ∙ ap (λ c. c ∷ drop (place + 1) text) (ap (λ (l : List ℕ). get_or l place 0) (sym same) ∙ is)

pub none_at : (bytes text : List ℕ) (place : ℕ) → bytes ≡ text → place ≡ length bytes → drop place text ≡ []
none_at bytes text place same is = ap (λ k. drop k text) (is ∙ ap length same) ∙ drop_all (length text) text (omega arith)

-- a quote at which the search stops begins a closing
pub closes_there : (n : ℕ) (rest : List ℕ) → (first_passes is_quote rest && not (begins_with (raw_closing n) rest)) ≡ false → first_passes is_quote rest ≡ true → begins_with (raw_closing n) rest ≡ true
closes_there n rest outer quote = not-false _ (ap (λ v. v && not (begins_with (raw_closing n) rest)) (sym quote) ∙ outer)

-- Likewise for the bytes that the code looks at

pub stop_of : (u a : Bool) (n start place : ℕ) (bytes text : List ℕ) → bytes ≡ text → IsStop u a n start bytes place → IsStop u a n start text place
stop_of u a n start place bytes text same s = subst (λ (l : List ℕ). IsStop u a n start l place) same s

pub closing_of : (u a : Bool) (n start place : ℕ) (bytes text : List ℕ) → bytes ≡ text → IsStop u a n start bytes place →
    (first_passes is_quote (drop place bytes) ≡ true → begins_with (raw_closing n) (drop place bytes) ≡ true) → (place ≡ length bytes → ⊥) → get_or bytes place 0 ≡ 34 → Closing n place text
closing_of u a n start place bytes text same s closes inside quote =
    let is : drop place bytes ≡ 34 ∷ drop (place + 1) bytes = cons_at bytes bytes place 34 refl s.within inside quote in
    let there : begins_with (raw_closing n) (drop place bytes) ≡ true = closes (ap (first_passes is_quote) is) in
    subst (λ (l : List ℕ). Closing n place l) same (closing_at n place bytes s.within s.utf8 there)
