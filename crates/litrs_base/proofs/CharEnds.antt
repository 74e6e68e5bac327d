-- Character spans: in the bytes of a text, and in a text after a front.
use Rattle.std.proofs.Common.{◌≡◌, ◌≤◌, ◌<◌, ◌+◌, ◌-◌, ◌/◌, ◌^◌, ℕ, Bool, true, false, cond, ltb, get_or, zero, suc, List, [], ◌∷◌, ◌++◌, length, Option, Some, None, refl, sym, ap, subst, ◌∙◌, arith, append-nil, inl, inr}
use Rattle.std.specs.Option.{ForSome}
use Rattle.std.specs.Prelude.{IfSome, IsUtf8, IsCharBoundary, chars, encode_utf8_all, option_map, unwrap_or}
use Rattle.std.specs.declared.ops.Range.{Range}
use Rattle.std.proofs.Math.Utf8.{encode}
use Rattle.std.proofs.lemmas.Bool.{ltb-true, cases_lt}
use Rattle.std.proofs.lemmas.Str.{encodes-chars, encodes-append}
use Rattle.litrs_base.specs.declared.err.ParseErrorKind.{ParseErrorKind}
use Rattle.litrs_base.specs.declared.err.ParseError.{ParseError}
use Rattle.litrs_base.specs.Text.{byte_len, PointsInto}
use Rattle.litrs_base.specs.CharEnd.{IsBoundaryOf, IsCharEnd, PointsAtCharacters, IsCutBy}
use Rattle.litrs_base.specs.Refusal.{Refusal, refusal_of, IsInText, without_span, shifted, shifted_span, char_span_of, marked_span, HasCharSpan, MovesWithin}
use Rattle.litrs_base.proofs.Spans.{byte_len-append}

-- a refusal with no span
pub no_span : (t : List ℕ) (e : ParseError) (kind : ParseErrorKind) → refusal_of e ≡ without_span kind → HasCharSpan t e
no_span t e kind same = let none : e.span ≡ None = ap (λ (r : Refusal). r.span) same in rw none tt

-- the boundary that is found in the bytes of a text
pub char_end_within : (bs : List ℕ) (end place : ℕ) → IsUtf8 bs → end ≤ length bs → (end ≤ length bs → end ≤ place) → IsCharBoundary bs place →
    ((n : ℕ) → end ≤ n → n < place → ¬ IsCharBoundary bs n) → IsCharEnd (chars bs) end place
char_end_within bs end place utf8 within bound boundary nearest =
    let same : encode_utf8_all (chars bs) ≡ bs = encodes-chars bs utf8 in
    let size : byte_len (chars bs) ≡ length bs = ap length same in
    record {
      at_or_after = bound within;
      boundary = λ fits. subst (λ (b : List ℕ). IsCharBoundary b place) (sym same) boundary;
      least = λ n from below on. nearest n from below (subst (λ (b : List ℕ). IsCharBoundary b n) same on);
      past = λ over. absurd (omega arith);
    }

pub char_end_past : (bs : List ℕ) (end : ℕ) → IsUtf8 bs → length bs < end → IsCharEnd (chars bs) end end
char_end_past bs end utf8 over =
    let size : byte_len (chars bs) ≡ length bs = ap length (encodes-chars bs utf8) in
    record {
      at_or_after = omega arith;
      boundary = λ fits. absurd (omega arith);
      least = λ n from below. absurd (omega arith);
      past = λ past. refl;
    }

boundary_tail : (b i : ℕ) (l : List ℕ) → IsCharBoundary (b ∷ l) (suc i) → IsCharBoundary l i
boundary_tail b i l h = (omega (arith, h.0), λ within. h.1 (omega arith))

boundary_cons : (b i : ℕ) (l : List ℕ) → IsCharBoundary l i → IsCharBoundary (b ∷ l) (suc i)
boundary_cons b i l h = (omega (arith, h.0), λ within. h.1 (omega arith))

boundary_after : (x y : List ℕ) (n m : ℕ) → n ≡ m + length x → IsCharBoundary (x ++ y) n → IsCharBoundary y m
boundary_after [] y n m same h = subst (IsCharBoundary y) (let s : n ≡ m = omega arith in s) h
boundary_after (b ∷ x) y zero m same h = absurd (omega arith)
boundary_after (b ∷ x) y (suc n) m same h = boundary_after x y n m (omega arith) (boundary_tail b n (x ++ y) h)

boundary_before : (x y : List ℕ) (n m : ℕ) → n ≡ m + length x → IsCharBoundary y m → IsCharBoundary (x ++ y) n
boundary_before [] y n m same h = subst (IsCharBoundary y) (let s : m ≡ n = omega arith in s) h
boundary_before (b ∷ x) y zero m same h = absurd (omega arith)
boundary_before (b ∷ x) y (suc n) m same h = boundary_cons b n (x ++ y) (boundary_before x y n m (omega arith) h)

pub char_end_moved : (front t : List ℕ) (end place : ℕ) → IsCharEnd t end place → IsCharEnd (front ++ t) (end + byte_len front) (place + byte_len front)
char_end_moved front t end place is =
    let both : encode_utf8_all (front ++ t) ≡ encode_utf8_all front ++ encode_utf8_all t = encodes-append front t in
    let size : byte_len (front ++ t) ≡ byte_len front + byte_len t = byte_len-append front t in
    let from = is.at_or_after in
    record {
      at_or_after = omega arith;
      boundary = λ fits. subst (λ (b : List ℕ). IsCharBoundary b (place + byte_len front)) (sym both) (boundary_before (encode_utf8_all front) (encode_utf8_all t) _ place refl (is.boundary (omega arith)));
      least = λ n low high on. is.least (n - byte_len front) (omega arith) (omega arith)
          (boundary_after (encode_utf8_all front) (encode_utf8_all t) n (n - byte_len front) (omega arith) (subst (λ (b : List ℕ). IsCharBoundary b n) both on));
      past = λ over. ap (λ (p : ℕ). p + byte_len front) (is.past (omega arith));
    }

abbrev end_or : Option (Range ℕ) → ℕ
end_or None = 0
end_or (Some span) = span.end

abbrev ending_at : ℕ → Option (Range ℕ) → Option (Range ℕ)
ending_at place o = option_map (λ span. record { start = span.start; end = place }) o

moved_end : (front t : List ℕ) (o p : Option (Range ℕ)) (a b : ℕ) → p ≡ shifted_span (byte_len front) o → ending_at b p ≡ shifted_span (byte_len front) (ending_at a o) →
    IfSome o (λ span. IsCharEnd t span.end a) → IfSome p (λ span. IsCharEnd (front ++ t) span.end b)
moved_end front t None p a b same ends is = rw same tt
moved_end front t (Some s) p a b same ends is =
    let b_is : b ≡ a + byte_len front = ap end_or (ap (ending_at b) (sym same) ∙ ends) in
    rw same (subst (λ (n : ℕ). IsCharEnd (front ++ t) (s.end + byte_len front) n) (sym b_is) (char_end_moved front t s.end a is))

-- a refusal of what follows a front, moved by it
pub char_span_moved : (front t : List ℕ) (e f : ParseError) → refusal_of f ≡ shifted (byte_len front) (refusal_of e) →
    char_span_of f ≡ shifted_span (byte_len front) (char_span_of e) → HasCharSpan t e → HasCharSpan (front ++ t) f
char_span_moved front t e f same ends is = moved_end front t e.span f.span e.char_end f.char_end (ap (λ (r : Refusal). r.span) same) ends is

-- Character spans

-- the first byte of a character is not a continuation byte: it is below 128, or at least 192
lead_by : (a b d : Bool) (c : ℕ) (two three four rest : List ℕ) → (a ≡ true → c < 128) →
    128 ≤ get_or (cond a (c ∷ []) (cond b ((192 + c / 64) ∷ two) (cond d ((224 + c / 4096) ∷ three) ((240 + c / 262144) ∷ four))) ++ rest) 0 0 →
    192 ≤ get_or (cond a (c ∷ []) (cond b ((192 + c / 64) ∷ two) (cond d ((224 + c / 4096) ∷ three) ((240 + c / 262144) ∷ four))) ++ rest) 0 0
lead_by true b d c two three four rest small high = let low : c < 128 = small refl in absurd (omega arith)
lead_by false true d c two three four rest small high = omega arith
lead_by false false true c two three four rest small high = omega arith
lead_by false false false c two three four rest small high = omega arith

starts_character : (t : List ℕ) → IsBoundaryOf t 0
unfolding encode
starts_character [] = (omega arith, λ within. absurd (omega arith))
starts_character (c ∷ t) = (
  omega arith,
  λ within high.
      lead_by (ltb c 128) (ltb c 2048) (ltb c 65536) c _ _ _ (encode_utf8_all t) (λ e. ltb-true c 128 e) high,
)

pub front_boundary : (t front rest : List ℕ) → front ++ rest ≡ t → IsBoundaryOf t (byte_len front)
front_boundary t front rest cut =
    subst (λ (s : List ℕ). IsBoundaryOf s (byte_len front)) cut
    (subst (λ (b : List ℕ). IsCharBoundary b (byte_len front)) (sym (encodes-append front rest))
    (boundary_before (encode_utf8_all front) (encode_utf8_all rest) (byte_len front) 0 (omega arith) (starts_character rest)))

pub char_span_points : (t : List ℕ) (e : ParseError) → IsInText t (refusal_of e) → HasCharSpan t e → IfSome (char_span_of e) (PointsAtCharacters t)
char_span_points t e = points e.span e.char_end
  where
    points : (o : Option (Range ℕ)) (place : ℕ) → IfSome o (PointsInto t) → IfSome o (λ span. IsCharEnd t span.end place) →
        IfSome (option_map (λ (span : Range ℕ). record { start = span.start; end = place }) o) (PointsAtCharacters t)
    points None place inside is = tt
    points (Some span) place inside is = record {
      start = subst (IsBoundaryOf t) (sym inside.start) (front_boundary t inside.front inside.rest inside.cut);
      end = is.boundary inside.within;
      in_order = omega (arith, inside.in_order, is.at_or_after);
      within = (is.boundary inside.within).0;
    }

-- a longer text has the same boundaries, up to the end of this one

boundary_front : (x y : List ℕ) (n : ℕ) → n < length x → IsCharBoundary (x ++ y) n → IsCharBoundary x n
boundary_front [] y n inside h = absurd (omega arith)
boundary_front (b ∷ x) y zero inside h = (omega arith, λ within. h.1 (omega arith))
boundary_front (b ∷ x) y (suc n) inside h = boundary_cons b n x (boundary_front x y n (omega arith) (boundary_tail b n (x ++ y) h))

boundary_on : (x y : List ℕ) (n : ℕ) → n < length x → IsCharBoundary x n → IsCharBoundary (x ++ y) n
boundary_on [] y n inside h = absurd (omega arith)
boundary_on (b ∷ x) y zero inside h = (omega arith, λ within. h.1 (omega arith))
boundary_on (b ∷ x) y (suc n) inside h = boundary_cons b n (x ++ y) (boundary_on x y n (omega arith) (boundary_tail b n x h))

char_end_on : (t x : List ℕ) (end place : ℕ) → end ≤ byte_len t → IsCharEnd t end place → IsCharEnd (t ++ x) end place
char_end_on t x end place inside is =
    let both : encode_utf8_all (t ++ x) ≡ encode_utf8_all t ++ encode_utf8_all x = encodes-append t x in
    let size : byte_len (t ++ x) ≡ byte_len t + byte_len x = byte_len-append t x in
    let bound = (is.boundary inside).0 in
    record {
      at_or_after = is.at_or_after;
      boundary = λ fits. elim (cases_lt place (byte_len t)) [
        | inl low ↦ subst (λ (b : List ℕ). IsCharBoundary b place) (sym both) (boundary_on (encode_utf8_all t) (encode_utf8_all x) place low (is.boundary inside))
        | inr high ↦ subst (IsBoundaryOf (t ++ x)) (let e : byte_len t ≡ place = omega arith in e) (front_boundary (t ++ x) t x refl)
      ];
      least = λ n low high on. is.least n low high
          (boundary_front (encode_utf8_all t) (encode_utf8_all x) n (omega arith) (subst (λ (b : List ℕ). IsCharBoundary b n) both on));
      past = λ over. absurd (omega arith);
    }

-- a refusal that points into a text, of a longer text
pub char_span_on : (t x : List ℕ) (e : ParseError) → IsInText t (refusal_of e) → HasCharSpan t e → HasCharSpan (t ++ x) e
char_span_on t x e = on e.span e.char_end
  where
    on : (o : Option (Range ℕ)) (place : ℕ) → IfSome o (PointsInto t) → IfSome o (λ span. IsCharEnd t span.end place) → IfSome o (λ span. IsCharEnd (t ++ x) span.end place)
    on None place inside is = tt
    on (Some span) place inside is = char_end_on t x span.end place inside.within is

-- the refusal of what follows a front may be moved by it, if the text is not too long
pub moves_within : (front t : List ℕ) (e : ParseError) → IsInText (front ++ t) (shifted (byte_len front) (refusal_of e)) → HasCharSpan t e → byte_len (front ++ t) < 2 ^ 64 →
    MovesWithin (byte_len front) e
moves_within front t e inside is small = within e.span e.char_end inside is
  where
    within : (o : Option (Range ℕ)) (place : ℕ) → IfSome (shifted_span (byte_len front) o) (PointsInto (front ++ t)) → IfSome o (λ span. IsCharEnd t span.end place) →
        ForSome o (λ span. (span.start + byte_len front < 2 ^ 64) × (span.end + byte_len front < 2 ^ 64) × (place + byte_len front < 2 ^ 64))
    within None place inside is = λ x same. cc
    within (Some span) place inside is = λ x same.
        let size : byte_len (front ++ t) ≡ byte_len front + byte_len t = byte_len-append front t in
        let order = inside.in_order in let fits = inside.within in
        let bound = (is.boundary (omega arith)).0 in
        let e : span ≡ x = cc in
        subst (λ (y : Range ℕ). (y.start + byte_len front < 2 ^ 64) × (y.end + byte_len front < 2 ^ 64) × (place + byte_len front < 2 ^ 64)) e (omega arith, omega arith, omega arith)

-- the part of a text to mark: if a span points at characters of it, its bytes may be cut there
pub points_cut : (bs : List ℕ) (span : Range ℕ) → IsUtf8 bs → PointsAtCharacters (chars bs) span → IsCutBy bs span
points_cut bs span utf8 at =
    let same : encode_utf8_all (chars bs) ≡ bs = encodes-chars bs utf8 in
    record {
      start = subst (λ (b : List ℕ). IsCharBoundary b span.start) same at.start;
      end = subst (λ (b : List ℕ). IsCharBoundary b span.end) same at.end;
      in_order = at.in_order;
      within = subst (λ (b : List ℕ). span.end ≤ length b) same at.within;
    }

-- Likewise for its character span, or for all of the text if there is none.
pub marked_span_cuts : (bs : List ℕ) (e : ParseError) → IsUtf8 bs → IfSome (char_span_of e) (PointsAtCharacters (chars bs)) → IsCutBy bs (marked_span (chars bs) e)
marked_span_cuts bs e utf8 = cuts e.span e.char_end
  where
    cuts : (o : Option (Range ℕ)) (place : ℕ) → IfSome (option_map (λ (span : Range ℕ). record { start = span.start; end = place }) o) (PointsAtCharacters (chars bs)) →
        IsCutBy bs (unwrap_or (option_map (λ (span : Range ℕ). record { start = span.start; end = place }) o) (record { start = 0; end = byte_len (chars bs) }))
    cuts None place all = points_cut bs (record { start = 0; end = byte_len (chars bs) }) utf8 (record {
      start = starts_character (chars bs);
      end = subst (IsBoundaryOf (chars bs)) refl (front_boundary (chars bs) (chars bs) [] (append-nil (chars bs)));
      in_order = omega arith;
      within = omega arith;
    })
    cuts (Some span) place all = points_cut bs (record { start = span.start; end = place }) utf8 all
