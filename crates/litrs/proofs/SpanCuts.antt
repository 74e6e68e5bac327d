-- A text may be cut at both ends of the character span of its refusal, and at the start of its
-- span: these are character boundaries of its bytes.
use Rattle.std.proofs.Common.{◌≡◌, List, ℕ, Option, Some, None, IfSome, inl, inr, ap, subst}
use Rattle.std.specs.Option.{ForSome}
use Rattle.std.specs.Prelude.{option_map}
use Rattle.std.specs.Str.{IsUtf8, IsCharBoundary, chars}
use Rattle.std.specs.declared.ops.Range.{Range}
use Rattle.litrs_base.specs.CharEnd.{PointsAtCharacters, IsCutBy}
use Rattle.litrs_base.specs.declared.err.ParseError.{ParseError}
use Rattle.litrs_base.specs.Refusal.{Refusal, span_of, char_span_of}
use Rattle.litrs_base.proofs.CharEnds.{points_cut}
use Rattle.litrs_grammar.specs.Literal.{Parse}
use Rattle.litrs_grammar.specs.Refused.{IsRefused, IsRefusedOrOutOfMemory}

some_points : (o : Option (Range ℕ)) (P : Range ℕ → Type 0) → IfSome o P → ForSome o P
some_points None P all = λ x same. cc
some_points (Some span) P all = λ x same. let e : span ≡ x = cc in subst P e all

-- the condition of the clause `cuts` of `marked_span`
pub refusal_points : (parse : Parse) (bs : List ℕ) (e : ParseError) → IsRefused parse (chars bs) e → IfSome (char_span_of e) (PointsAtCharacters (chars bs))
refusal_points parse bs e r = r.char_ends

-- it holds also of an error that says that there was no memory
pub error_points : (parse : Parse) (bs : List ℕ) (e : ParseError) → IsRefusedOrOutOfMemory parse (chars bs) e →
    IfSome (char_span_of e) (PointsAtCharacters (chars bs))
error_points parse bs e (inl r) = r.char_ends
error_points parse bs e (inr m) = let none : span_of e ≡ None = ap (λ (r : Refusal). r.span) m.error in rw none tt

pub char_span_cuts : (parse : Parse) (bs : List ℕ) (e : ParseError) → IsUtf8 bs → IsRefused parse (chars bs) e → ForSome (char_span_of e) (IsCutBy bs)
char_span_cuts parse bs e utf8 r = λ span same.
    points_cut bs span utf8 (some_points (char_span_of e) (PointsAtCharacters (chars bs)) r.char_ends span same)

-- the span has the start of the character span
pub span_start_cuts : (parse : Parse) (bs : List ℕ) (e : ParseError) → IsUtf8 bs → IsRefused parse (chars bs) e →
    ForSome (span_of e) (λ span. IsCharBoundary bs span.start)
span_start_cuts parse bs e utf8 r = λ span same.
    let wide : char_span_of e ≡ Some (record { start = span.start; end = e.char_end }) =
    ap (option_map (λ (s : Range ℕ). record { start = s.start; end = e.char_end })) same in
    (char_span_cuts parse bs e utf8 r (record { start = span.start; end = e.char_end }) wide).start
