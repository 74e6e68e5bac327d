-- The refusal of a text may be moved by the place of the text in a longer one: the
-- condition of `offset_span`.
use Rattle.std.proofs.Common.{◌≡◌, ℕ, ◌+◌, ◌<◌, ◌^◌, List, length, Option, Some, None, IfSome, inl, inr, ap, arith, subst}
use Rattle.std.specs.Option.{ForSome}
use Rattle.std.specs.Str.{IsUtf8, chars}
use Rattle.std.specs.declared.ops.Range.{Range}
use Rattle.std.proofs.lemmas.Str.{encodes-chars}
use Rattle.litrs_base.specs.declared.err.ParseError.{ParseError}
use Rattle.litrs_base.specs.Refusal.{Refusal, span_of, MovesWithin}
use Rattle.litrs_base.specs.Text.{byte_len, PointsInto}
use Rattle.litrs_grammar.specs.Literal.{Parse}
use Rattle.litrs_grammar.specs.Refused.{IsRefused, IsRefusedOrOutOfMemory}
use Rattle.litrs_base.specs.CharEnd.{IsCharEnd}

within : (t : List ℕ) (offset : ℕ) → byte_len t + offset < 2 ^ 64 → (o : Option (Range ℕ)) (place : ℕ) →
    IfSome o (PointsInto t) → IfSome o (λ span. IsCharEnd t span.end place) →
    ForSome o (λ span. (span.start + offset < 2 ^ 64) × (span.end + offset < 2 ^ 64) × (place + offset < 2 ^ 64))
within t offset small None place inside is = λ x same. cc
within t offset small (Some span) place inside is = λ x same.
    let order = inside.in_order in let fits = inside.within in
    let bound = (is.boundary fits).0 in
    let e : span ≡ x = cc in
    subst (λ (y : Range ℕ). (y.start + offset < 2 ^ 64) × (y.end + offset < 2 ^ 64) × (place + offset < 2 ^ 64)) e (omega arith, omega arith, omega arith)

-- of a parse that does not allocate
pub refusal_moves : (parse : Parse) (bs : List ℕ) (e : ParseError) (offset : ℕ) → IsUtf8 bs → offset + length bs < 2 ^ 64 →
    IsRefused parse (chars bs) e → MovesWithin offset e
refusal_moves parse bs e offset utf8 small r =
    let size : byte_len (chars bs) ≡ length bs = ap length (encodes-chars bs utf8) in
    within (chars bs) offset (omega arith) e.span e.char_end r.span r.char_span

-- of a parse that may allocate
pub error_moves : (parse : Parse) (bs : List ℕ) (e : ParseError) (offset : ℕ) → IsUtf8 bs → offset + length bs < 2 ^ 64 →
    IsRefusedOrOutOfMemory parse (chars bs) e → MovesWithin offset e
error_moves parse bs e offset utf8 small (inl r) = refusal_moves parse bs e offset utf8 small r
error_moves parse bs e offset utf8 small (inr m) = λ x same. let none : span_of e ≡ None = ap (λ (r : Refusal). r.span) m.error in cc
