-- The closing quote, and a suffix.
use Rattle.std.proofs.Common.{◌≡◌, ℕ, Bool, true, false, List, ◌+◌, length, get_or, refl, sym, ap, ◌∙◌, arith, Some}
use Rattle.std.specs.Prelude.{◌==◌, if◌then◌else◌}
use Rattle.std.specs.Str.{chars, IsUtf8}
use Rattle.std.specs.List.{list_any}
use Rattle.std.proofs.lemmas.Str.{IsCharBoundary-after_ascii}
use Rattle.litrs_base.specs.declared.quotes.CharKind.{CharKind}
use Rattle.litrs_base.specs.Refusal.{without_span, at_byte, spanning}
use Rattle.litrs_base.specs.Text.{first_passes}
use Rattle.litrs_grammar.specs.CharByte.{closing_refusal, overlong_kind, unterminated_kind}
use Rattle.litrs_grammar.specs.Suffix.{is_suffix, suffix_kind}
use Rattle.litrs_lex.proofs.CharByteBytes.{unterminated_row, overlong_row, suffix_row, closed_row, quote_begins}
use Rattle.litrs_lex.proofs.char.check_closing.Goals as goal

-- no quote follows directly
unclosed : (kind : CharKind) (place : ℕ) (bs : List ℕ) (b : Bool) → IsUtf8 bs → list_any (λ n. n == 39) bs ≡ b → first_passes (λ n. n == 39) bs ≡ false →
    closing_refusal kind place (chars bs) ≡ Some (without_span (if b then (overlong_kind kind) else (unterminated_kind kind)))
unclosed kind place bs true u any first = overlong_row kind place bs u any first
unclosed kind place bs false u any first = unterminated_row kind place bs u any

pub returns-then-not-begins_with_byte-clause-table : goal.returns-then-not-begins_with_byte-clause-table
returns-then-not-begins_with_byte-clause-table c =
    ap (λ l. closing_refusal c.args.kind c.args.len (chars l)) (sym c.range_from-after.ensures.value)
    ∙ (unclosed c.args.kind c.args.len c.range_from-after.result.now c.has_byte.result c.range_from-after.utf8
    (ap (list_any (λ n. n == 39)) (sym c.as_bytes-then-not-begins_with_byte.ensures.value) ∙ sym c.has_byte.ensures)
    (ap (first_passes (λ n. n == 39)) (sym c.as_bytes.ensures.value) ∙ sym c.if-not-begins_with_byte.ensures)
    ∙ ap Some (ap without_span (sym c.unclosed_kind-refusal.ensures) ∙ sym c.new.ensures.refusal))

pub range_from-requires : goal.range_from-requires
range_from-requires c = λ _.
    let is = quote_begins c.range_from-after.result.now (ap (first_passes (λ n. n == 39)) (sym c.as_bytes.ensures.value) ∙ sym c.if-not-begins_with_byte.ensures) in
    let some = ap length is in
    let first = ap (λ l. get_or l 0 0) is in
    IsCharBoundary-after_ascii c.range_from-after.result.now 0 c.range_from-after.utf8 (omega arith) (omega arith)

pub returns-in-Ok-clause-ok : goal.returns-in-Ok-clause-ok
returns-in-Ok-clause-ok c = (
  ap (λ l. closing_refusal c.args.kind c.args.len (chars l)) (sym c.range_from-after.ensures.value)
      ∙ closed_row c.args.kind c.args.len c.range_from-after.result.now
      (ap (first_passes (λ n. n == 39)) (sym c.as_bytes.ensures.value) ∙ sym c.if-not-begins_with_byte.ensures)
      (ap (λ l. is_suffix (chars l)) (sym c.range_from.ensures.value) ∙ sym c.in-Ok.ensures.ok),
  refl,
)

pub returns-in-Err-clause-table : goal.returns-in-Err-clause-table
returns-in-Err-clause-table c =
    ap (λ l. closing_refusal c.args.kind c.args.len (chars l)) (sym c.range_from-after.ensures.value)
    ∙ (suffix_row c.args.kind c.args.len c.range_from-after.result.now
    (ap (first_passes (λ n. n == 39)) (sym c.as_bytes.ensures.value) ∙ sym c.if-not-begins_with_byte.ensures)
    (ap (λ l. is_suffix (chars l)) (sym c.range_from.ensures.value) ∙ sym c.in-Err.ensures.ok)
    ∙ (ap (λ l. Some (at_byte (c.args.len + 1) (suffix_kind (chars l)))) (sym c.range_from.ensures.value)
    ∙ (ap (λ k. Some (at_byte (c.args.len + 1) k)) (sym c.in-Err.ensures.err) ∙ (let two : c.args.len + 1 + 1 ≡ c.args.len + 2 = omega arith in ap Some (ap (λ n. spanning (c.args.len + 1) n c.in-Err.refusal) two ∙ sym c.in_text.ensures.refusal)))))
