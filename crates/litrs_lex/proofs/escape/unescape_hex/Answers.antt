-- Each exit by its row.
use Rattle.std.proofs.Common.{◌≡◌, Bool, true, false, not, ◌&&◌, get_or, ap, ◌∙◌, sym, Some, refl, arith}
use Rattle.std.proofs.lemmas.Bool.{false≢true, false_from_ne_true, lt-ltb, le-ltb, or_left, or_right, or_from}
use Rattle.std.specs.Char.{is_ascii_hexdigit}
use Rattle.litrs_base.specs.Characters.{nul_is_allowed}
use Rattle.litrs_grammar.specs.Escape.{allows_byte}
use Rattle.litrs_lex.proofs.EscapeBytes.{has_refusal, hex_end_row, hex_digits_row, pair_of, hex_byte_row, hex_nul_row, hex_read}
use Rattle.litrs_lex.proofs.escape.unescape_hex.Goals as goal
use Rattle.litrs_lex.proofs.escape.unescape_hex.Goals.{else-not-allowed-via-then-not-allowed+else-value-ge128, else-not-allowed-via-else-not-allowed}

pub returns-then-not-is_char_boundary-clause-refused : goal.returns-then-not-is_char_boundary-clause-refused
returns-then-not-is_char_boundary-clause-refused c =
    has_refusal _ _ c.in_text.result
    (hex_end_row _ c.args.input.now c.utf8.input c.requires (λ on. false≢true (c.if-not-is_char_boundary.ensures.test.1 on)) ∙ ap Some (sym c.in_text.ensures.refusal))
    c.in_text.ensures.char_span

pub returns-in_default-clause-refused : goal.returns-in_default-clause-refused
returns-in_default-clause-refused c =
    has_refusal _ _ c.in_text-in_default.result
    (hex_digits_row _ c.args.input.now c.utf8.input c.requires (c.if-not-is_char_boundary.ensures.test.0 refl)
    (ap (λ l. is_ascii_hexdigit (get_or l 2 0) && is_ascii_hexdigit (get_or l 3 0)) (sym c.as_bytes-bytes.ensures.value) ∙ false_from_ne_true _ c.in_default.ensures)
    ∙ ap Some (sym c.in_text-in_default.ensures.refusal))
    c.in_text-in_default.ensures.char_span

on : (b : Bool) → not b ≡ false → b ≡ true
on true e = refl
on false e = cc

off : (b : Bool) → not b ≡ true → b ≡ false
off true e = cc
off false e = refl

pub returns-then-value-ge128-clause-refused : goal.returns-then-value-ge128-clause-refused
returns-then-value-ge128-clause-refused c =
    let seen = c.as_bytes-bytes.ensures.value in
    let pair = pair_of c.args.input.now _ _ c.utf8.input c.requires (ap (λ l. get_or l 2 0) (sym seen)) (ap (λ l. get_or l 3 0) (sym seen)) c.in-Some.ensures.0 in
    let never : allows_byte c.args.allowed c.in-Some.value ≡ false =
    or_from c.args.allowed.byte_escapes _ (off c.args.allowed.byte_escapes c.if-not-allowed.true) (le-ltb c.in-Some.value 128 c.if-value-ge128.true) in
    has_refusal _ _ c.in_text-then-value-ge128.result
    (hex_byte_row _ c.args.input.now _ _ c.in-Some.value pair c.in-Some.ensures.1 never ∙ ap Some (sym c.in_text-then-value-ge128.ensures.refusal))
    c.in_text-then-value-ge128.ensures.char_span

pub returns-then-not-allows_value-clause-refused : goal.returns-then-not-allows_value-clause-refused
returns-then-not-allows_value-clause-refused c =
    let seen = c.as_bytes-bytes.ensures.value in
    let pair = pair_of c.args.input.now _ _ c.utf8.input c.requires (ap (λ l. get_or l 2 0) (sym seen)) (ap (λ l. get_or l 3 0) (sym seen)) c.in-Some.ensures.0 in
    let allowed : allows_byte c.args.allowed c.in-Some.value ≡ true = elim c.else-not-allowed.branch [
      | else-not-allowed-via-then-not-allowed+else-value-ge128 w ↦ or_right c.args.allowed.byte_escapes _ (lt-ltb c.in-Some.value 128 (omega arith))
      | else-not-allowed-via-else-not-allowed w ↦ or_left c.args.allowed.byte_escapes _ (on c.args.allowed.byte_escapes w.if-not-allowed.false)
    ] in
    has_refusal _ _ c.in_text-then-not-allows_value.result
    (hex_nul_row _ c.args.input.now _ _ c.in-Some.value pair c.in-Some.ensures.1 allowed
    (ap (nul_is_allowed c.args.allowed.allow_nul) (sym c.from.ensures) ∙ sym c.if-not-allows_value.ensures)
    ∙ ap Some (sym c.in_text-then-not-allows_value.ensures.refusal))
    c.in_text-then-not-allows_value.ensures.char_span

pub returns-clause-ok : goal.returns-clause-ok
returns-clause-ok c =
    let seen = c.as_bytes-bytes.ensures.value in
    let pair = pair_of c.args.input.now _ _ c.utf8.input c.requires (ap (λ l. get_or l 2 0) (sym seen)) (ap (λ l. get_or l 3 0) (sym seen)) c.in-Some.ensures.0 in
    let allowed : allows_byte c.args.allowed c.in-Some.value ≡ true = elim c.else-not-allowed.branch [
      | else-not-allowed-via-then-not-allowed+else-value-ge128 w ↦ or_right c.args.allowed.byte_escapes _ (lt-ltb c.in-Some.value 128 (omega arith))
      | else-not-allowed-via-else-not-allowed w ↦ or_left c.args.allowed.byte_escapes _ (on c.args.allowed.byte_escapes w.if-not-allowed.false)
    ] in
    hex_read _ c.args.input.now _ _ c.in-Some.value c.utf8.input pair c.in-Some.ensures.1 allowed
    (ap (nul_is_allowed c.args.allowed.allow_nul) (sym c.from.ensures) ∙ sym c.if-not-allows_value.ensures)
