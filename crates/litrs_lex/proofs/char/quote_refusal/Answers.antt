-- Two quotes, or one.
use Rattle.std.proofs.Common.{sym, ap, ◌∙◌, Some}
use Rattle.litrs_lex.proofs.FloatBytes.{rest_is}
use Rattle.std.specs.Prelude.{◌==◌}
use Rattle.litrs_base.specs.Text.{first_passes}
use Rattle.litrs_base.proofs.CharEnds.{no_span}
use Rattle.litrs_base.specs.Refusal.{without_span}
use Rattle.litrs_grammar.specs.CharByte.{empty_kind}
use Rattle.litrs_lex.proofs.CharByteBytes.{quote_row, empty_row}
use Rattle.litrs_lex.proofs.char.quote_refusal.Goals as goal

pub returns-then-begins_with_byte : goal.returns-then-begins_with_byte
returns-then-begins_with_byte c =
    let same = rest_is c.as_bytes.result.now c.args.rest.now 1 c.as_bytes.ensures.value in
    record {
      table = quote_row c.args.kind c.args.rest.now c.utf8.rest c.requires (ap (first_passes (λ n. n == 39)) (sym same) ∙ sym c.if-begins_with_byte.ensures)
          ∙ ap Some (sym c.in_text.ensures.refusal);
      char_span = c.in_text.ensures.char_span;
    }

pub returns-in-Char : goal.returns-in-Char
returns-in-Char c =
    let same = rest_is c.as_bytes.result.now c.args.rest.now 1 c.as_bytes.ensures.value in
    let is = c.new.ensures.refusal ∙ ap without_span (sym (ap empty_kind c.in-Char.is)) in
    record {
      table = empty_row c.args.kind c.args.rest.now c.utf8.rest c.requires (ap (first_passes (λ n. n == 39)) (sym same) ∙ sym c.if-begins_with_byte.ensures)
          ∙ ap Some (sym is);
      char_span = no_span _ c.new.result (empty_kind c.args.kind) is;
    }

pub returns-in-Byte : goal.returns-in-Byte
returns-in-Byte c =
    let same = rest_is c.as_bytes.result.now c.args.rest.now 1 c.as_bytes.ensures.value in
    let is = c.new-in-Byte.ensures.refusal ∙ ap without_span (sym (ap empty_kind c.in-Byte.is)) in
    record {
      table = empty_row c.args.kind c.args.rest.now c.utf8.rest c.requires (ap (first_passes (λ n. n == 39)) (sym same) ∙ sym c.if-begins_with_byte.ensures)
          ∙ ap Some (sym is);
      char_span = no_span _ c.new-in-Byte.result (empty_kind c.args.kind) is;
    }
