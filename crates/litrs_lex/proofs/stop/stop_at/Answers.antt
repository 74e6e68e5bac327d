-- Each arm by its lemma.
use Rattle.std.proofs.Common.{drop, take, ◌-◌, length, sym, ap, ◌∙◌, arith, Some}
use Rattle.litrs_lex.proofs.FloatBytes.{rest_is}
use Rattle.litrs_base.proofs.CharEnds.{no_span}
use Rattle.std.specs.Prelude.{◌==◌}
use Rattle.std.specs.Str.{chars}
use Rattle.std.proofs.lemmas.List.{take_rest}
use Rattle.litrs_base.specs.Text.{first_passes}
use Rattle.litrs_lex.proofs.QuotedBytes.{first_of, two_of, blanks_refused, continuation_at, escape_at, escape_refused, escape_span, begins_cut, quote_first, first_is_not}
use Rattle.litrs_lex.proofs.stop.stop_at.Goals as goal

pub unescape_with-requires : goal.unescape_with-requires
unescape_with-requires c = begins_cut c.args.rest.now _ _ (first_of c.args.rest.now c.as_bytes.result.now 92 c.as_bytes.ensures.value c.in-len1-up.len_at_least c.in-92.is) c.without_last.ensures

pub returns-in-34-clause-ok : goal.returns-in-34-clause-ok
returns-in-34-clause-ok c = quote_first c.args.rest.now _ (first_of c.args.rest.now c.as_bytes.result.now 34 c.as_bytes.ensures.value c.in-len1-up.len_at_least c.in-34.is)

pub returns-then-len-rest-clause-refused : goal.returns-then-len-rest-clause-refused
returns-then-len-rest-clause-refused c =
    let first = first_of c.args.rest.now c.as_bytes.result.now 92 c.as_bytes.ensures.value c.in-len1-up.len_at_least c.in-92.is in record {
      table = blanks_refused _ c.args.rest.now _ _
          (two_of c.args.rest.now _ _ first (rest_is c.as_bytes.result.now c.args.rest.now 1 c.as_bytes.ensures.value)
          (sym c.begins_with_byte.ensures ∙ c.if-begins_with_byte.true) (take_rest (take (length c.as_bytes.result.now - 1) (drop 1 c.as_bytes.result.now)) 1))
          c.utf8.rest c.blanks_len-len.ensures.run c.if-len-rest.true
          ∙ ap Some (sym c.new.ensures.refusal);
      char_span = no_span (chars c.args.rest.now) c.new.result _ c.new.ensures.refusal;
    }

pub returns-else-len-rest-clause-ok : goal.returns-else-len-rest-clause-ok
returns-else-len-rest-clause-ok c =
    let first = first_of c.args.rest.now c.as_bytes.result.now 92 c.as_bytes.ensures.value c.in-len1-up.len_at_least c.in-92.is in
    continuation_at _ c.args.rest.now _ _
    (two_of c.args.rest.now _ _ first (rest_is c.as_bytes.result.now c.args.rest.now 1 c.as_bytes.ensures.value)
    (sym c.begins_with_byte.ensures ∙ c.if-begins_with_byte.true) (take_rest (take (length c.as_bytes.result.now - 1) (drop 1 c.as_bytes.result.now)) 1))
    c.utf8.rest c.blanks_len-len.ensures.run c.if-len-rest.false

pub returns-in-Ok-clause-ok : goal.returns-in-Ok-clause-ok
returns-in-Ok-clause-ok c =
    escape_at _ c.args.rest.now c.without_last.result.now _ _ _ c.utf8.rest
    (first_of c.args.rest.now c.as_bytes.result.now 92 c.as_bytes.ensures.value c.in-len1-up.len_at_least c.in-92.is)
    c.without_last.ensures c.in-Ok.ensures.ok

pub returns-in-Err-clause-refused : goal.returns-in-Err-clause-refused
returns-in-Err-clause-refused c =
    let first = first_of c.args.rest.now c.as_bytes.result.now 92 c.as_bytes.ensures.value c.in-len1-up.len_at_least c.in-92.is in record {
      table = escape_refused _ c.args.rest.now _ c.without_last.result.now _ first c.utf8.rest
          (ap (first_passes (λ b. b == 10)) (sym (rest_is c.as_bytes.result.now c.args.rest.now 1 c.as_bytes.ensures.value))
          ∙ (sym c.begins_with_byte.ensures ∙ c.if-begins_with_byte.false))
          c.without_last.ensures c.in-Err.ensures.refused;
      char_span = escape_span _ c.args.rest.now _ c.without_last.result.now _ first c.without_last.ensures c.in-Err.ensures.refused;
    }

pub stop_refusal-requires-clause-quote : goal.stop_refusal-requires-clause-quote
stop_refusal-requires-clause-quote c = first_is_not 34 c.args.rest.now _ c.as_bytes.ensures.value (λ e. omega arith)

pub stop_refusal-requires-clause-slash : goal.stop_refusal-requires-clause-slash
stop_refusal-requires-clause-slash c = first_is_not 92 c.args.rest.now _ c.as_bytes.ensures.value (λ e. omega arith)

pub stop_refusal-requires-in_default-first-clause-quote : goal.stop_refusal-requires-in_default-first-clause-quote
stop_refusal-requires-in_default-first-clause-quote c = first_is_not 34 c.args.rest.now _ c.as_bytes.ensures.value (λ e. omega arith)

pub stop_refusal-requires-in_default-first-clause-slash : goal.stop_refusal-requires-in_default-first-clause-slash
stop_refusal-requires-in_default-first-clause-slash c = first_is_not 92 c.args.rest.now _ c.as_bytes.ensures.value (λ e. omega arith)
