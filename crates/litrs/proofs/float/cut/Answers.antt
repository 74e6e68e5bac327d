-- The empty text and one that does not begin with a digit come before the cut.
use Rattle.std.proofs.Common.{ap, sym, ◌∙◌, Some}
use Rattle.std.specs.Str.{chars}
use Rattle.std.specs.Char.{is_ascii_digit}
use Rattle.std.proofs.lemmas.Result.{err_from_is_err_and}
use Rattle.litrs_base.specs.Refusal.{refusal_of}
use Rattle.litrs_base.proofs.CharEnds.{no_span}
use Rattle.litrs_grammar.specs.Literal.{kind_parse, float_literal}
use Rattle.litrs_grammar.proofs.Refused.{is_refused}
use Rattle.litrs_lex.proofs.SuffixBytes.{first_passes_at}
use Rattle.litrs_lex.proofs.FloatBytes.{refusal-empty, refusal-no_digit}
use Rattle.litrs.proofs.float.cut.Goals as goal

pub returns-in_err-first-clause-refused : goal.returns-in_err-first-clause-refused
returns-in_err-first-clause-refused c =
    let p = err_from_is_err_and c.from_residual.result c.from_residual.ensures.1 in
    let same = ap refusal_of p.2 ∙ c.in_err-first.ensures.1 in
    rw (p.1) (is_refused (kind_parse float_literal) (chars c.args.input.now) _
    (refusal-empty c.args.input.now c.in_err-first.ensures.0 ∙ ap Some (sym same)) (no_span _ _ _ same))

pub cut_float-requires : goal.cut_float-requires
cut_float-requires c =
    first_passes_at is_ascii_digit c.args.input.now c.in_ok-first.first c.in_ok-first.ensures ∙ (sym c.is_ascii_digit.ensures.value ∙ c.if-is_ascii_digit.true)

pub returns-else-is_ascii_digit-clause-refused : goal.returns-else-is_ascii_digit-clause-refused
returns-else-is_ascii_digit-clause-refused c =
    is_refused (kind_parse float_literal) (chars c.args.input.now) c.in_text.result
    (refusal-no_digit c.args.input.now c.in_ok-first.first c.utf8.input c.in_ok-first.ensures (sym c.is_ascii_digit.ensures.value ∙ c.if-is_ascii_digit.false)
    ∙ ap Some (sym c.in_text.ensures.refusal)) c.in_text.ensures.char_span
