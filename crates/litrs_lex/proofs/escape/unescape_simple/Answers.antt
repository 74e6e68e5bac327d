-- Each exit by its row.
use Rattle.std.proofs.Common.{ap, ◌∙◌, sym, Some}
use Rattle.std.proofs.lemmas.Bool.{false_from_ne_true}
use Rattle.litrs_base.specs.Characters.{nul_is_allowed}
use Rattle.litrs_lex.proofs.EscapeBytes.{has_refusal, letter_of, unknown_row, simple_read, simple_nul_row}
use Rattle.litrs_lex.proofs.escape.unescape_simple.Goals as goal

pub returns-in_default-clause-refused : goal.returns-in_default-clause-refused
returns-in_default-clause-refused c =
    let is = letter_of c.args.input.now c.args.letter c.requires.begins in
    has_refusal _ _ c.in_text.result
    (unknown_row _ c.args.input.now c.args.letter c.utf8.input is c.requires.no_hex c.requires.no_unicode (false_from_ne_true _ c.in_default.ensures) ∙ ap Some (sym c.in_text.ensures.refusal))
    c.in_text.ensures.char_span

pub returns-then-not-allows_value-clause-refused : goal.returns-then-not-allows_value-clause-refused
returns-then-not-allows_value-clause-refused c =
    let is = letter_of c.args.input.now c.args.letter c.requires.begins in
    has_refusal _ _ c.in_text-then-not-allows_value.result
    (simple_nul_row _ c.args.input.now c.args.letter c.in-Some.value is c.in-Some.ensures.0 c.in-Some.ensures.1
    (ap (nul_is_allowed c.args.allowed.allow_nul) (sym c.from.ensures) ∙ sym c.if-not-allows_value.ensures) ∙ ap Some (sym c.in_text-then-not-allows_value.ensures.refusal))
    c.in_text-then-not-allows_value.ensures.char_span

pub returns-clause-ok : goal.returns-clause-ok
returns-clause-ok c =
    let is = letter_of c.args.input.now c.args.letter c.requires.begins in
    simple_read _ c.args.input.now c.args.letter c.in-Some.value c.utf8.input is c.in-Some.ensures.0 c.in-Some.ensures.1
    (ap (nul_is_allowed c.args.allowed.allow_nul) (sym c.from.ensures) ∙ sym c.if-not-allows_value.ensures)
