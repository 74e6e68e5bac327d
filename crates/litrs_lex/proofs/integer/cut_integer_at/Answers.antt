-- The text has no refusal if and only if the cut is its only derivation.
use Rattle.std.proofs.Common.{◌≡◌, Some, ap, sym, ◌∙◌, subst, None}
use Rattle.std.specs.Str.{chars}
use Rattle.litrs_base.specs.Derivations.{IsOnlyDerivation}
use Rattle.litrs_base.specs.Refusal.{refusal}
use Rattle.litrs_grammar.specs.Integer.{IntegerParts, IsIntegerOf, integer_refusal}
use Rattle.litrs_grammar.specs.Literal.{kind_parse, integer_literal}
use Rattle.litrs_grammar.proofs.Laws.Integer.{only_cut, refusal_of_digit}
use Rattle.litrs_grammar.proofs.Spans.Integer.{integer_refusal_within}
use Rattle.litrs_grammar.proofs.Refused.{is_refused}
use Rattle.litrs_lex.proofs.IntegerBytes.{parts_of_cut, places_of_cut, digit-chars}
use Rattle.litrs_lex.proofs.integer.cut_integer_at.Goals as goal

pub returns-in-None-clause-ok : goal.returns-in-None-clause-ok
returns-in-None-clause-ok c =
    let text = chars c.args.input.now in
    let free : integer_refusal text ≡ None = refusal_of_digit text (digit-chars c.args.input.now c.utf8.input ∙ c.requires.digit) ∙ sym c.in-None.ensures in
    subst (λ (d : IntegerParts). IsOnlyDerivation (IsIntegerOf text) d) (parts_of_cut c.args.cut c.args.input.now c.utf8.input c.requires.cut) (only_cut text free)

pub returns-in-None-clause-places : goal.returns-in-None-clause-places
returns-in-None-clause-places c = places_of_cut c.args.cut c.args.input.now c.utf8.input c.requires.cut

pub in_text-requires : goal.in_text-requires
in_text-requires c = (integer_refusal_within (chars c.args.input.now) (refusal (Some c.in-Some.span) c.in-Some.kind)
    (refusal_of_digit (chars c.args.input.now) (digit-chars c.args.input.now c.utf8.input ∙ c.requires.digit) ∙ sym c.in-Some.ensures)).in_order

pub returns-in-Some-clause-refused : goal.returns-in-Some-clause-refused
returns-in-Some-clause-refused c =
    is_refused (kind_parse integer_literal) (chars c.args.input.now) c.in_text.result
    (refusal_of_digit (chars c.args.input.now) (digit-chars c.args.input.now c.utf8.input ∙ c.requires.digit) ∙ (sym c.in-Some.ensures ∙ ap Some (sym c.in_text.ensures.refusal)))
    c.in_text.ensures.char_span
