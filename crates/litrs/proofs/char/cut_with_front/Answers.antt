-- An empty text and one that does not begin with a quote come beside the cut.
use Rattle.std.proofs.Common.{ap, sym, ◌∙◌, Some}
use Rattle.std.specs.Str.{chars}
use Rattle.litrs_base.proofs.CharEnds.{no_span}
use Rattle.litrs_base.specs.declared.quotes.CharKind.TheVariants.{Char as char_kind}
use Rattle.litrs_grammar.specs.Literal.{kind_parse, char_literal}
use Rattle.litrs_grammar.proofs.Refused.{is_refused}
use Rattle.litrs_lex.proofs.CharByteBytes.{empty_start, char_start}
use Rattle.litrs_lex.proofs.Fronts.{some_text, no_char_front}
use Rattle.litrs.proofs.char.cut_with_front.Goals as goal

pub cut_char-requires : goal.cut_char-requires
cut_char-requires c = let is = rw c.in-Char.is at c.requires in is.begins

pub returns-in-Empty-clause-refused : goal.returns-in-Empty-clause-refused
returns-in-Empty-clause-refused c =
    let is = rw c.in-Empty.is at c.requires in
    is_refused (kind_parse char_literal) (chars c.args.input.now) c.new.result
    (empty_start char_kind c.args.input.now is.begins ∙ ap Some (sym c.new.ensures.refusal))
    (no_span _ _ _ c.new.ensures.refusal)

pub returns-in_default-clause-refused : goal.returns-in_default-clause-refused
returns-in_default-clause-refused c =
    is_refused (kind_parse char_literal) (chars c.args.input.now) c.in_text.result
    (char_start c.args.input.now c.utf8.input
    (some_text c.args.front c.args.input.now c.requires c.in_default.not-Empty)
    (no_char_front c.args.front c.args.input.now c.requires c.in_default.not-Char)
    ∙ ap Some (sym c.in_text.ensures.refusal)) c.in_text.ensures.char_span
