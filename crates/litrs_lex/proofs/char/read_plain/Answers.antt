-- Each exit by its row.
use Rattle.std.proofs.Common.{sym, ap, ◌∙◌, subst, Some}
use Rattle.litrs_base.specs.declared.quotes.CharKind.{CharKind}
use Rattle.litrs_grammar.specs.CharByte.{char_item_refusal}
use Rattle.litrs_base.specs.declared.escape.Unescape.TheVariants.{Unicode}
use Rattle.litrs_lex.specs.CharCut.{IsItemRead}
use Rattle.std.specs.Str.{chars}
use Rattle.litrs_lex.proofs.CharByteBytes.{special_row, ascii_item, wide_row, wide_item, wide_some, one_size}
use Rattle.litrs_lex.proofs.char.read_plain.Goals as goal

pub returns-then-is_special_whitespace-clause-refused : goal.returns-then-is_special_whitespace-clause-refused
returns-then-is_special_whitespace-clause-refused c = record {
  table = special_row c.args.kind c.args.rest.now c.args.first c.requires.begins c.requires.no_quote (sym c.if-is_special_whitespace.ensures) ∙ ap Some (sym c.in_text.ensures.refusal);
  char_span = c.in_text.ensures.char_span;
}

pub returns-then-first-lt128-clause-ok : goal.returns-then-first-lt128-clause-ok
returns-then-first-lt128-clause-ok c =
    ascii_item c.args.kind c.args.rest.now c.args.first c.utf8.rest c.requires.begins c.requires.no_quote c.requires.no_backslash (sym c.if-is_special_whitespace.ensures) c.if-first-lt128.true

pub returns-in-Byte-clause-refused : goal.returns-in-Byte-clause-refused
returns-in-Byte-clause-refused c = record {
  table = ap (λ k. char_item_refusal k (chars c.args.rest.now)) c.in-Byte.is
      ∙ (wide_row c.args.rest.now c.args.first c.utf8.rest c.requires.begins c.if-first-lt128.false ∙ ap Some (sym c.in_text-in-Byte.ensures.refusal));
  char_span = c.in_text-in-Byte.ensures.char_span;
}

pub unreachable-requires : goal.unreachable-requires
unreachable-requires c = wide_some c.args.rest.now c.args.first c.utf8.rest c.requires.begins c.if-first-lt128.false c.in-None.ensures.empty

pub returns-in-Some-clause-ok : goal.returns-in-Some-clause-ok
returns-in-Some-clause-ok c =
    subst (λ (k : CharKind). IsItemRead k c.args.rest.now (Unicode c.in-Some.c) c.len_utf8.result) (sym c.in-Char.is)
    (wide_item c.args.rest.now c.args.first c.in-Some.c _ c.len_utf8.result c.utf8.rest c.requires.begins c.if-first-lt128.false c.in-Some.ensures.parts (one_size c.in-Some.c c.len_utf8.result c.len_utf8.ensures.value))
