-- The text is a char with these parts, so that it is not refused, and they are its only parts.
use Rattle.std.proofs.Common.{true, refl, sym, ap, ◌∙◌, string_bytes}
use Rattle.std.specs.Str.{chars}
use Rattle.litrs_grammar.specs.CharByte.{CharParts, char_value}
use Rattle.litrs_grammar.specs.Literal.{a_char}
use Rattle.litrs_build.specs.Written.{written_char}
use Rattle.litrs_build.proofs.Spellings.{char_number}
use Rattle.litrs_build.proofs.Texts.{char_derives}
use Rattle.litrs_build.proofs.chars.char.Goals as goal

pub unreachable-requires : goal.unreachable-requires
unreachable-requires c =
    c.in-Err.ensures.refused.none (a_char (written_char c.args.value (chars c.args.suffix.now))) (
      refl,
      char_derives c.args.value c.of_char-spelling.result c.args.suffix.now
          (string_bytes c.in_ok-text.text) c.ranges.value.0
          c.of_char-spelling.ensures c.utf8.suffix c.in_ok-text.ensures.suffix
          c.in_ok-text.ensures.text,
    )

pub returns-clause-written : goal.returns-clause-written
returns-clause-written c =
    ap chars c.in-Ok.ensures.raw
    ∙ sym (char_derives c.args.value c.of_char-spelling.result c.args.suffix.now
    (string_bytes c.in_ok-text.text) c.ranges.value.0
    c.of_char-spelling.ensures c.utf8.suffix c.in_ok-text.ensures.suffix
    c.in_ok-text.ensures.text).spells

pub returns-clause-parts : goal.returns-clause-parts
returns-clause-parts c =
    sym (c.in-Ok.ensures.ok.1 (written_char c.args.value (chars c.args.suffix.now))
    (char_derives c.args.value c.of_char-spelling.result c.args.suffix.now
    (string_bytes c.in_ok-text.text) c.ranges.value.0
    c.of_char-spelling.ensures c.utf8.suffix c.in_ok-text.ensures.suffix c.in_ok-text.ensures.text))

pub returns-clause-value : goal.returns-clause-value
returns-clause-value c =
    sym (ap (λ (d : CharParts). char_value d.item)
    (c.in-Ok.ensures.ok.1 (written_char c.args.value (chars c.args.suffix.now))
    (char_derives c.args.value c.of_char-spelling.result c.args.suffix.now
    (string_bytes c.in_ok-text.text) c.ranges.value.0
    c.of_char-spelling.ensures c.utf8.suffix c.in_ok-text.ensures.suffix
    c.in_ok-text.ensures.text)))
    ∙ char_number true c.args.value c.ranges.value.0
