-- The text is a byte with these parts, so that it is not refused, and they are its only parts.
use Rattle.std.proofs.Common.{refl, sym, ap, ◌∙◌, string_bytes, arith}
use Rattle.std.specs.Str.{chars}
use Rattle.litrs_grammar.specs.CharByte.{CharParts, char_value}
use Rattle.litrs_grammar.specs.Literal.{a_byte}
use Rattle.litrs_build.specs.Written.{written_byte}
use Rattle.litrs_build.proofs.Spellings.{byte_number}
use Rattle.litrs_build.proofs.Texts.{byte_derives}
use Rattle.litrs_build.proofs.chars.byte.Goals as goal

pub unreachable-requires : goal.unreachable-requires
unreachable-requires c =
    c.in-Err.ensures.refused.none (a_byte (written_byte c.args.value (chars c.args.suffix.now))) (
      refl,
      byte_derives c.args.value c.of_byte-spelling.result c.args.suffix.now
          (string_bytes c.in_ok-text.text) (omega arith)
          c.of_byte-spelling.ensures c.utf8.suffix c.in_ok-text.ensures.suffix
          c.in_ok-text.ensures.text,
    )

pub returns-clause-written : goal.returns-clause-written
returns-clause-written c =
    ap chars c.in-Ok.ensures.raw
    ∙ sym (byte_derives c.args.value c.of_byte-spelling.result c.args.suffix.now
    (string_bytes c.in_ok-text.text) (omega arith)
    c.of_byte-spelling.ensures c.utf8.suffix c.in_ok-text.ensures.suffix
    c.in_ok-text.ensures.text).spells

pub returns-clause-parts : goal.returns-clause-parts
returns-clause-parts c =
    sym (c.in-Ok.ensures.ok.1 (written_byte c.args.value (chars c.args.suffix.now))
    (byte_derives c.args.value c.of_byte-spelling.result c.args.suffix.now
    (string_bytes c.in_ok-text.text) (omega arith)
    c.of_byte-spelling.ensures c.utf8.suffix c.in_ok-text.ensures.suffix c.in_ok-text.ensures.text))

pub returns-clause-value : goal.returns-clause-value
returns-clause-value c =
    sym (ap (λ (d : CharParts). char_value d.item)
    (c.in-Ok.ensures.ok.1 (written_byte c.args.value (chars c.args.suffix.now))
    (byte_derives c.args.value c.of_byte-spelling.result c.args.suffix.now
    (string_bytes c.in_ok-text.text) (omega arith)
    c.of_byte-spelling.ensures c.utf8.suffix c.in_ok-text.ensures.suffix
    c.in_ok-text.ensures.text)))
    ∙ byte_number c.args.value (omega arith)
