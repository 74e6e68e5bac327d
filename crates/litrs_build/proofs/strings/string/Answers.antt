-- The text is a string with these parts, and they are its only parts.
use Rattle.std.proofs.Common.{sym, ap, ◌∙◌, string_bytes, refl}
use Rattle.std.specs.Str.{chars}
use Rattle.litrs_grammar.specs.Literal.{string_value, a_string}
use Rattle.litrs_build.specs.Written.{written_string}
use Rattle.litrs_build.proofs.MemoryErrors.{out_of_memory}
use Rattle.litrs_build.proofs.Texts.{string_derives, written_string-value}
use Rattle.litrs_build.proofs.strings.string.Goals as goal

pub returns-in-Ok-clause-written : goal.returns-in-Ok-clause-written
returns-in-Ok-clause-written c =
    ap chars c.in-Ok.ensures.raw
    ∙ sym (string_derives c.args.value.now c.args.suffix.now
    (string_bytes c.in_ok-text.text) c.utf8.value c.utf8.suffix
    c.in_ok-text.ensures.suffix c.in_ok-text.ensures.text).spells

pub returns-in-Ok-clause-parts : goal.returns-in-Ok-clause-parts
returns-in-Ok-clause-parts c =
    sym (c.in-Ok.ensures.ok.1 (written_string (chars c.args.value.now) (chars c.args.suffix.now))
    (string_derives c.args.value.now c.args.suffix.now
    (string_bytes c.in_ok-text.text) c.utf8.value c.utf8.suffix
    c.in_ok-text.ensures.suffix c.in_ok-text.ensures.text))

pub returns-in-Ok-clause-value : goal.returns-in-Ok-clause-value
returns-in-Ok-clause-value c =
    sym (ap string_value
    (c.in-Ok.ensures.ok.1 (written_string (chars c.args.value.now) (chars c.args.suffix.now))
    (string_derives c.args.value.now c.args.suffix.now
    (string_bytes c.in_ok-text.text) c.utf8.value c.utf8.suffix
    c.in_ok-text.ensures.suffix c.in_ok-text.ensures.text)))
    ∙ written_string-value c.args.value.now c.args.suffix.now c.utf8.value

pub memory_error-requires : goal.memory_error-requires
memory_error-requires c =
    out_of_memory _ _ _ (a_string
    (written_string (chars c.args.value.now) (chars c.args.suffix.now))) (
      refl,
      (string_derives c.args.value.now c.args.suffix.now
          (string_bytes c.in_ok-text.text) c.utf8.value c.utf8.suffix
          c.in_ok-text.ensures.suffix c.in_ok-text.ensures.text),
    )
    c.in-Err.ensures.refused
