-- The text is a raw string with these parts, and they are its only parts.
use Rattle.std.proofs.Common.{sym, ap, ◌∙◌, string_bytes, refl}
use Rattle.std.specs.Str.{chars}
use Rattle.litrs_grammar.specs.Literal.{string_value, a_string}
use Rattle.litrs_build.specs.Raw.{written_raw}
use Rattle.litrs_build.proofs.MemoryErrors.{out_of_memory}
use Rattle.litrs_build.proofs.RawTexts.{raw_string_derives, written_raw-value}
use Rattle.litrs_build.proofs.raw.raw_string.Goals as goal

pub returns-in-Ok-clause-written : goal.returns-in-Ok-clause-written
returns-in-Ok-clause-written c =
    ap chars c.in-Ok.ensures.raw
    ∙ sym (raw_string_derives c.args.value.now c.args.suffix.now
    (string_bytes c.in_ok-text.text) c.utf8.value c.utf8.suffix
    c.in_ok-text.ensures.possible c.in_ok-text.ensures.text).spells

pub returns-in-Ok-clause-parts : goal.returns-in-Ok-clause-parts
returns-in-Ok-clause-parts c =
    sym (c.in-Ok.ensures.ok.1 (written_raw (chars c.args.value.now) (chars c.args.suffix.now))
    (raw_string_derives c.args.value.now c.args.suffix.now
    (string_bytes c.in_ok-text.text) c.utf8.value c.utf8.suffix
    c.in_ok-text.ensures.possible c.in_ok-text.ensures.text))

pub returns-in-Ok-clause-value : goal.returns-in-Ok-clause-value
returns-in-Ok-clause-value c =
    sym (ap string_value
    (c.in-Ok.ensures.ok.1 (written_raw (chars c.args.value.now) (chars c.args.suffix.now))
    (raw_string_derives c.args.value.now c.args.suffix.now
    (string_bytes c.in_ok-text.text) c.utf8.value c.utf8.suffix
    c.in_ok-text.ensures.possible c.in_ok-text.ensures.text)))
    ∙ written_raw-value c.args.value.now c.args.suffix.now c.utf8.value

pub memory_error-requires : goal.memory_error-requires
memory_error-requires c =
    out_of_memory _ _ _
    (a_string (written_raw (chars c.args.value.now) (chars c.args.suffix.now))) (
      refl,
      (raw_string_derives c.args.value.now c.args.suffix.now
          (string_bytes c.in_ok-text.text) c.utf8.value c.utf8.suffix
          c.in_ok-text.ensures.possible c.in_ok-text.ensures.text),
    )
    c.in-Err.ensures.refused
