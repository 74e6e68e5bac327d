-- The text is a C string with these parts, and they are its only parts.
use Rattle.std.proofs.Common.{sym, ap, ◌∙◌, string_bytes, arith, refl}
use Rattle.std.specs.Str.{chars}
use Rattle.litrs_grammar.specs.Literal.{string_value, a_c_string}
use Rattle.litrs_build.specs.CStrings.{written_c_string}
use Rattle.litrs_build.proofs.MemoryErrors.{out_of_memory}
use Rattle.litrs_build.proofs.CTexts.{c_string_derives, written_c_string-value}
use Rattle.litrs_build.proofs.c_strings.c_string.Goals as goal

pub returns-in-Ok-clause-written : goal.returns-in-Ok-clause-written
returns-in-Ok-clause-written c =
    ap chars c.in-Ok.ensures.raw
    ∙ sym (c_string_derives c.args.value.now c.args.suffix.now (string_bytes c.in_ok-text.text)
    (λ i. let f = c.type_inv.value i in omega arith) c.utf8.suffix
    c.in_ok-text.ensures.possible c.in_ok-text.ensures.text).spells

pub returns-in-Ok-clause-parts : goal.returns-in-Ok-clause-parts
returns-in-Ok-clause-parts c =
    sym (c.in-Ok.ensures.ok.1 (written_c_string c.args.value.now (chars c.args.suffix.now))
    (c_string_derives c.args.value.now c.args.suffix.now (string_bytes c.in_ok-text.text)
    (λ i. let f = c.type_inv.value i in omega arith) c.utf8.suffix
    c.in_ok-text.ensures.possible c.in_ok-text.ensures.text))

pub returns-in-Ok-clause-value : goal.returns-in-Ok-clause-value
returns-in-Ok-clause-value c =
    sym (ap string_value
    (c.in-Ok.ensures.ok.1 (written_c_string c.args.value.now (chars c.args.suffix.now))
    (c_string_derives c.args.value.now c.args.suffix.now (string_bytes c.in_ok-text.text)
    (λ i. let f = c.type_inv.value i in omega arith) c.utf8.suffix
    c.in_ok-text.ensures.possible c.in_ok-text.ensures.text)))
    ∙ written_c_string-value c.args.value.now (chars c.args.suffix.now)
    (λ i. let f = c.type_inv.value i in omega arith)

pub memory_error-requires : goal.memory_error-requires
memory_error-requires c =
    out_of_memory _ _ _ (a_c_string (written_c_string c.args.value.now (chars c.args.suffix.now))) (
      refl,
      (c_string_derives c.args.value.now c.args.suffix.now (string_bytes c.in_ok-text.text)
          (λ i. let f = c.type_inv.value i in omega arith) c.utf8.suffix
          c.in_ok-text.ensures.possible c.in_ok-text.ensures.text),
    )
    c.in-Err.ensures.refused
