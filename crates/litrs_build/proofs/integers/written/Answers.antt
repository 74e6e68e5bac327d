-- The text is the integer that is built, and has no other parts.
use Rattle.std.proofs.Common.{sym}
use Rattle.std.specs.Prelude.{string_bytes}
use Rattle.std.specs.Str.{chars}
use Rattle.litrs_grammar.specs.Integer.{IsIntegerOf}
use Rattle.litrs.specs.Digits.{digits_of}
use Rattle.litrs_build.specs.BuiltInteger.{built_integer}
use Rattle.litrs_build.proofs.GroupLemmas.{all_digits_of, some_digit_of}
use Rattle.litrs_build.proofs.IntegerLemmas.{is_built, text_of, main_is_ascii}
use Rattle.litrs_build.proofs.integers.written.Goals as goal

pub written_text-requires-clause-ascii : goal.written_text-requires-clause-ascii
written_text-requires-clause-ascii c = main_is_ascii c.args.base c.args.main.now c.requires.digits

pub integer_of-requires : goal.integer_of-requires
integer_of-requires c =
    let base = c.args.base in
    let main = c.args.main.now in
    let all = all_digits_of base main c.requires.digits in
    let filled = some_digit_of base main c.requires.some_digit in (
      built_integer base c.args.group (digits_of main) (chars c.args.suffix.now),
      record {
        spells = sym (text_of base c.args.group (digits_of main) c.args.suffix.now
            (string_bytes c.in_ok-text.text) all c.in_ok-text.ensures);
        grammar = is_built base c.args.group (digits_of main)
            (chars c.args.suffix.now) filled all c.requires.suffix;
      },
    )

pub returns-clause-parts : goal.returns-clause-parts
returns-clause-parts c =
    let base = c.args.base in
    let main = c.args.main.now in
    let d = built_integer base c.args.group (digits_of main) (chars c.args.suffix.now) in
    let all = all_digits_of base main c.requires.digits in
    let filled = some_digit_of base main c.requires.some_digit in
    let is : IsIntegerOf (chars (string_bytes c.in_ok-text.text)) d = record {
      spells = sym (text_of base c.args.group (digits_of main) c.args.suffix.now
          (string_bytes c.in_ok-text.text) all c.in_ok-text.ensures);
      grammar = is_built base c.args.group (digits_of main)
          (chars c.args.suffix.now) filled all c.requires.suffix;
    } in
    sym (c.integer_of.ensures.only.1 d is)
