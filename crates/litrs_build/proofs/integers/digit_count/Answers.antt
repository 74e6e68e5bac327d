-- Bare digits are their own digits.
use Rattle.std.proofs.Common.{length, sym, ap, ◌∙◌}
use Rattle.std.specs.Prelude.{filter}
use Rattle.std.specs.Char.{to_ascii_lowercase}
use Rattle.std.proofs.lemmas.List.{length-map}
use Rattle.litrs_base.specs.Numeral.{is_no_underscore}
use Rattle.litrs_build.proofs.integers.digit_count.Goals as goal

pub returns-then-is_bare : goal.returns-then-is_bare
returns-then-is_bare c =
    let main = c.args.main.now in
    ap length (sym (c.requires c.if-is_bare.true))
    ∙ length-map (filter is_no_underscore main) to_ascii_lowercase
