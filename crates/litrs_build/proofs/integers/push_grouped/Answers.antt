-- Bare digits are their own digits.
use Rattle.std.proofs.Common.{◌≡◌, List, ℕ, ◌++◌, string_bytes, sym, subst}
use Rattle.std.specs.Prelude.{OnOk}
use Rattle.litrs_build.specs.WrittenDigits.{grouped}
use Rattle.litrs_build.proofs.integers.push_grouped.Goals as goal

pub returns-then-is_bare : goal.returns-then-is_bare
returns-then-is_bare c =
    subst (λ (t : List ℕ). OnOk c.push_groups.result (string_bytes c.push_groups.new.text
    ≡ string_bytes c.args.text.now ++ grouped c.args.group t))
    (sym (c.requires.bare c.if-is_bare.true)) c.push_groups.ensures
