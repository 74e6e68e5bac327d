-- ASCII is compared; another character is not the space.
use Rattle.std.proofs.Common.{◌≡◌, false, eqb, ◌≤◌, sym, ◌∙◌, arith}
use Rattle.std.proofs.lemmas.Bool.{ltb-true, ltb-false, ne_eqb}
use Rattle.std.proofs.lemmas.Grind.{common_steps}
use Rattle.litrs_build.specs.Printable.{is_printable}
use Rattle.litrs_build.proofs.PrintableAscii.{printable_ascii}
use Rattle.litrs_build.proofs.printable.is_printable.Goals as goal
use Rattle.litrs_build.proofs.printable.is_printable.Goals.{then-contains, else-contains}

pub returns-then-is_ascii : goal.returns-then-is_ascii
returns-then-is_ascii c =
    c.is_printable_ascii.ensures
    ∙ printable_ascii c.args.c (ltb-true c.args.c 128 (sym c.is_ascii.ensures ∙ c.if-is_ascii.true))

pub returns : goal.returns
unfolding is_printable
returns c =
    let wide : 128 ≤ c.args.c =
    ltb-false c.args.c 128 (sym c.is_ascii.ensures ∙ c.if-is_ascii.false) in
    let other : eqb c.args.c 32 ≡ false = ne_eqb c.args.c 32 (λ e. omega arith) in
    elim c.if-contains.branch [
      | then-contains w ↦ grind (arith, common_steps)
      | else-contains w ↦ grind (arith, common_steps)
    ]
