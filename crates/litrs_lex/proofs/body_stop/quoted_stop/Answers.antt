-- By the rest.
use Rattle.std.proofs.Common.{List, ℕ, sym, subst}
use Rattle.std.specs.Str.{chars}
use Rattle.litrs_base.specs.declared.quotes.Switches.{Switches}
use Rattle.litrs_lex.specs.BodyStop.{StopsBy}
use Rattle.litrs_lex.specs.QuotedItems.{EndsItems}
use Rattle.litrs_lex.proofs.body_stop.quoted_stop.Goals as goal

pub rest_stop-requires : goal.rest_stop-requires
rest_stop-requires g c =
    subst (λ (w : Switches). EndsItems w (chars c.range_from.result.now)) (sym c.switches.ensures)
    (subst (λ (l : List ℕ). EndsItems (g.A.Allows.allowed c.args.allowed) (chars l)) (sym c.range_from.ensures.value) c.items_end-end.ensures.ends)

pub returns-clause-stops : goal.returns-clause-stops
returns-clause-stops g c =
    subst (λ (l : List ℕ). StopsBy (g.A.Allows.allowed c.args.allowed) (chars l) c.rest_stop.result) c.range_from.ensures.value
    (subst (λ (w : Switches). StopsBy w (chars c.range_from.result.now) c.rest_stop.result) c.switches.ensures c.rest_stop.ensures)
