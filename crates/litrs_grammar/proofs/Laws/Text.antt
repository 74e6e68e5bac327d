-- Places and spans in texts.
use Rattle.std.proofs.Common.{sym, subst, ◌∙◌, arith, inl, inr}
use Rattle.std.proofs.lemmas.Bool.{cases_lt}
use Rattle.litrs_base.specs.Text.{byte_len}
use Rattle.litrs_base.specs.CharEnd.{IsBoundaryOf}
use Rattle.litrs_base.proofs.CharEnds.{front_boundary}
use Rattle.litrs_grammar.specs.Laws.Text.{CharEndsAreUnique, SpansStartOnBoundaries}

pub char_ends_are_unique : CharEndsAreUnique
char_ends_are_unique t end p q is also = elim (cases_lt (byte_len t) end) [
  | inl past ↦ is.past past ∙ sym (also.past past)
  | inr within ↦
      elim (cases_lt p q) [
        | inl below ↦ absurd (also.least p is.at_or_after below (is.boundary within))
        | inr above ↦
            elim (cases_lt q p) [
              | inl below ↦ absurd (is.least q also.at_or_after below (also.boundary within))
              | inr same ↦ omega arith
            ]
      ]
]

pub spans_start_on_boundaries : SpansStartOnBoundaries
spans_start_on_boundaries t span is =
    (subst (IsBoundaryOf t) (sym is.start) (front_boundary t is.front is.rest is.cut), is.in_order, is.within)
