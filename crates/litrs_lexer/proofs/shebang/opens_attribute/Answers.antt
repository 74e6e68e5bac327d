-- A token that is skipped may be left out; the first that is not skipped decides.
use Rattle.std.proofs.Common.{sym, ap, subst, ◌∙◌}
use Rattle.std.specs.Str.{chars}
use Rattle.std.proofs.lemmas.Bool.{true≢false}
use Rattle.std.proofs.lemmas.Str.{chars-nil}
use Rattle.litrs_lexer.specs.Shebang.{OpensAttribute}
use Rattle.litrs_lexer.specs.Shebang.OpensAttribute.{bracket, skipped}
use Rattle.litrs_lexer.proofs.Attributes.{skip_back, stops_at, none_empty}
use Rattle.litrs_lexer.proofs.shebang.opens_attribute.Goals as goal

pub loop-kind-preserved : goal.loop-kind-preserved
loop-kind-preserved c =
    let rest = c.loop-kind.rest.now in
    let after = c.in-Some.after.now in
    let kind = c.in-Some.kind in
    let cut = c.in-Some.ensures.some in
    let skips = c.is_skipped.ensures.yes c.if-is_skipped.true in
    let inv = c.loop-kind.invariant in (
      c.in-Some.ensures.utf8,
      λ h. inv.1 (skipped kind cut.is skips.0 skips.1 h),
      λ h. skip_back kind (chars rest) (chars after) cut.is skips.0 (inv.2 h),
    )

pub returns-else-is_skipped-clause-yes : goal.returns-else-is_skipped-clause-yes
returns-else-is_skipped-clause-yes c = λ e. c.loop-kind.invariant.1 (bracket (sym c.starts_with_bracket.ensures ∙ e))

pub returns-else-is_skipped-clause-no : goal.returns-else-is_skipped-clause-no
returns-else-is_skipped-clause-no c = λ e h.
    let rest = c.loop-kind.rest.now in
    let after = c.in-Some.after.now in
    let kind = c.in-Some.kind in
    let cut = c.in-Some.ensures.some in
    true≢false (sym (stops_at kind (chars rest) (chars after) cut.is (c.is_skipped.ensures.no c.if-is_skipped.false) (c.loop-kind.invariant.2 h)) ∙ (sym c.starts_with_bracket.ensures ∙ e))

pub returns-in-None-clause-no : goal.returns-in-None-clause-no
returns-in-None-clause-no c = λ e h.
    none_empty (subst OpensAttribute (ap chars c.in-None.ensures.none ∙ chars-nil) (c.loop-kind.invariant.2 h))
