-- The marked part first, then the text before and after it.
use Rattle.std.proofs.Common.{◌≡◌, ◌-◌, ℕ, List, refl, ap, ◌∙◌, sym, inl, arith}
use Rattle.std.specs.Str.{chars}
use Rattle.std.proofs.lemmas.Str.{chars-nil}
use Rattle.litrs_diagnostic.specs.Shown.{columns, shown}
use Rattle.litrs_diagnostic.specs.Window.{prefix_within, suffix_within}
use Rattle.litrs_diagnostic.specs.Rows.{line_of}
use Rattle.litrs_diagnostic.proofs.Within.{narrow, wide}
use Rattle.litrs_diagnostic.proofs.window.fitted.Goals as goal

pub is_shorter-requires-then-is_shorter : goal.is_shorter-requires-then-is_shorter
is_shorter-requires-then-is_shorter c = (c.args.line.before.now, inl refl)

pub returns-then-is_shorter : goal.returns-then-is_shorter
returns-then-is_shorter c =
    narrow c.args.width (line_of c.args.line) _ (chars c.prefix_within-rest.result.0.now) _ _
    chars-nil chars-nil
    c.prefix_within-rest.ensures.prefix (sym c.is_shorter.ensures ∙ c.if-is_shorter.true)
    c.is_shorter-then-is_shorter.ensures

pub returns : goal.returns
returns c =
    let room = c.max-room.ensures in
    let left = c.suffix_within-left.ensures.left in
    let fits = c.suffix_within-left.ensures.fits in
    let taken : c.prefix_within-rest.result.1 - (c.max-room.result - c.suffix_within-left.result.1)
    ≡ c.prefix_within-rest.result.1 - columns (shown (chars c.suffix_within-left.result.0.now)) =
    omega (arith, left, fits) in
    wide c.args.width (line_of c.args.line) (chars c.prefix_within-rest.result.0.now)
    c.prefix_within-rest.result.1 c.prefix_within-spare.result.1 _ _ _ _
    c.prefix_within-rest.ensures.prefix (sym c.is_shorter.ensures ∙ c.if-is_shorter.false)
    c.prefix_within-rest.ensures.left
    (c.prefix_within-spare.ensures.left ∙ ap (λ (l : List ℕ). c.prefix_within-rest.result.1
    - columns (shown l)) c.prefix_within-spare.ensures.prefix)
    (c.suffix_within-left.ensures.suffix ∙ ap (λ (n : ℕ). suffix_within n
    (chars c.args.line.before.now)) room)
    (c.prefix_within.ensures.prefix ∙ ap (λ (n : ℕ). prefix_within n
    (chars c.args.line.after.now)) taken)
    c.is_shorter-2.ensures c.is_shorter-3.ensures
