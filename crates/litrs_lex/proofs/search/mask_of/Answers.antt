use Rattle.std.proofs.Common.{◌≡◌, cond, ap, sym, ◌∙◌}
use Rattle.litrs_lex.proofs.Needles.{marks_special}
use Rattle.litrs_lex.proofs.search.mask_of.Goals as goal
use Rattle.litrs_lex.proofs.search.mask_of.Goals.{then-what, else-what, then-what-2, else-what-2, then-what-3, else-what-3}

pub returns : goal.returns
returns g c =
    let second : c.if-what.second ≡ cond c.args.what.backslash 92 13 = elim c.if-what.branch [
      | then-what w ↦ w.second-is ∙ sym (ap (λ b. cond b 92 13) w.if-what.true)
      | else-what w ↦ w.second-is ∙ sym (ap (λ b. cond b 92 13) w.if-what.false)
    ] in
    let third : c.if-what-2.third ≡ cond c.args.what.nul 0 13 = elim c.if-what-2.branch [
      | then-what-2 w ↦ w.third-is ∙ sym (ap (λ b. cond b 0 13) w.if-what-2.true)
      | else-what-2 w ↦ w.third-is ∙ sym (ap (λ b. cond b 0 13) w.if-what-2.false)
    ] in
    let limit : c.if-what-3.limit ≡ cond c.args.what.non_ascii 127 255 = elim c.if-what-3.branch [
      | then-what-3 w ↦ w.limit-is ∙ sym (ap (λ b. cond b 127 255) w.if-what-3.true)
      | else-what-3 w ↦ w.limit-is ∙ sym (ap (λ b. cond b 127 255) w.if-what-3.false)
    ] in
    marks_special c.args.what c.args.lanes g.row.N _ _ _ c.fits-lanes.0 c.requires c.fits-lanes.1 second third limit
