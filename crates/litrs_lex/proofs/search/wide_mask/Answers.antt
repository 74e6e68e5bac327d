-- Of 8 bytes the upper half of the lanes is left out, and of 16 none.
use Rattle.std.proofs.Common.{◌≡◌, ◌⊎◌, ◌++◌, ◌-◌, ◌+◌, ◌≤◌, map, length, ap, ◌∙◌, arith, inl, inr}
use Rattle.std.proofs.lemmas.Simd.{pick_l_whole, length-chunk}
use Rattle.std.proofs.lemmas.List.{length-append}
use lib.Lanes.{chunk, mask_l}
use Rattle.litrs_lex.specs.Special.{is_special}
use Rattle.litrs_lex.proofs.MarkedRuns.{two_halves}
use Rattle.litrs_lex.proofs.search.wide_mask.Goals as goal

pub returns : goal.returns
returns c =
    let bytes = c.args.bytes.now in
    let i = c.args.at in
    let n = c.args.width in
    let cases : (n ≡ 8) ⊎ (n ≡ 16) = elim c.requires.width [
      | inl e ↦ let no : ⊥ = omega arith in absurd no
      | inr w ↦ w
    ] in
    let least : 8 ≤ n = elim cases [ inl e ↦ omega arith | inr e ↦ omega arith ] in
    let both = chunk i 8 bytes ++ chunk (i + n - 8) 8 bytes in
    let size : length both ≡ 16 =
    omega (arith, length-append (chunk i 8 bytes) (chunk (i + n - 8) 8 bytes), length-chunk i 8 bytes (omega arith), length-chunk (i + n - 8) 8 bytes (omega arith)) in
    two_halves (is_special c.args.what) bytes i n _ (c.mask_of-2.ensures ∙ ap (λ l. mask_l (map (is_special c.args.what) l)) (pick_l_whole 0 both 16 size)) cases c.requires.within
