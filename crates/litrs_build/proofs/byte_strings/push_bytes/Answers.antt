-- Each turn appends one piece; at the end all have been appended.
use Rattle.std.proofs.Common.{◌≡◌, length, arith, rules}
use Rattle.std.proofs.lemmas.Grind.{common_steps}
use Rattle.litrs_build.proofs.Plain.{piece_step}
use Rattle.litrs_build.proofs.Texts.{bytes_end}
use Rattle.litrs_build.proofs.byte_strings.push_bytes.Goals as goal

pub loop-rest-preserved : goal.loop-rest-preserved
loop-rest-preserved c =
    piece_step _ _ _ _ _ _ c.in_ok-push_to.ensures c.first_piece.ensures.text
    c.loop-rest.invariant

pub returns : goal.returns
returns c =
    let none : length c.loop-rest.rest.now
    ≡ 0 = first_of (search rules, grind (arith, common_steps)) in
    bytes_end _ _ c.loop-rest.rest.now none c.loop-rest.invariant
