-- The text that is parsed is the literal at the front, valid or malformed.
use Rattle.litrs_prefix.proofs.Words.{arith, derivation}
use Rattle.litrs_prefix.proofs.Marks.{malformed_marks}
use Rattle.litrs_prefix.proofs.Pieces.{front_found, front_refused}
use Rattle.litrs_prefix.proofs.parse_prefix.Goals as goal

pub split_at-requires : goal.split_at-requires
split_at-requires c = grind (arith, c.front_len-len.ensures)

pub returns-in-Ok-clause-found : goal.returns-in-Ok-clause-found
returns-in-Ok-clause-found c =
    let split = c.split_at.ensures in
    front_found c.args.text.now c.split_at.result.0.now c.split_at.result.1.now c.front_len-len.result (derivation c.in-Ok.literal) c.utf8.text split.front split.back c.front_len-len.ensures c.in-Ok.ensures.ok.0

pub returns-in-Err-clause-malformed : goal.returns-in-Err-clause-malformed
returns-in-Err-clause-malformed c =
    let split = c.split_at.ensures in
    front_refused c.args.text.now c.split_at.result.0.now c.split_at.result.1.now c.front_len-len.result c.in-Err.error c.utf8.text split.front split.back split.front_len c.front_len-len.ensures c.in-Err.ensures.refused

pub returns-in-Err-clause-marks : goal.returns-in-Err-clause-marks
returns-in-Err-clause-marks c = malformed_marks c.args.text.now _ c.utf8.text (returns-in-Err-clause-malformed c)
