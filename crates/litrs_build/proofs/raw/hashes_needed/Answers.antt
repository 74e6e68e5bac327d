-- Each turn takes one character; at the end the longest run is that of the whole.
use Rattle.std.proofs.Common.{arith}
use Rattle.std.proofs.lemmas.Str.{IsUtf8-past_char}
use Rattle.litrs_build.proofs.Hashes.{greater_within}
use Rattle.litrs_build.proofs.RawTexts.{room_left, run_bound, raw_turn, raw_end}
use Rattle.litrs_build.proofs.raw.hashes_needed.Goals as goal

pub run_after-run-requires : goal.run_after-run-requires
run_after-run-requires c =
    let room = room_left _ _ _ _ _ c.in-Some.ensures.steps.0 c.loop-c.invariant.1 in omega (
      arith,
      room,
    )

pub loop-c-preserved : goal.loop-c-preserved
loop-c-preserved c = (
  IsUtf8-past_char _ _ _ c.loop-c.invariant.0 c.in-Some.ensures.steps.0,
  run_bound _ _ _ _ _ _ c.in-Some.ensures.steps.0 c.run_after-run.ensures c.loop-c.invariant.1,
  greater_within c.loop-c.most c.run_after-run.result c.greater-most.result c.greater-most.ensures,
  raw_turn _ c.loop-c.run c.loop-c.most _ _ c.in-Some.c _ _ c.loop-c.invariant.0
      c.in-Some.ensures.steps.0 c.loop-c.invariant.2
      c.run_after-run.ensures c.greater-most.ensures c.loop-c.invariant.3,
)

pub returns : goal.returns
returns c = raw_end _ c.loop-c.run c.loop-c.most _ c.loop-c.invariant.2
    c.in_default.ensures.steps.0.0 c.loop-c.invariant.3
