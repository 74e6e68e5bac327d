-- If all bytes of a step are plain, the plain bytes continue after it; else they end at the
-- lowest.
use Rattle.std.proofs.Common.{◌≡◌, ℕ, ◌+◌, ◌-◌, not, map, List, take, drop, length, refl, sym, ap, ◌∙◌, arith}
use Rattle.std.proofs.Math.Bool.{not-not}
use Rattle.std.specs.List.{prefix_len}
use lib.Count.{count_trailing_zeros}
use lib.Lanes.{chunk, mask_l}
use Rattle.litrs_lex.proofs.FloatBytes.{rest_is}
use Rattle.litrs_lex.proofs.MarkedRuns.{run_through, run_stops, run_bound}
use Rattle.litrs_build.specs.Pieces.{is_plain}
use Rattle.litrs_build.specs.declared.pieces.Charset.{Charset}
use Rattle.litrs_build.proofs.PlainLanes.{is_other}
use Rattle.litrs_build.proofs.pieces.plain_len_by_lanes.Goals as goal

abbrev plain : Charset → List ℕ → ℕ
plain set = prefix_len (is_plain set)

-- the marks of the 16 bytes from a place on
abbrev Step : Charset → List ℕ → ℕ → ℕ
Step set bytes at =
    mask_l (map (is_other set) (chunk 0 16 (take (length bytes - at) (drop at bytes))))

as_plain : (set : Charset) (xs : List ℕ) →
    prefix_len (λ b. not (is_other set b)) xs ≡ plain set xs
as_plain set xs i = prefix_len (λ b. not-not (is_plain set b) i) xs

step_marks : (set : Charset) (bytes : List ℕ) (at : ℕ) →
    Step set bytes at ≡ mask_l (map (is_other set) (chunk at 16 bytes))
step_marks set bytes at =
    ap (λ l. mask_l (map (is_other set) (chunk 0 16 l))) (rest_is bytes bytes at refl)

pub loop-len-preserved : goal.loop-len-preserved
loop-len-preserved c =
    let bytes = c.args.bytes.now in
    let at = c.loop-len.len in
    let set = c.args.charset in
    let marks = c.other_marks-others.ensures ∙ step_marks set bytes at in
    let on = run_through (is_other set) bytes at 16 _ marks (omega arith) (omega arith) in
    let more : plain set (drop at bytes) ≡ 16 + plain set (drop (at + 16) bytes) =
    sym (as_plain set (drop at bytes))
    ∙ (on ∙ ap (λ n. 16 + n) (as_plain set (drop (at + 16) bytes))) in
    (omega (arith, more, c.loop-len.invariant.0), omega arith)

-- the plain bytes end at the lowest mark
lowest : (c : goal.Then-others-ne0) →
    plain c.args.charset (drop c.loop-len.len c.args.bytes.now)
    ≡ count_trailing_zeros 64 c.other_marks-others.result
lowest c =
    let bytes = c.args.bytes.now in
    let at = c.loop-len.len in
    let set = c.args.charset in
    let marks = c.other_marks-others.ensures ∙ step_marks set bytes at in
    sym (as_plain set (drop at bytes))
    ∙ run_stops (is_other set) bytes at 16 _ marks (omega arith) (omega arith) (omega arith)

pub returns-then-others-ne0-clause-len : goal.returns-then-others-ne0-clause-len
returns-then-others-ne0-clause-len c = omega (arith, lowest c, c.loop-len.invariant.0)

pub returns-then-others-ne0-clause-within : goal.returns-then-others-ne0-clause-within
returns-then-others-ne0-clause-within c =
    omega (
      arith,
      lowest c,
      run_bound (is_plain c.args.charset) c.args.bytes.now c.loop-len.len (omega arith),
    )
