-- If no byte of a step is marked, the run continues after it; otherwise it ends at the lowest mark.
use Rattle.std.proofs.Common.{◌≡◌, ℕ, ◌+◌, ◌-◌, not, map, List, take, drop, length, refl, sym, ap, ◌∙◌, arith}
use Rattle.std.proofs.Math.Bool.{not-not}
use Rattle.std.specs.List.{prefix_len}
use lib.Count.{count_trailing_zeros}
use lib.Lanes.{chunk, mask_l}
use Rattle.litrs_lex.proofs.FloatBytes.{rest_is}
use Rattle.litrs_lex.proofs.MarkedRuns.{run_through, run_stops}
use Rattle.litrs_lexer.specs.declared.ascii.Class.{Class}
use Rattle.litrs_lexer.specs.Cut.{is_of_class}
use Rattle.litrs_lexer.proofs.ascii.class_len.Goals as goal

-- the marks of the 16 bytes from a place on
abbrev Step : Class → List ℕ → ℕ → ℕ
Step class bytes at = mask_l (map (λ b. not (is_of_class class b)) (chunk 0 16 (take (length bytes - at) (drop at bytes))))

as_run : (class : Class) (xs : List ℕ) → prefix_len (λ b. not (not (is_of_class class b))) xs ≡ prefix_len (is_of_class class) xs
as_run class xs i = prefix_len (λ b. not-not (is_of_class class b) i) xs

-- the marks of a step, over the whole text
step_marks : (class : Class) (bytes : List ℕ) (at : ℕ) → Step class bytes at ≡ mask_l (map (λ b. not (is_of_class class b)) (chunk at 16 bytes))
step_marks class bytes at = ap (λ l. mask_l (map (λ b. not (is_of_class class b)) (chunk 0 16 l))) (rest_is bytes bytes at refl)

pub loop-len-preserved : goal.loop-len-preserved
loop-len-preserved c =
    let bytes = c.args.bytes.now in
    let class = c.args.class in
    let at = c.loop-len.len in
    let marks = c.other_marks-others.ensures ∙ step_marks class bytes at in
    let on = run_through (λ b. not (is_of_class class b)) bytes at 16 _ marks (omega arith) (omega arith) in
    let more : prefix_len (is_of_class class) (drop at bytes) ≡ 16 + prefix_len (is_of_class class) (drop (at + 16) bytes) =
    sym (as_run class (drop at bytes)) ∙ (on ∙ ap (λ n. 16 + n) (as_run class (drop (at + 16) bytes))) in
    (omega (arith, more, c.loop-len.invariant.0), omega arith)

-- the run ends at the lowest mark
lowest : (c : goal.Then-others-ne0) → prefix_len (is_of_class c.args.class) (drop c.loop-len.len c.args.bytes.now) ≡ count_trailing_zeros 64 c.other_marks-others.result
lowest c =
    let bytes = c.args.bytes.now in
    let class = c.args.class in
    let at = c.loop-len.len in
    let marks = c.other_marks-others.ensures ∙ step_marks class bytes at in
    sym (as_run class (drop at bytes)) ∙ run_stops (λ b. not (is_of_class class b)) bytes at 16 _ marks (omega arith) (omega arith) (omega arith)

pub returns-then-others-ne0 : goal.returns-then-others-ne0
returns-then-others-ne0 c = omega (arith, lowest c, c.loop-len.invariant.0)
