-- If all bytes of a step are hashes, the hashes continue after it; otherwise they end at the first
-- other byte.
use Rattle.std.proofs.Common.{◌≡◌, ℕ, zero, suc, ◌+◌, ◌%◌, ◌^◌, ◌<◌, ◌≤◌, not, eqb, cond, map, List, drop, length, replicate, w8, refl, sym, ap, ◌∙◌, arith}
use Rattle.std.proofs.Math.Bool.{not-not}
use Rattle.std.specs.List.{prefix_len}
use lib.Count.{count_trailing_zeros}
use lib.Lanes.{chunk, mask_l, top, zip2}
use Rattle.std.proofs.lemmas.Simd.{length-chunk, bitmask_splat}
use Rattle.litrs_grammar.specs.Raw.{is_hash, hash_len}
use Rattle.litrs_lex.proofs.MarkedRuns.{run_through, run_stops, run_bound}
use Rattle.litrs_lex.proofs.hashes.hash_len_of_many.Goals as goal

as_hashes : (xs : List ℕ) → prefix_len (λ b. not (not (is_hash b))) xs ≡ hash_len xs
as_hashes xs i = prefix_len (λ b. not-not (is_hash b) i) xs

-- the mask of the comparison of the 16 bytes from a place on
abbrev Loaded : List ℕ → ℕ → ℕ
Loaded bytes at = mask_l (map (top 7) (zip2 (λ a b. cond (not (eqb a b)) 255 0) (chunk at 16 bytes) (replicate 16 35))) % 2 ^ 64

marks_at : (bytes : List ℕ) (at : ℕ) → at + 16 ≤ length bytes → Loaded bytes at ≡ mask_l (map (λ b. not (is_hash b)) (chunk at 16 bytes))
marks_at bytes at inside = bitmask_splat w8 (λ a b. not (eqb a b)) (chunk at 16 bytes) 16 35 (length-chunk at 16 bytes inside) (omega arith)

nonzero : (n : ℕ) → (n ≡ 0 → ⊥) → 0 < n
nonzero zero other = absurd (other refl)
nonzero (suc n) other = omega arith

pub loop-len-preserved : goal.loop-len-preserved
loop-len-preserved c =
    let bytes = c.args.bytes.now in
    let at = c.loop-len.len in
    let marks = marks_at bytes at (omega arith) in
    let none : Loaded bytes at ≡ 0 = c.if-others-ne0.false in
    let on = run_through (λ b. not (is_hash b)) bytes at 16 (Loaded bytes at) marks (omega arith) none in
    let more : hash_len (drop at bytes) ≡ 16 + hash_len (drop (at + 16) bytes) = sym (as_hashes (drop at bytes)) ∙ (on ∙ ap (λ n. 16 + n) (as_hashes (drop (at + 16) bytes))) in
    (omega (arith, more, c.loop-len.invariant.0), omega arith)

-- the hashes end at the lowest mark
lowest : (c : goal.Then-others-ne0) → hash_len (drop c.loop-len.len c.args.bytes.now) ≡ count_trailing_zeros 64 (Loaded c.args.bytes.now c.loop-len.len)
lowest c =
    let bytes = c.args.bytes.now in
    let at = c.loop-len.len in
    let marks = marks_at bytes at (omega arith) in
    let some = nonzero (Loaded bytes at) c.if-others-ne0.true in
    sym (as_hashes (drop at bytes)) ∙ run_stops (λ b. not (is_hash b)) bytes at 16 (Loaded bytes at) marks (omega arith) (omega arith) some

pub returns-then-others-ne0-clause-len : goal.returns-then-others-ne0-clause-len
returns-then-others-ne0-clause-len c =
    let end : c.loop-len.len + count_trailing_zeros 64 (Loaded c.args.bytes.now c.loop-len.len) ≡ hash_len c.args.bytes.now = omega (arith, lowest c, c.loop-len.invariant.0) in end

pub returns-then-others-ne0-clause-within : goal.returns-then-others-ne0-clause-within
returns-then-others-ne0-clause-within c =
    let end : c.loop-len.len + count_trailing_zeros 64 (Loaded c.args.bytes.now c.loop-len.len) ≤ length c.args.bytes.now =
    omega (arith, lowest c, run_bound is_hash c.args.bytes.now c.loop-len.len (omega arith)) in end
