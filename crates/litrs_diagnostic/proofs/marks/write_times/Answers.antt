-- Each turn writes a part of a run.
use Rattle.std.proofs.Common.{◌≡◌, ◌+◌, ℕ, arith, refl, rules, replicate, ap}
use Rattle.std.specs.Str.{encode_utf8_all}
use Rattle.std.proofs.Output.{has_written_append, has_written_of_eq}
use Rattle.litrs_diagnostic.specs.Shown.{glyph_char}
use Rattle.litrs_diagnostic.proofs.Glyphs.{run_cut, run_more}
use Rattle.litrs_diagnostic.proofs.marks.write_times.Goals as goal

pub loop-left-preserved : goal.loop-left-preserved
loop-left-preserved g c =
    let now = c.loop-left.invariant in
    let sum = now.1 in
    let len = c.min-len.ensures in (
      now.0 + c.min-len.result,
      omega arith,
      λ plain. let so_far = now.2 plain in
          has_written_of_eq _ _ _ _ _ (run_more c.args.glyph now.0 c.min-len.result
          (now.0 + c.min-len.result) c.run-run.result.now c.range.result.now
          c.run-run.ensures c.range.ensures.value (omega arith) refl)
          (has_written_append _ _ _ _ _ _ so_far
          (c.write_str.ensures.writes so_far.plain (search rules))),
    )

pub range-requires-clause-end_boundary : goal.range-requires-clause-end_boundary
range-requires-clause-end_boundary g c =
    run_cut c.args.glyph c.min-len.result c.run-run.result.now c.run-run.ensures
    (let len = c.min-len.ensures in omega arith)

pub returns : goal.returns
returns g c = λ plain ok.
    let now = c.loop-left.invariant in
    let sum = now.1 in
    let none = c.loop-left-test.false in
    has_written_of_eq _ _ _ _ _ (ap (λ (n : ℕ). encode_utf8_all
    (replicate n (glyph_char c.args.glyph))) (let all : now.0 ≡ c.args.count =
    omega (arith, sum, none) in all)) (now.2 plain)
