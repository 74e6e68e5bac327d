-- As in the search by lanes; and the marks of the last load are kept.
use Rattle.std.proofs.Common.{◌≡◌, ◌+◌, ◌-◌, ◌/◌, ◌^◌, length, sym, ap, ◌∙◌, arith, map, drop}
use Rattle.std.proofs.lemmas.List.{take_all, length-drop}
use lib.Lanes.{chunk, mask_l}
use Rattle.litrs_lex.specs.Special.{is_special}
use Rattle.litrs_lex.proofs.MarkedRuns.{run_through, run_stops, last_within, last_ends, last_marks}
use Rattle.litrs_lex.proofs.search.mask_by_lanes.Goals as goal

pub returns-then-bits-ne0 : goal.returns-then-bits-ne0
returns-then-bits-ne0 c =
    let bytes = c.args.bytes.now in
    let start = c.loop-start.start in
    let load : 32 ≡ start + 32 - start = omega arith in record {
      place = omega (arith, run_stops (is_special c.args.what) bytes start 32 _ c.mask_of-bits.ensures (omega arith) (omega arith) (omega arith), c.loop-start.invariant.0);
      after = omega arith;
      mask = record {
        ordered = omega arith;
        within = omega arith;
        few = omega arith;
        bits = c.mask_of-bits.ensures ∙ ap (λ n. mask_l (map (is_special c.args.what) (chunk start n bytes))) load;
      };
    }

pub loop-start-preserved : goal.loop-start-preserved
loop-start-preserved c = (
  omega (arith, run_through (is_special c.args.what) c.args.bytes.now c.loop-start.start 32 _ c.mask_of-bits.ensures (omega arith) (omega arith), c.loop-start.invariant.0),
  omega arith,
  omega arith,
)

pub lowest_bit_place-requires : goal.lowest_bit_place-requires
lowest_bit_place-requires c = last_within (is_special c.args.what) c.args.bytes.now c.loop-start.start 32 _ c.mask_of-last.ensures (omega arith) (omega arith) (omega arith) (omega arith)

pub returns : goal.returns
returns c =
    let bytes = c.args.bytes.now in
    let start = c.loop-start.start in
    let last = last_ends (is_special c.args.what) bytes start 32 _ c.mask_of-last.ensures (omega arith) (omega arith) (omega arith) (omega arith) in
    let end = c.lowest_bit_place.ensures ∙ last in record {
      place = omega (arith, end, c.loop-start.invariant.0);
      after = omega (arith, end);
      mask = record {
        ordered = omega arith;
        within = omega arith;
        few = omega arith;
        bits = ap (λ m. m / 2 ^ (32 - (length bytes - start))) c.mask_of-last.ensures
            ∙ (last_marks (is_special c.args.what) bytes start 32 (omega arith) (omega arith) (omega arith)
            ∙ ap (λ l. mask_l (map (is_special c.args.what) l)) (sym (take_all (length bytes - start) (drop start bytes) (omega (arith, length-drop start bytes)))));
      };
    }
