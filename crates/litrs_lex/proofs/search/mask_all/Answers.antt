-- The marks of both loads are those of the whole, and those from the place on are kept.
use Rattle.std.proofs.Common.{◌-◌, map, length, drop, sym, ap, ◌∙◌, arith}
use Rattle.std.proofs.lemmas.List.{take_all, length-drop}
use lib.Lanes.{mask_l}
use Rattle.litrs_lex.specs.Special.{is_special}
use Rattle.litrs_lex.proofs.MarkedRuns.{loads_from, rest_within, rest_ends}
use Rattle.litrs_lex.proofs.search.mask_all.Goals as goal

pub lowest_bit_place-requires : goal.lowest_bit_place-requires
lowest_bit_place-requires c =
    let marks = loads_from (is_special c.args.what) c.args.bytes.now c.args.width c.args.start _ _ c.wide_mask-first.ensures c.wide_mask-last.ensures (omega arith) (omega arith) (omega arith) in
    rest_within (is_special c.args.what) c.args.bytes.now c.args.start _ marks (omega arith) (omega arith)

pub returns : goal.returns
returns c =
    let bytes = c.args.bytes.now in
    let from = c.args.start in
    let marks = loads_from (is_special c.args.what) bytes c.args.width from _ _ c.wide_mask-first.ensures c.wide_mask-last.ensures (omega arith) (omega arith) (omega arith) in
    let place = c.lowest_bit_place.ensures ∙ rest_ends (is_special c.args.what) bytes from _ marks (omega arith) (omega arith) in record {
      place = place;
      after = omega (arith, place);
      mask = record {
        ordered = omega arith;
        within = omega arith;
        few = omega arith;
        bits = marks ∙ ap (λ l. mask_l (map (is_special c.args.what) l)) (sym (take_all (length bytes - from) (drop from bytes) (omega (arith, length-drop from bytes))));
      };
    }
