-- Each turn takes one character, while columns are left.
use Rattle.std.proofs.Common.{◌≡◌, ◌++◌, ◌∷◌, [], length, reverse, sym, ap, arith}
use Rattle.std.proofs.lemmas.List.{take-append-drop}
use Rattle.std.specs.Char.{encode_utf8}
use Rattle.std.specs.Str.{chars}
use Rattle.litrs_diagnostic.specs.Window.{prefix_within}
use Rattle.litrs_diagnostic.proofs.Within.{none_taken_back, one_taken_back, all_taken_back, none_within, wide_within, taken_back_boundary, last_first}
use Rattle.litrs_diagnostic.proofs.window.suffix_within.Goals as goal
use Rattle.litrs_diagnostic.proofs.window.suffix_within.Goals.{in-Some+then-columns-left, in_default}

pub loop-more-init : goal.loop-more-init
loop-more-init c = ([], [], none_taken_back c.args.width c.args.text.now c.utf8.text)

pub loop-more-preserved : goal.loop-more-preserved
loop-more-preserved c =
    let now = c.loop-more.invariant in (
      encode_utf8 c.in-Some.c ++ now.0,
      c.in-Some.c ∷ now.1,
      one_taken_back c.args.width c.loop-more.left c.shown_width-columns.result c.in-Some.c c.args.text.now c.loop-more.rest.now now.0 now.1 (encode_utf8 c.in-Some.c)
          c.in-Some.more.now now.2 c.in-Some.ensures.parts c.in-Some.ensures.bytes
          c.in-Some.ensures.rest c.shown_width-columns.ensures (omega arith),
    )

pub split_at-requires : goal.split_at-requires
split_at-requires c =
    let now = c.loop-more.invariant in
    taken_back_boundary c.args.width c.loop-more.left c.args.text.now c.loop-more.rest.now now.0 now.1 c.utf8.text now.2

pub returns : goal.returns
returns c =
    let now = c.loop-more.invariant in
    let none : prefix_within c.loop-more.left (reverse (chars c.loop-more.rest.now)) ≡ [] =
    elim c.match-split_last_char.branch [
      | in-Some+then-columns-left w ↦ wide_within c.loop-more.left w.in-Some.c (reverse (chars w.in-Some.more.now)) _
          (last_first _ _ _ w.in-Some.ensures.parts) (omega (arith, w.shown_width-columns.ensures, w.if-columns-left.true))
      | in_default w ↦ none_within c.loop-more.left _ (ap reverse w.in_default.ensures.empty)
    ] in
    let ends = all_taken_back c.args.width c.loop-more.left c.args.text.now c.loop-more.rest.now now.0 now.1 c.utf8.text now.2 none in
    let whole = take-append-drop (length c.loop-more.rest.now) c.args.text.now in
    record {
      cut = (c.split_at.result.0.now, sym (rw (c.split_at.ensures.front, c.split_at.ensures.back) whole));
      suffix = rw c.split_at.ensures.back ends.suffix;
      left = rw c.split_at.ensures.back ends.remains;
      fits = rw c.split_at.ensures.back ends.fits;
    }
