-- Each turn takes one character, while columns are left.
use Rattle.std.proofs.Common.{◌≡◌, ◌-◌, ◌++◌, ◌∷◌, [], length, sym, arith}
use Rattle.std.proofs.lemmas.List.{take-append-drop}
use Rattle.std.specs.Char.{encode_utf8}
use Rattle.std.specs.Str.{chars}
use Rattle.litrs_diagnostic.specs.Window.{prefix_within}
use Rattle.litrs_diagnostic.proofs.Within.{none_taken, one_taken, all_taken, none_within, wide_within, taken_boundary}
use Rattle.litrs_diagnostic.proofs.window.prefix_within.Goals as goal
use Rattle.litrs_diagnostic.proofs.window.prefix_within.Goals.{in-Some+then-columns-left, in_default}

pub loop-c-init : goal.loop-c-init
loop-c-init c = ([], [], none_taken c.args.width c.args.text.now c.utf8.text)

pub loop-c-preserved : goal.loop-c-preserved
loop-c-preserved c =
    let now = c.loop-c.invariant in (
      now.0 ++ encode_utf8 c.in-Some.c,
      now.1 ++ c.in-Some.c ∷ [],
      one_taken c.args.width c.loop-c.left c.shown_width-columns.result c.in-Some.c c.args.text.now now.0 c.loop-c.rest.now now.1 (encode_utf8 c.in-Some.c)
          c.in-Some.more.now now.2 c.in-Some.ensures.parts c.in-Some.ensures.bytes
          c.in-Some.ensures.rest c.shown_width-columns.ensures (omega arith),
    )

pub split_at-requires : goal.split_at-requires
split_at-requires c =
    let now = c.loop-c.invariant in
    taken_boundary c.args.width c.loop-c.left c.args.text.now now.0 c.loop-c.rest.now now.1 now.2

pub returns : goal.returns
returns c =
    let now = c.loop-c.invariant in
    let none : prefix_within c.loop-c.left (chars c.loop-c.rest.now) ≡ [] =
    elim c.match-split_first_char.branch [
      | in-Some+then-columns-left w ↦ wide_within c.loop-c.left w.in-Some.c (chars w.in-Some.more.now) _ w.in-Some.ensures.parts (omega (arith, w.shown_width-columns.ensures, w.if-columns-left.true))
      | in_default w ↦ none_within c.loop-c.left _ w.in_default.ensures.empty
    ] in
    let ends = all_taken c.args.width c.loop-c.left c.args.text.now now.0 c.loop-c.rest.now now.1 c.utf8.text now.2 none in
    let whole = take-append-drop (length c.args.text.now - length c.loop-c.rest.now) c.args.text.now in
    record {
      cut = (c.split_at.result.1.now, sym (rw (c.split_at.ensures.front, c.split_at.ensures.back) whole));
      prefix = rw c.split_at.ensures.front ends.prefix;
      left = rw c.split_at.ensures.front ends.remains;
      fits = rw c.split_at.ensures.front ends.fits;
    }
