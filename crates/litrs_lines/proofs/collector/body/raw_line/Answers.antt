-- The search passes all of the line, or stops in it.
use Rattle.std.proofs.Common.{◌≡◌, ◌≤◌, List, ℕ, true, length, drop, sym, subst}
use Rattle.std.specs.Str.{IsUtf8}
use Rattle.std.proofs.lemmas.Str.{IsUtf8-drop}
use Rattle.litrs_base.specs.Text.{first_passes, begins_with}
use Rattle.litrs_grammar.specs.Raw.{is_quote, raw_closing}
use Rattle.litrs_lines.proofs.OpenBytes.{stop_by, raw_unfinished, raw_next, raw_closed, past_end}
use Rattle.litrs_lines.proofs.collector.body.raw_line.Goals as goal

pub body_end-stop-requires : goal.body_end-stop-requires
body_end-stop-requires c =
    let text : List ℕ = c.args.text.now in
    let place : ℕ = c.args.place in (
      subst (λ (l : List ℕ). place ≤ length l) (sym c.as_bytes.ensures.value) c.requires.boundary.0,
      subst (λ (l : List ℕ). IsUtf8 (drop place l)) (sym c.as_bytes.ensures.value) (IsUtf8-drop text place c.utf8.text c.requires.boundary),
    )

pub returns-then-stop-text : goal.returns-then-stop-text
returns-then-stop-text c =
    let kind = c.args.kind in
    let text : List ℕ = c.args.text.now in
    let stop = stop_by kind c.switches.result c.args.hashes c.args.place c.body_end-stop.result text c.as_bytes.result.now c.as_bytes.ensures.value c.switches.ensures c.body_end-stop.ensures.stop in (
      raw_unfinished kind c.args.hashes c.args.place c.body_end-stop.result text c.utf8.text c.requires stop c.if-stop-text.true,
      raw_next kind c.args.hashes c.args.place c.body_end-stop.result text c.utf8.text c.requires stop c.if-stop-text.true,
      past_end c.body_end-stop.result text c.if-stop-text.true,
    )

pub returns-else-stop-text : goal.returns-else-stop-text
returns-else-stop-text c =
    let kind = c.args.kind in
    let text : List ℕ = c.args.text.now in
    let end : ℕ = c.body_end-stop.result in
    let same = c.as_bytes.ensures.value in
    raw_closed kind c.args.hashes c.args.place end text c.utf8.text c.requires
    (stop_by kind c.switches.result c.args.hashes c.args.place end text c.as_bytes.result.now same c.switches.ensures c.body_end-stop.ensures.stop)
    (subst (λ (l : List ℕ). first_passes is_quote (drop end l) ≡ true → begins_with (raw_closing c.args.hashes) (drop end l) ≡ true) same c.body_end-stop.ensures.closing)
    c.if-stop-text.false
