-- The item is read after the front, and the closing quote and the suffix follow it.
use Rattle.std.proofs.Common.{ℕ, List, ◌∷◌, ◌++◌, drop, sym, ap, ◌∙◌, subst, string_bytes}
use Rattle.std.specs.Str.{IsCharBoundary}
use Rattle.litrs_build.specs.BodyItem.{IsItemRead}
use Rattle.litrs_build.specs.Rewriting.{as_item}
use Rattle.litrs_build.proofs.RewrittenLiterals.{char_fronted, char_begins, char_rest_utf8, item_cut, char_place, front_slice, char_chars}
use Rattle.litrs_build.proofs.rewriting.rewritten_char.Goals as goal

pub split_at-requires : goal.split_at-requires
split_at-requires c =
    subst (λ (n : ℕ). IsCharBoundary c.args.raw.now n) (sym c.front_len.ensures)
    (char_fronted c.args.kind c.args.raw.now c.requires.0 c.utf8.raw c.requires.1).boundary

pub read_item-item-requires : goal.read_item-item-requires
read_item-item-requires c =
    let d = c.requires.0 in (
      as_item d.item,
      39 ∷ d.suffix,
      char_begins c.args.kind c.args.raw.now c.split_at.result.1.now c.switches.result d c.utf8.raw
          c.requires.1 (c.split_at.ensures.back
          ∙ ap (λ (n : ℕ). drop n c.args.raw.now) c.front_len.ensures) c.switches.ensures,
    )

pub range-requires-clause-end_boundary : goal.range-requires-clause-end_boundary
range-requires-clause-end_boundary c =
    let d = c.requires.0 in
    let after = c.split_at.ensures.back ∙ ap (λ (n : ℕ). drop n c.args.raw.now) c.front_len.ensures in
    let begins = char_begins c.args.kind c.args.raw.now c.split_at.result.1.now c.switches.result d
    c.utf8.raw c.requires.1 after c.switches.ensures in
    (item_cut c.switches.result c.split_at.result.1.now c.read_item-item.result.1 (as_item d.item)
    (39 ∷ d.suffix)
    (char_rest_utf8 c.args.kind c.args.raw.now c.split_at.result.1.now d c.utf8.raw c.requires.1 after)
    begins (c.read_item-item.ensures (as_item d.item) (39 ∷ d.suffix) begins).1).boundary

pub range_from-requires : goal.range_from-requires
range_from-requires c = λ some.
    let d = c.requires.0 in
    let after = c.split_at.ensures.back ∙ ap (λ (n : ℕ). drop n c.args.raw.now) c.front_len.ensures in
    let begins = char_begins c.args.kind c.args.raw.now c.split_at.result.1.now c.switches.result d
    c.utf8.raw c.requires.1 after c.switches.ensures in
    (item_cut c.switches.result c.split_at.result.1.now c.read_item-item.result.1 (as_item d.item)
    (39 ∷ d.suffix)
    (char_rest_utf8 c.args.kind c.args.raw.now c.split_at.result.1.now d c.utf8.raw c.requires.1 after)
    begins (c.read_item-item.ensures (as_item d.item) (39 ∷ d.suffix) begins).1).boundary

pub returns : goal.returns
returns c = λ d is.
    let rest = c.split_at.result.1.now in
    let len = c.read_item-item.result.1 in
    let after = c.split_at.ensures.back ∙ ap (λ (n : ℕ). drop n c.args.raw.now) c.front_len.ensures in
    let begins = char_begins c.args.kind c.args.raw.now rest c.switches.result d
    c.utf8.raw is after c.switches.ensures in
    let read : IsItemRead c.read_item-item.result.0 len (as_item d.item) =
    c.read_item-item.ensures (as_item d.item) (39 ∷ d.suffix) begins in
    let cut = item_cut c.switches.result rest len (as_item d.item) (39 ∷ d.suffix)
    (char_rest_utf8 c.args.kind c.args.raw.now rest d c.utf8.raw is after) begins read.1 in
    char_chars c.args.kind c.args.style.now c.args.raw.now (string_bytes c.push_str.new.self)
    (string_bytes c.push_rewriting.new.text) (string_bytes c.push_str-2.new.self) d
    c.rewriting_of-rewriting.result c.utf8.raw is
    (char_place c.args.kind c.args.raw.now c.split_at.result.0.now (string_bytes c.in_ok-text.text)
    (string_bytes c.push_str.new.self) c.front_len.result d c.utf8.raw is c.front_len.ensures
    c.split_at.ensures.front c.in_ok-text.ensures.bytes c.in_ok-push_str.ensures.bytes)
    (c.in_ok-push_rewriting.ensures (as_item d.item)
    (c.range.ensures.value ∙ (front_slice rest len ∙ cut.front)))
    (c.in_ok-push_str-2.ensures.bytes
    ∙ ap (λ (l : List ℕ). string_bytes c.push_rewriting.new.text ++ l)
    (c.range_from.ensures.value ∙ cut.back))
    (c.rewriting_of-rewriting.ensures (as_item d.item) read.0)
