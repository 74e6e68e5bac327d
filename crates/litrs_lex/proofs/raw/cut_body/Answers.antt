-- Each exit is a row of the refusals of a body.
use Rattle.std.proofs.Common.{◌≡◌, ◌+◌, ◌≤◌, ℕ, drop, get_or, length, List, Some, refl, sym, ap, subst, ◌∙◌, arith}
use Rattle.std.specs.Str.{chars, IsUtf8}
use Rattle.std.proofs.lemmas.Bool.{ne_eqb}
use Rattle.std.proofs.lemmas.Str.{IsUtf8-drop, IsCharBoundary-from_drop}
use Rattle.litrs_base.specs.Refusal.{at_byte}
use Rattle.litrs_grammar.specs.Suffix.{is_suffix, suffix_kind}
use Rattle.litrs_lex.proofs.RawBytes.{stop_of, closing_of, open_body, refused_body, suffix_refused, body_cut, none_at, cons_at}
use Rattle.litrs_lex.proofs.raw.cut_body.Goals as goal

pub returns-then-end-bytes-clause-refused : goal.returns-then-end-bytes-clause-refused
returns-then-end-bytes-clause-refused c =
    let text = c.args.input.now in
    let bytes = c.as_bytes-bytes.result.now in
    let same = c.as_bytes-bytes.ensures.value in
    let start = c.args.start in
    let n = c.args.hashes in
    let place = c.body_end-end.result in
    let utf8 = IsUtf8-drop text start c.utf8.input c.requires in
    let stop = stop_of c.args.allowed.unicode c.args.allowed.allow_nul n start place bytes text same c.body_end-end.ensures.stop in
    open_body c.args.allowed.unicode c.args.allowed.allow_nul n start place text utf8 stop (none_at bytes text place same c.if-end-bytes.true)

pub returns-then-byte-ne34-clause-refused : goal.returns-then-byte-ne34-clause-refused
returns-then-byte-ne34-clause-refused c =
    let text = c.args.input.now in
    let bytes = c.as_bytes-bytes.result.now in
    let same = c.as_bytes-bytes.ensures.value in
    let start = c.args.start in
    let n = c.args.hashes in
    let place = c.body_end-end.result in
    let utf8 = IsUtf8-drop text start c.utf8.input c.requires in
    let stop = stop_of c.args.allowed.unicode c.args.allowed.allow_nul n start place bytes text same c.body_end-end.ensures.stop in
    let b = get_or bytes place 0 in
    refused_body c.args.allowed.unicode c.args.allowed.allow_nul n start place b text (drop (place + 1) text) utf8 stop (cons_at bytes text place b same stop.within c.if-end-bytes.false refl) (ne_eqb b 34 c.if-byte-ne34.true)
    ∙ ap (λ k. Some (at_byte place k)) (sym c.char_refusal.ensures)

pub split_at-requires : goal.split_at-requires
split_at-requires c =
    let text = c.args.input.now in
    let bytes = c.as_bytes-bytes.result.now in
    let same = c.as_bytes-bytes.ensures.value in
    let start = c.args.start in
    let n = c.args.hashes in
    let place = c.body_end-end.result in
    let closing = closing_of c.args.allowed.unicode c.args.allowed.allow_nul n start place bytes text same c.body_end-end.ensures.stop c.body_end-end.ensures.closing c.if-end-bytes.false c.if-byte-ne34.false in
    IsCharBoundary-from_drop text (place + 1 + n) closing.within closing.utf8

pub returns-in-Ok-clause-ok : goal.returns-in-Ok-clause-ok
returns-in-Ok-clause-ok c =
    let text = c.args.input.now in
    let bytes = c.as_bytes-bytes.result.now in
    let same = c.as_bytes-bytes.ensures.value in
    let start = c.args.start in
    let n = c.args.hashes in
    let place = c.body_end-end.result in
    let utf8 = IsUtf8-drop text start c.utf8.input c.requires in
    let stop = stop_of c.args.allowed.unicode c.args.allowed.allow_nul n start place bytes text same c.body_end-end.ensures.stop in
    let closing = closing_of c.args.allowed.unicode c.args.allowed.allow_nul n start place bytes text same c.body_end-end.ensures.stop c.body_end-end.ensures.closing c.if-end-bytes.false c.if-byte-ne34.false in
    let back : chars (drop (place + 1 + n) text) ≡ chars c.split_at.result.1.now = ap chars (sym c.split_at.ensures.back) in
    body_cut c.args.allowed.unicode c.args.allowed.allow_nul n start place text utf8 stop closing (ap is_suffix back ∙ sym c.in-Ok.ensures.ok)

pub returns-in-Err-clause-refused : goal.returns-in-Err-clause-refused
returns-in-Err-clause-refused c =
    let text = c.args.input.now in
    let bytes = c.as_bytes-bytes.result.now in
    let same = c.as_bytes-bytes.ensures.value in
    let start = c.args.start in
    let n = c.args.hashes in
    let place = c.body_end-end.result in
    let utf8 = IsUtf8-drop text start c.utf8.input c.requires in
    let stop = stop_of c.args.allowed.unicode c.args.allowed.allow_nul n start place bytes text same c.body_end-end.ensures.stop in
    let closing = closing_of c.args.allowed.unicode c.args.allowed.allow_nul n start place bytes text same c.body_end-end.ensures.stop c.body_end-end.ensures.closing c.if-end-bytes.false c.if-byte-ne34.false in
    let back : chars (drop (place + 1 + n) text) ≡ chars c.split_at.result.1.now = ap chars (sym c.split_at.ensures.back) in
    suffix_refused c.args.allowed.unicode c.args.allowed.allow_nul n start place text utf8 stop closing (ap is_suffix back ∙ sym c.in-Err.ensures.ok)
    ∙ ap (λ k. Some (at_byte (place + 1 + n) k)) (ap suffix_kind back ∙ sym c.in-Err.ensures.err)

pub overflow_add-place-2 : goal.overflow_add-place-2
overflow_add-place-2 c =
    let text = c.args.input.now in
    let bytes = c.as_bytes-bytes.result.now in
    let same = c.as_bytes-bytes.ensures.value in
    let start = c.args.start in
    let n = c.args.hashes in
    let place = c.body_end-end.result in
    let utf8 = IsUtf8-drop text start c.utf8.input c.requires in
    let stop = stop_of c.args.allowed.unicode c.args.allowed.allow_nul n start place bytes text same c.body_end-end.ensures.stop in
    let closing = closing_of c.args.allowed.unicode c.args.allowed.allow_nul n start place bytes text same c.body_end-end.ensures.stop c.body_end-end.ensures.closing c.if-end-bytes.false c.if-byte-ne34.false in
    let size : length bytes ≡ length text = ap length same in
    let small = c.as_bytes-bytes.type_inv.0 in
    omega (arith, closing.within)

pub body_end-end-requires : goal.body_end-end-requires
body_end-end-requires c =
    let text = c.args.input.now in
    let start = c.args.start in
    subst (λ (l : List ℕ). (start ≤ length l) × IsUtf8 (drop start l)) (sym c.as_bytes-bytes.ensures.value) (c.requires.0, IsUtf8-drop text start c.utf8.input c.requires)
