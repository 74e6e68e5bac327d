-- The text after the front, moved by it.
use Rattle.std.proofs.Common.{◌<◌, ◌^◌, ℕ, List, length, sym, ◌∙◌, subst, arith}
use Rattle.litrs_base.specs.declared.quotes.CharKind.TheVariants.{Byte as byte_kind}
use Rattle.litrs_lex.proofs.CharByteBytes.{IsFronted, fronted, char_read, char_refused, moves, front_boundary, start_within}
use Rattle.litrs_lex.proofs.char.cut_byte.Goals as goal

pub range_from-requires : goal.range_from-requires
range_from-requires c = λ _. front_boundary byte_kind c.args.input.now c.utf8.input c.requires

pub offset_span-requires : goal.offset_span-requires
offset_span-requires c =
    let f = subst (λ (l : List ℕ). IsFronted byte_kind c.args.input.now l) (sym c.range_from.ensures.value) (fronted byte_kind c.args.input.now c.utf8.input c.requires) in
    moves byte_kind c.args.input.now c.range_from.result.now c.in-Err.e c.utf8.input f c.in-Err.ensures.refused (let small : length c.args.input.now < 2 ^ 64 = omega arith in small)

pub returns-in-Ok-clause-ok : goal.returns-in-Ok-clause-ok
returns-in-Ok-clause-ok c =
    let f = subst (λ (l : List ℕ). IsFronted byte_kind c.args.input.now l) (sym c.range_from.ensures.value) (fronted byte_kind c.args.input.now c.utf8.input c.requires) in
    (char_read byte_kind c.args.input.now c.range_from.result.now c.in-Ok.value c.in-Ok.start c.utf8.input f c.in-Ok.ensures.ok).only

pub returns-in-Ok-clause-value : goal.returns-in-Ok-clause-value
returns-in-Ok-clause-value c =
    let f = subst (λ (l : List ℕ). IsFronted byte_kind c.args.input.now l) (sym c.range_from.ensures.value) (fronted byte_kind c.args.input.now c.utf8.input c.requires) in
    (char_read byte_kind c.args.input.now c.range_from.result.now c.in-Ok.value c.in-Ok.start c.utf8.input f c.in-Ok.ensures.ok).is_value ∙ sym c.unwrap_byte.ensures

pub returns-in-Ok-clause-place : goal.returns-in-Ok-clause-place
returns-in-Ok-clause-place c =
    let f = subst (λ (l : List ℕ). IsFronted byte_kind c.args.input.now l) (sym c.range_from.ensures.value) (fronted byte_kind c.args.input.now c.utf8.input c.requires) in
    (char_read byte_kind c.args.input.now c.range_from.result.now c.in-Ok.value c.in-Ok.start c.utf8.input f c.in-Ok.ensures.ok).place

pub returns-in-Err-clause-refused : goal.returns-in-Err-clause-refused
returns-in-Err-clause-refused c =
    let f = subst (λ (l : List ℕ). IsFronted byte_kind c.args.input.now l) (sym c.range_from.ensures.value) (fronted byte_kind c.args.input.now c.utf8.input c.requires) in
    char_refused byte_kind c.args.input.now c.range_from.result.now c.in-Err.e c.offset_span.result f c.in-Err.ensures.refused c.offset_span.ensures.refusal c.offset_span.ensures.char_span

pub overflow_add-result : goal.overflow_add-result
overflow_add-result c =
    let within = start_within byte_kind c.range_from.result.now c.in-Ok.value c.in-Ok.start c.range_from.utf8 c.in-Ok.ensures.ok in
    let size = c.range_from.ensures.len in omega arith
