-- A piece is the plain ASCII at the front, or else the first character or byte.
use Rattle.std.proofs.Common.{◌<◌, [], length, refl, sym, arith, rules}
use Rattle.std.specs.Prelude.{encode_utf8_all}
use Rattle.std.proofs.lemmas.Grind.{common_steps}
use Rattle.std.proofs.lemmas.List.{take_rest}
use Rattle.litrs_grammar.specs.Quoted.{item_text, body_text}
use Rattle.litrs_build.specs.CStrings.{first_char, c_items}
use Rattle.litrs_build.specs.Spelling.{is_escaped, spelled_item}
use Rattle.litrs_build.proofs.CTexts.{c_step}
use Rattle.litrs_build.proofs.Plain.{c_plain}
use Rattle.litrs_build.proofs.c_strings.first_piece.Goals as goal

pub returns-then-not-is_empty-clause-text : goal.returns-then-not-is_empty-clause-text
returns-then-not-is_empty-clause-text c =
    let bytes = c.args.bytes.now in
    let some : 0 < length c.plain_front-plain.result.now =
    first_of (search rules, grind (arith, common_steps)) in
    c_plain c.args.follows_mark bytes c.plain_front-plain.result.now _
    c.plain_front-plain.ensures (take_rest bytes _) some

pub returns-clause-text : goal.returns-clause-text
returns-clause-text c =
    let bytes = c.args.bytes.now in
    let m = c.args.follows_mark in
    let s = c.first_spelling-spelling.result.0 in
    let n = c.first_spelling-spelling.result.1 in
    sym (c_step (encode_utf8_all (body_text (c_items 0 m bytes))) []
    (encode_utf8_all (item_text (spelled_item s))) bytes _ m (is_escaped s) _ n
    (first_char bytes) s c.requires refl refl
    c.first_spelling-spelling.ensures.spelling c.first_spelling-spelling.ensures.count refl refl
    (take_rest bytes n) refl)
