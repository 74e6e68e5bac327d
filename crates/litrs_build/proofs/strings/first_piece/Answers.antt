-- A piece is the plain ASCII at the front, or else the first character.
use Rattle.std.proofs.Common.{◌≡◌, ◌<◌, ℕ, List, [], ◌++◌, length, refl, sym, ap, ◌∙◌, arith, rules}
use Rattle.std.specs.Prelude.{encode_utf8, encode_utf8_all}
use Rattle.std.specs.List.{prefix_len}
use Rattle.std.specs.Str.{chars}
use Rattle.std.proofs.lemmas.Grind.{common_steps}
use Rattle.litrs_grammar.specs.Quoted.{item_text, body_text}
use Rattle.litrs_build.specs.Pieces.{is_plain_ascii}
use Rattle.litrs_build.specs.Spelling.{is_escaped, spelled_item}
use Rattle.litrs_build.specs.Written.{char_items}
use Rattle.litrs_build.proofs.Plain.{plain_cut, chars_plain}
use Rattle.litrs_build.proofs.Texts.{chars_step}
use Rattle.litrs_build.proofs.strings.first_piece.Goals as goal

pub split_at-requires : goal.split_at-requires
split_at-requires c =
    plain_cut c.args.text.now c.plain_len.result c.utf8.text
    (c.plain_len.ensures.len ∙ ap (prefix_len is_plain_ascii) c.as_bytes.ensures.value)

pub returns-then-not-is_empty-clause-text : goal.returns-then-not-is_empty-clause-text
returns-then-not-is_empty-clause-text c =
    let some : 0 < length c.split_at.result.0.now =
    first_of (search rules, grind (arith, common_steps)) in
    chars_plain c.args.follows_mark c.args.text.now c.split_at.result.0.now
    c.split_at.result.1.now c.plain_len.result c.utf8.text
    (c.plain_len.ensures.len ∙ ap (prefix_len is_plain_ascii) c.as_bytes.ensures.value)
    c.split_at.ensures.front c.split_at.ensures.back some

pub returns-clause-text : goal.returns-clause-text
returns-clause-text c =
    let text = c.args.text.now in
    let m = c.args.follows_mark in
    let s = c.of_char.result in
    let later = c.as_str.result.now in
    let step : text ≡ encode_utf8 c.in-Some.c ++ later = sym c.chars-chars.ensures.rest
    ∙ (c.in-Some.ensures.steps.0
    ∙ ap (λ (rest : List ℕ). encode_utf8 c.in-Some.c ++ rest) (sym c.as_str.ensures)) in
    sym (chars_step (encode_utf8_all (body_text (char_items m (chars text)))) []
    (encode_utf8_all (item_text (spelled_item s))) text later m (is_escaped s) c.in-Some.c s
    c.utf8.text step c.of_char.ensures refl refl refl)
