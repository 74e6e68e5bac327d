-- Each turn appends one piece; at the end all have been appended.
use Rattle.std.proofs.Common.{◌≡◌, Bool, ◌++◌, length, encode_utf8_all, string_bytes, ap, ◌∙◌, arith, rules}
use Rattle.std.proofs.lemmas.Grind.{common_steps}
use Rattle.litrs_grammar.specs.Quoted.{body_text}
use Rattle.litrs_build.specs.CStrings.{c_items}
use Rattle.litrs_build.proofs.CTexts.{c_end}
use Rattle.litrs_build.proofs.Plain.{piece_step}
use Rattle.litrs_build.proofs.c_strings.push_c_bytes.Goals as goal

pub loop-rest-preserved : goal.loop-rest-preserved
loop-rest-preserved c =
    ap (λ (b : Bool). string_bytes c.push_to.new.text
    ++ encode_utf8_all (body_text (c_items 0 b c.first_piece.result.1.now)))
    c.is_escape-follows_mark.ensures
    ∙ piece_step _ _ _ _ _ _ c.in_ok-push_to.ensures c.first_piece.ensures.text
    c.loop-rest.invariant

pub returns : goal.returns
returns c =
    let none : length c.loop-rest.rest.now
    ≡ 0 = first_of (search rules, grind (arith, common_steps)) in
    c_end _ _ c.loop-rest.rest.now c.loop-rest.follows_mark none c.loop-rest.invariant
