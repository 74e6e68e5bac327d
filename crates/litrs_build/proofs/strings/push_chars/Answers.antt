-- Each turn appends one piece; at the end all have been appended.
use Rattle.std.proofs.Common.{◌≡◌, Bool, ◌++◌, length, encode_utf8_all, string_bytes, ap, ◌∙◌, arith, rules}
use Rattle.std.specs.Str.{chars}
use Rattle.std.proofs.lemmas.Grind.{common_steps}
use Rattle.litrs_grammar.specs.Quoted.{body_text}
use Rattle.litrs_build.specs.Written.{char_items}
use Rattle.litrs_build.proofs.Plain.{piece_step}
use Rattle.litrs_build.proofs.Texts.{chars_end}
use Rattle.litrs_build.proofs.strings.push_chars.Goals as goal

pub loop-rest-preserved : goal.loop-rest-preserved
loop-rest-preserved c = (
  c.first_piece.ensures.utf8,
  ap (λ (b : Bool). string_bytes c.push_to.new.text
      ++ encode_utf8_all (body_text (char_items b (chars c.first_piece.result.1.now))))
      c.is_escape-follows_mark.ensures
      ∙ piece_step _ _ _ _ _ _ c.in_ok-push_to.ensures c.first_piece.ensures.text
      c.loop-rest.invariant.1,
)

pub returns : goal.returns
returns c =
    let none : length c.loop-rest.rest.now
    ≡ 0 = first_of (search rules, grind (arith, common_steps)) in
    chars_end _ _ c.loop-rest.rest.now c.loop-rest.follows_mark none c.loop-rest.invariant.1
