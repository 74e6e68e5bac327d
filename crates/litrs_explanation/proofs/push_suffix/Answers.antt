-- Each turn adds one character; at the end all have been added.
use Rattle.std.proofs.Common.{◌≡◌, List, ℕ, sym, ap, ◌∙◌, map-id, string_bytes}
use Rattle.std.specs.Prelude.{codes}
use Rattle.std.specs.Str.{chars, encode_utf8_all}
use Rattle.std.proofs.lemmas.Iterator.{YieldsList-from_chars}
use Rattle.std.proofs.lemmas.Iterator.Consumers.{YieldsList-end}
use Rattle.litrs_explanation.specs.Explanation.{field_of_part, escaped}
use Rattle.litrs_explanation.proofs.Appending.{appended_as}
use Rattle.litrs_explanation.proofs.Explained.{more_escaped}
use Rattle.litrs_explanation.proofs.push_suffix.Goals as goal

pub loop-c-preserved : goal.loop-c-preserved
loop-c-preserved c =
    more_escaped _ _ c.loop-c.yielded c.in-Some.c c.loop-c.invariant c.in_ok-push_escaped.ensures

pub returns : goal.returns
returns c =
    let end = YieldsList-end (YieldsList-from_chars c.args.suffix.now c.utf8.suffix cc)
    c.loop-c.yielded _ c.loop-c.yielded_by _ _ c.in-None.is c.next.ensures.steps in
    let all = c.loop-c.invariant
    ∙ ap (λ (t : List ℕ). encode_utf8_all (escaped t)) (sym (map-id c.loop-c.yielded) ∙ end.0) in
    appended_as (string_bytes c.args.out.now) (string_bytes c.push_part.new.out) c.push_part.result
    (λ line. line ≡ field_of_part (codes "suffix") c.as_str.result.now)
    (λ line. line ≡ field_of_part (codes "suffix") (encode_utf8_all (escaped (chars c.args.suffix.now))))
    (λ line made. made ∙ ap (field_of_part (codes "suffix")) (c.as_str.ensures.value ∙ all))
    c.push_part.ensures
