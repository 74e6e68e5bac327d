-- The lines are those on the kind, the value and the parts, and all of them are printable.
use Rattle.std.proofs.Common.{◌≡◌, ◌++◌, ℕ, List, sym, ap, ◌∙◌, subst, append_assoc, codes, string_bytes}
use Rattle.std.specs.Str.{chars, encode_utf8_all}
use Rattle.std.proofs.lemmas.Str.{scalars-chars}
use Rattle.litrs.specs.LiteralDerivation.{derivation}
use Rattle.litrs_explanation.specs.Explanation.{IsExplanation, Shows, field_of_part, escaped}
use Rattle.litrs_explanation.proofs.Appending.{then_appended}
use Rattle.litrs_explanation.proofs.Explained.{explanation_made, explanation_pieces}
use Rattle.litrs_explanation.proofs.Printed.{kind_shows, suffix_shows, all_show}
use Rattle.litrs_explanation.proofs.push_lines.Goals as goal

pub returns : goal.returns
returns g c =
    let d = derivation c.args.literal.now in
    let kind = c.kind_name-kind.result.now in
    let suffix = c.suffix-suffix.result.now in
    let old = string_bytes c.args.out.now in
    let first = c.in_ok-push_texts.ensures in
    let second = c.in_ok-push_fields.ensures in
    then_appended old (string_bytes c.push_fields.new.out) (string_bytes c.push_suffix.new.out) (first.0 ++ second.0) c.push_suffix.result
    (λ line. line ≡ field_of_part (codes "suffix") (encode_utf8_all (escaped (chars suffix))))
    (λ lines. IsExplanation d lines × Shows lines)
    (second.1 ∙ (ap (λ (t : List ℕ). t ++ second.0) first.1 ∙ append_assoc old first.0 second.0))
    (λ added was.
    let made : (first.0 ++ second.0) ++ added ≡ kind ++ (codes "\n" ++ (second.0 ++ added)) =
    ap (λ (t : List ℕ). (t ++ second.0) ++ added) first.2 ∙ explanation_pieces kind second.0 added in
    let shown : Shows (kind ++ (codes "\n" ++ (second.0 ++ added))) =
    all_show kind second.0 added (subst Shows (sym c.kind_name-kind.ensures) (kind_shows d)) second.2.1
    (subst Shows (sym was) (suffix_shows (chars suffix) (scalars-chars suffix c.suffix-suffix.utf8))) in (
      (
        second.0,
        second.2.0,
        explanation_made kind second.0 added suffix ((first.0 ++ second.0) ++ added) d
            c.kind_name-kind.ensures was c.suffix-suffix.ensures made,
      ),
      subst Shows (sym made) shown,
    ))
    c.push_suffix.ensures
