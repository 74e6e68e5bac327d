-- The text after the sign is parsed.
use Rattle.std.proofs.Common.{◌≡◌, ◌≢◌, ℕ, List, ◌∷◌, Some, None, refl, sym, ◌∙◌, lit<}
use Rattle.std.proofs.lemmas.Str.Pattern.{strip_prefix_char}
use Rattle.litrs.specs.FloatLiteral.{float_parts}
use Rattle.litrs.specs.IntegerLiteral.{integer_parts}
use Rattle.litrs_explain.proofs.Signs.{of_ok, integer_note, float_note}
use Rattle.litrs_explain.proofs.report.sign_note.Goals as goal

pub returns-in_default : goal.returns-in_default
returns-in_default c =
    let none : (rest : List ℕ) → c.args.text.now ≢ 45 ∷ rest = strip_prefix_char 45 c.args.text.now None c.in_default.ensures.cases (lit< tt) in
    record {
      integer = λ n. absurd (none n.0 n.2);
      float = λ n. absurd (none n.0 n.2);
      other = λ _ _. refl;
    }

pub returns-then-is_ok : goal.returns-then-is_ok
returns-then-is_ok c =
    let is : c.args.text.now ≡ 45 ∷ c.in-Some.number.now = strip_prefix_char 45 c.args.text.now (Some c.in-Some.number) c.in-Some.ensures.cases (lit< tt) in
    integer_note c.args.text.now c.in-Some.number.now is
    (of_ok c.parse.result _ (sym c.is_ok.ensures.value ∙ c.if-is_ok.true) c.parse.ensures.ok (λ lit only. (integer_parts lit, only.0)))

pub returns-then-is_ok-2 : goal.returns-then-is_ok-2
returns-then-is_ok-2 c =
    let is : c.args.text.now ≡ 45 ∷ c.in-Some.number.now = strip_prefix_char 45 c.args.text.now (Some c.in-Some.number) c.in-Some.ensures.cases (lit< tt) in
    float_note c.args.text.now c.in-Some.number.now is
    (of_ok c.parse-else-is_ok.result _ (sym c.is_ok-else-is_ok.ensures.value ∙ c.if-is_ok-2.true) c.parse-else-is_ok.ensures.ok (λ lit only. (float_parts lit, only.0)))
