-- The period, and then the digits.
use Rattle.std.proofs.Common.{ℕ, List, Bor, [], ◌∷◌, ◌++◌, string_bytes, sym, ap, ◌∙◌}
use Rattle.std.specs.Prelude.{Option, option_map}
use Rattle.std.proofs.lemmas.List.{append_assoc}
use Rattle.litrs_grammar.specs.Float.{fraction_text}
use Rattle.litrs_build.specs.RewrittenFloat.{regrouped_fraction}
use Rattle.litrs_build.proofs.float_style.push_fraction.Goals as goal

pub returns-in_ok-push_after_period-in-Some : goal.returns-in_ok-push_after_period-in-Some
returns-in_ok-push_after_period-in-Some c =
    let old = string_bytes c.args.text.now in
    let group = c.args.group in
    c.in_ok-push_after_period-in-Some.ensures
    ∙ (ap (λ (t : List ℕ). t ++ regrouped_fraction group c.as_bytes.result.now)
    c.in_ok-push_str-in-Some.ensures.bytes
    ∙ (append_assoc old (46 ∷ []) (regrouped_fraction group c.as_bytes.result.now)
    ∙ (ap (λ (t : List ℕ). old ++ (46 ∷ regrouped_fraction group t)) c.as_bytes.ensures.value
    ∙ ap (λ (f : Option (Bor (List ℕ))). old ++ fraction_text
    (option_map (λ (digits : Bor (List ℕ)). regrouped_fraction group digits.now) f))
    (sym c.in-Some.is))))
