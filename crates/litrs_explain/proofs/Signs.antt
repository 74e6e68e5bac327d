-- The line on the sign before a number.
use Rattle.std.proofs.Common.{◌≡◌, ℕ, true, List, ◌∷◌, drop, refl, sym, ap, subst, ◌∙◌, codes}
use Rattle.std.proofs.lemmas.Bool.{false≢true}
use Rattle.std.specs.Prelude.{is_ok, IfOk}
use Rattle.std.specs.Str.{chars}
use Rattle.std.specs.declared.result.Result.{Result}
use Rattle.std.specs.declared.result.Result.TheVariants.{Ok, Err}
use Rattle.litrs_grammar.proofs.Laws.Literal.{literals_are_unique}
use Rattle.litrs_grammar.specs.Float.{FloatParts, IsFloatOf}
use Rattle.litrs_grammar.specs.Integer.{IntegerParts, IsIntegerOf}
use Rattle.litrs_grammar.specs.Literal.{Derivation, an_integer, a_float, IsLiteral, literal_kind, integer_literal, float_literal}
use Rattle.litrs_explain.specs.Report.{IsSignNote}

-- the value of a result that is `Ok`
pub of_ok : {X E D : Type 0} (r : Result X E) (P : X → Type 0) → is_ok r ≡ true → IfOk r P → ((x : X) → P x → D) → D
of_ok (Ok x) P is holds use_it = use_it x holds
of_ok (Err e) P is holds use_it = absurd (false≢true is)

kinds_differ : integer_literal ≡ float_literal → ⊥
kinds_differ e = cc

-- a text is not both an integer and a float
not_both : (text : List ℕ) (d e : Derivation) → literal_kind d ≡ integer_literal → literal_kind e ≡ float_literal → IsLiteral text d → IsLiteral text e → ⊥
not_both text d e integer float is other = kinds_differ (sym integer ∙ (ap literal_kind (literals_are_unique text d e is other) ∙ float))

-- the number after the sign
number_is : (text a b : List ℕ) → text ≡ 45 ∷ a → text ≡ 45 ∷ b → a ≡ b
number_is text a b is other = ap (drop 1) (sym is ∙ other)

pub integer_note : (text number : List ℕ) → text ≡ 45 ∷ number → ((d : IntegerParts) × IsIntegerOf (chars number) d) →
    IsSignNote text (codes "  a sign is not part of a literal: without it, this is an integer\n")
integer_note text number is found = record {
  integer = λ n. refl;
  float = λ n. absurd (not_both (chars number) (an_integer found.0) n.1 refl n.3.0 found.1
      (subst (λ (t : List ℕ). IsLiteral (chars t) n.1) (number_is text n.0 number n.2 is) n.3.1));
  other = λ none _. absurd (none (number, an_integer found.0, is, (refl, found.1)));
}

pub float_note : (text number : List ℕ) → text ≡ 45 ∷ number → ((d : FloatParts) × IsFloatOf (chars number) d) →
    IsSignNote text (codes "  a sign is not part of a literal: without it, this is a float\n")
float_note text number is found = record {
  integer = λ n. absurd (not_both (chars number) n.1 (a_float found.0) n.3.0 refl
      (subst (λ (t : List ℕ). IsLiteral (chars t) n.1) (number_is text n.0 number n.2 is) n.3.1) found.1);
  float = λ n. refl;
  other = λ _ none. absurd (none (number, a_float found.0, is, (refl, found.1)));
}
