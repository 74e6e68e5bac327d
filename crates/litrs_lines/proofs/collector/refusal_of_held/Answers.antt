-- The text that is held is not a literal without its LF, which is the character that is popped.
use Rattle.std.proofs.Common.{inl, inr, subst}
use Rattle.std.specs.Prelude.{ℕ, List, string_bytes, string_len}
use Rattle.std.specs.Str.{chars}
use Rattle.std.proofs.lemmas.Str.{IsUtf8-string_bytes}
use Rattle.litrs.specs.LiteralDerivation.{derivation}
use Rattle.litrs_grammar.specs.Literal.{IsLiteral, literal_parse}
use Rattle.litrs_grammar.specs.Refused.{IsRefused}
use Rattle.litrs_lines.proofs.StepLemmas.{lines_of_held}
use Rattle.litrs_lines.proofs.collector.refusal_of_held.Goals as goal

pub returns-in-Ok-clause-none : goal.returns-in-Ok-clause-none
returns-in-Ok-clause-none c =
    let lines = lines_of_held (string_bytes c.args.held) (string_bytes c.pop.new.self) (string_len c.args.held) (string_len c.pop.new.self) c.requires c.args.held.bytes.ok.0 c.in_ok-pop.ensures.shorter c.in_ok-pop.ensures.ascii_bytes in
    absurd (lines.1 (derivation c.in-Ok.field-0) (subst (λ (x : List ℕ). IsLiteral (chars x) (derivation c.in-Ok.field-0)) c.as_str.ensures.value c.in-Ok.ensures.ok.0))

pub returns-clause-refusal : goal.returns-clause-refusal
returns-clause-refusal c =
    let lines = lines_of_held (string_bytes c.args.held) (string_bytes c.pop.new.self) (string_len c.args.held) (string_len c.pop.new.self) c.requires c.args.held.bytes.ok.0 c.in_ok-pop.ensures.shorter c.in_ok-pop.ensures.ascii_bytes in
    elim (c.in-Err.ensures.refused) [
      | inl refused ↦ (string_bytes c.pop.new.self, IsUtf8-string_bytes c.pop.new.self, lines.0, subst (λ (x : List ℕ). IsRefused literal_parse (chars x) c.in-Err.e) c.as_str.ensures.value refused)
      | inr lack ↦ absurd (lines.1 lack.derivation (subst (λ (x : List ℕ). IsLiteral (chars x) lack.derivation) c.as_str.ensures.value lack.literal))
    ]
