-- The text is that of the literal that was built, or it is rewritten in the style.
use Rattle.std.proofs.Common.{◌≡◌, List, ℕ, sym, ap, subst, ◌∙◌, string_bytes}
use Rattle.std.specs.Str.{chars}
use Rattle.litrs.specs.Literal.{Derivation, IsLiteral, suffix_of}
use Rattle.litrs.specs.LiteralDerivation.{derivation, literal_raw}
use Rattle.litrs_build.specs.Rewriting.{rewritten}
use Rattle.litrs_build.specs.WrittenAnew.{HaveSameValue, unescaped}
use Rattle.litrs_build.specs.declared.style.Style.{Style}
use Rattle.uses_formatter.proofs.Raw.{raw_form, other_form}
use Rattle.uses_formatter.proofs.written.Goals as goal

pub returns-then-is_raw : goal.returns-then-is_raw
returns-then-is_raw c =
    let d = derivation c.args.lit.now in
    let built = c.in_ok-anew.anew in
    let says = c.in_ok-anew.ensures in
    let bytes = string_bytes c.in_ok-text.text in
    let same : bytes ≡ literal_raw built = c.in_ok-text.ensures.ok ∙ c.raw_input.ensures.raw in
    raw_form d (chars bytes) (sym c.is_raw.ensures ∙ c.if-is_raw.true)
    (subst (λ (t : List ℕ). IsLiteral (chars t) (unescaped d)) (sym same)
    (subst (λ (e : Derivation). IsLiteral (chars (literal_raw built)) e) says.parts says.literal))
    (subst (λ (e : Derivation). HaveSameValue d e) says.parts says.value)
    (ap suffix_of (sym says.parts) ∙ says.suffix)
    (subst (λ (e : Derivation). unescaped e ≡ e) says.parts says.again)

pub returns : goal.returns
returns c =
    let d = derivation c.args.lit.now in
    let text = chars (string_bytes c.in_ok-text-2.text) in
    let says = c.in_ok-text-2.ensures in
    let is = c.style.ensures in
    other_form d text (sym c.is_raw.ensures ∙ c.if-is_raw.false)
    (subst (λ (s : Style). IsLiteral text (rewritten s d)) is says.literal)
    (subst (λ (s : Style). HaveSameValue d (rewritten s d)) is says.value)
    (subst (λ (s : Style). suffix_of (rewritten s d) ≡ suffix_of d) is says.suffix)
    (subst (λ (s : Style). rewritten s (rewritten s d) ≡ rewritten s d) is says.again)
