-- A suffix names a type if its bytes do.
use Rattle.std.proofs.Common.{sym, ap, ◌∙◌, inl, inr, length, ◌==◌}
use Rattle.std.proofs.lemmas.Bool.{cases_Bool, false≢true, eqb-true}
use Rattle.std.proofs.lemmas.List.{nil_from_length}
use Rattle.std.specs.Cmp.Lexicographic.{same_text, other_text}
use Rattle.litrs.specs.LiteralDerivation.{derivation}
use Rattle.litrs_value.proofs.Suffixes.{named, names, empty, empties}
use Rattle.litrs_value.proofs.type_check.has_suffix_for.Goals as goal

pub returns-then-is_empty : goal.returns-then-is_empty
returns-then-is_empty g c =
    let text = c.suffix-suffix.result.now in
    let none = nil_from_length text (eqb-true (length text) 0 (sym c.is_empty.ensures ∙ c.if-is_empty.true)) in
    (λ _. inl (sym c.suffix-suffix.ensures ∙ empty text none), λ _. c.if-is_empty.true)

pub returns-else-is_empty : goal.returns-else-is_empty
returns-else-is_empty g c =
    let text = c.suffix-suffix.result.now in
    let name = c.suffix_for.result.now in
    let d = derivation c.args.literal.now in (
      λ same. inr (sym c.suffix-suffix.ensures ∙ named c.args.ty d text (same_text text name (sym same ∙ c.eq.ensures) ∙ c.suffix_for.ensures)),
      λ is. elim is [
        | inl none ↦ absurd (false≢true (sym c.if-is_empty.false ∙ (c.is_empty.ensures ∙ ap (λ t. length t == 0) (empties text c.suffix-suffix.utf8 (c.suffix-suffix.ensures ∙ none)))))
        | inr is_name ↦ elim (cases_Bool c.eq.result) [
          | inl e ↦ e
          | inr e ↦ absurd (other_text text name (sym e ∙ c.eq.ensures) (names c.args.ty d text c.suffix-suffix.utf8 (c.suffix-suffix.ensures ∙ is_name) ∙ sym c.suffix_for.ensures))
        ]
      ],
    )
