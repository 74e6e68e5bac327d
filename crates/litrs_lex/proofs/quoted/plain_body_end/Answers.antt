-- There is one run of plain characters, which a quote follows or not.
use Rattle.std.proofs.Common.{◌≡◌, ℕ, Bool, true, false, Option, drop, refl, sym, ap, subst, ◌∙◌}
use Rattle.std.specs.Prelude.{◌==◌, IfSome, IfNone}
use Rattle.std.specs.Bool.{then_some}
use Rattle.std.proofs.lemmas.Bool.{true≢false}
use Rattle.std.proofs.lemmas.Str.{IsUtf8-drop}
use Rattle.litrs_base.specs.Text.{first_passes}
use Rattle.litrs_lex.specs.QuotedItems.{IsPlainBody}
use Rattle.litrs_lex.proofs.PlainRuns.{same_place}
use Rattle.litrs_lex.proofs.QuotedBytes.{quote_seen, quote_byte}
use Rattle.litrs_lex.proofs.quoted.plain_body_end.Goals as goal

some_if : (P : ℕ → Type 0) (b : Bool) (n : ℕ) → (b ≡ true → P n) → IfSome (then_some b n) P
some_if P true n holds = holds refl
some_if P false n holds = tt

none_if : (P : Type 0) (b : Bool) (n : ℕ) → (b ≡ false → P) → IfNone (then_some b n) P
none_if P true n holds = tt
none_if P false n holds = holds refl

pub returns-clause-some : goal.returns-clause-some
returns-clause-some g c =
    subst (λ (r : Option ℕ). IfSome r (IsPlainBody (g.A.Allows.allowed c.args.allowed) c.args.input.now c.args.offset)) (sym c.then_some.ensures)
    (some_if (IsPlainBody (g.A.Allows.allowed c.args.allowed) c.args.input.now c.args.offset) c.begins_with_byte.result c.first_plain_end-place.result (λ begins. record {
      run = c.first_plain_end-place.ensures;
      quote = quote_seen _ _ _ (c.as_bytes.ensures.value ∙ c.range_from.ensures.value) c.begins_with_byte.ensures begins;
    }))

pub returns-clause-none : goal.returns-clause-none
returns-clause-none g c =
    let bytes = c.args.input.now in
    let none : c.begins_with_byte.result ≡ false → (place : ℕ) → IsPlainBody (g.A.Allows.allowed c.args.allowed) bytes c.args.offset place → ⊥ = λ fails place body.
    (let same = same_place _ bytes c.args.offset _ place c.first_plain_end-place.ensures body.run in
    let quote = quote_byte (drop place bytes) (IsUtf8-drop bytes place c.utf8.input body.run.boundary) body.quote in
    let other : first_passes (λ b. b == 34) (drop place bytes) ≡ false =
    ap (λ k. first_passes (λ b. b == 34) (drop k bytes)) (sym same)
    ∙ (ap (first_passes (λ b. b == 34)) (sym c.range_from.ensures.value ∙ sym c.as_bytes.ensures.value) ∙ (sym c.begins_with_byte.ensures ∙ fails)) in
    true≢false (sym (ap (first_passes (λ b. b == 34)) quote) ∙ other)) in
    subst (λ (r : Option ℕ). IfNone r ((place : ℕ) → IsPlainBody (g.A.Allows.allowed c.args.allowed) bytes c.args.offset place → ⊥)) (sym c.then_some.ensures)
    (none_if ((place : ℕ) → IsPlainBody (g.A.Allows.allowed c.args.allowed) bytes c.args.offset place → ⊥) c.begins_with_byte.result c.first_plain_end-place.result none)
