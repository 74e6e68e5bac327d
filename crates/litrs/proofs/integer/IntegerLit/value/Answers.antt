-- The main part is ASCII, so that its bytes are its characters.
use Rattle.std.proofs.Common.{◌≡◌, ◌≤◌, ℕ, true, ap, ◌∙◌, subst}
use Rattle.std.specs.Option.{SomeIff}
use Rattle.std.specs.List.{list_all}
use Rattle.litrs_base.specs.declared.integer.IntegerBase.{IntegerBase}
use Rattle.litrs_base.specs.Base.{base_value, is_digit_or_underscore}
use Rattle.litrs.specs.IntegerLiteral.{IntegerLiteral, integer_parts}
use Rattle.litrs_base.specs.Numeral.{numeral}
use Rattle.litrs_lex.proofs.NumeralLemmas.{bytes_of_digits}
use Rattle.litrs.proofs.integer.IntegerLit.value.Goals as goal

pub value_of-requires : goal.value_of-requires
value_of-requires g c =
    let digits = subst (λ (lit : IntegerLiteral g.row.B.Denot). list_all (is_digit_or_underscore lit.cut.base) (integer_parts lit).main ≡ true) c.self.view_is c.self.invariant.integer.grammar.digits in
    let base = ap (λ (lit : IntegerLiteral g.row.B.Denot). lit.cut.base) c.self.view_is in
    let bytes = bytes_of_digits c.args.self.now.cut.base c.raw_main_part.result.now _ c.raw_main_part.utf8 c.raw_main_part.ensures digits in
    ap (λ (b : IntegerBase). list_all (is_digit_or_underscore b) c.as_bytes.result.now) base
    ∙ (ap (list_all (is_digit_or_underscore c.args.self.now.cut.base)) (c.as_bytes.ensures.value ∙ bytes) ∙ digits)

pub returns : goal.returns
returns g c =
    let digits = subst (λ (lit : IntegerLiteral g.row.B.Denot). list_all (is_digit_or_underscore lit.cut.base) (integer_parts lit).main ≡ true) c.self.view_is c.self.invariant.integer.grammar.digits in
    let base = ap (λ (lit : IntegerLiteral g.row.B.Denot). lit.cut.base) c.self.view_is in
    let bytes = bytes_of_digits c.args.self.now.cut.base c.raw_main_part.result.now _ c.raw_main_part.utf8 c.raw_main_part.ensures digits in
    let number : ℕ → Type 0 = λ n. SomeIff c.value_of.result (n ≤ g.N.FromIntegerLiteral.greatest) (g.N.FromIntegerLiteral.of n) in
    subst number (ap (λ (b : IntegerBase). numeral (base_value b) c.as_bytes.result.now) base ∙ ap (numeral (base_value c.args.self.now.cut.base)) (c.as_bytes.ensures.value ∙ bytes)) c.value_of.ensures
