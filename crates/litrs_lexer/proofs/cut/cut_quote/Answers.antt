-- A lifetime of each kind.
use Rattle.std.proofs.Common.{List, ℕ, ◌∷◌, sym, ap, ◌∙◌}
use Rattle.std.specs.Str.{chars}
use Rattle.litrs_lexer.specs.declared.kind.TokenKind.TheVariants.{Lifetime, RawLifetime, UnknownPrefixLifetime}
use Rattle.litrs_prefix.proofs.Ends.{end_of_end}
use Rattle.litrs_lexer.proofs.Cuts.{cut_after}
use Rattle.litrs_lexer.proofs.cut.cut_quote.Goals as goal

pub returns-in-Some-clause-cut : goal.returns-in-Some-clause-cut
returns-in-Some-clause-cut c =
    let text = c.args.text.now in
    let after = c.args.after.now in
    let name = c.in-Some.name.now in
    let rest = c.after_name.result.now in
    cut_after RawLifetime text after rest 39 c.requires (end_of_end after name rest c.in-Some.ensures.end c.after_name.ensures.end)
    (chars name, c.requires.is ∙ ap (λ (l : List ℕ). 39 ∷ l) c.in-Some.ensures.some.0, c.in-Some.ensures.some.1, c.after_name.ensures.rest)

pub returns-in-None-clause-cut : goal.returns-in-None-clause-cut
returns-in-None-clause-cut c =
    let text = c.args.text.now in
    let after = c.args.after.now in
    let rest = c.after_name-rest.result.now in
    cut_after UnknownPrefixLifetime text after rest 39 c.requires c.after_name-rest.ensures.end
    (chars after, c.requires.is, sym c.starts_with_name.ensures ∙ c.if-not-starts_with_name.false, c.after_name-rest.ensures.rest, sym c.starts_with_hash.ensures ∙ c.if-starts_with_hash.true, c.in-None.ensures.none)

pub returns-else-starts_with_hash-clause-cut : goal.returns-else-starts_with_hash-clause-cut
returns-else-starts_with_hash-clause-cut c =
    let text = c.args.text.now in
    let after = c.args.after.now in
    let rest = c.after_name-rest.result.now in
    cut_after Lifetime text after rest 39 c.requires c.after_name-rest.ensures.end
    (chars after, c.requires.is, sym c.starts_with_name.ensures ∙ c.if-not-starts_with_name.false, c.after_name-rest.ensures.rest, sym c.starts_with_single_quote.ensures ∙ c.if-starts_with_single_quote.false, sym c.starts_with_hash.ensures ∙ c.if-starts_with_hash.false)
