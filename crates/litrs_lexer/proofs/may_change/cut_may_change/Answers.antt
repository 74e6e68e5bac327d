-- The kind decides.
use Rattle.std.proofs.Common.{sym, subst, ◌∙◌}
use Rattle.std.specs.Str.{chars}
use Rattle.litrs_lexer.specs.Token.{IsToken}
use Rattle.litrs_lexer.specs.declared.kind.TokenKind.{TokenKind}
use Rattle.litrs_lexer.proofs.MayChange.{open_stays, open_changes, malformed_kind, malformed_token_stays, malformed_token_changes}
use Rattle.litrs_lexer.proofs.may_change.cut_may_change.Goals as goal

pub returns-then-is_malformed-clause-stays : goal.returns-then-is_malformed-clause-stays
returns-then-is_malformed-clause-stays c = λ same.
    let text = chars c.args.text.now in
    let rest = chars c.args.rest.now in
    let kind = malformed_kind c.args.kind (sym c.is_malformed.ensures ∙ c.if-is_malformed.true) in
    malformed_token_stays text rest (subst (λ (k : TokenKind). IsToken k text rest) kind c.requires) (c.prefix_may_change.ensures.stays same)

pub returns-then-is_malformed-clause-changes : goal.returns-then-is_malformed-clause-changes
returns-then-is_malformed-clause-changes c = λ other.
    let text = chars c.args.text.now in
    let rest = chars c.args.rest.now in
    let kind = malformed_kind c.args.kind (sym c.is_malformed.ensures ∙ c.if-is_malformed.true) in
    malformed_token_changes text rest (subst (λ (k : TokenKind). IsToken k text rest) kind c.requires) (c.prefix_may_change.ensures.changes other)

pub returns-else-is_malformed-clause-stays : goal.returns-else-is_malformed-clause-stays
returns-else-is_malformed-clause-stays c = λ same.
    open_stays c.args.kind (chars c.args.text.now) (chars c.args.rest.now) (sym c.is_malformed.ensures ∙ c.if-is_malformed.false) c.requires (sym c.is_open.ensures ∙ same)

pub returns-else-is_malformed-clause-changes : goal.returns-else-is_malformed-clause-changes
returns-else-is_malformed-clause-changes c = λ other.
    open_changes c.args.kind (chars c.args.text.now) (chars c.args.rest.now) (sym c.is_malformed.ensures ∙ c.if-is_malformed.false) c.requires (sym c.is_open.ensures ∙ other)
