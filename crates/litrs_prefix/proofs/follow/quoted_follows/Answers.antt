-- The cut decides.
use Rattle.litrs_prefix.proofs.Words.{◌≡◌, List, ℕ, sym, ap, subst, ◌∙◌, chars, switches_of, IsQuoted, IsQuotedLiteral, ends_suffix}
use Rattle.litrs_prefix.specs.Words.{HasNoDerivation}
use Rattle.litrs_lex.proofs.StringFronts.{quoted_boundary, quoted_before}
use Rattle.litrs_prefix.proofs.follow.quoted_follows.Goals as goal

pub cut_quoted-requires : goal.cut_quoted-requires
cut_quoted-requires c =
    rw (c.front_len-start.ensures.quoted)
    (quoted_boundary c.args.kind c.args.front.now c.utf8.front c.requires)

pub returns-in-Ok : goal.returns-in-Ok
returns-in-Ok c =
    let kind = c.args.kind in
    let text = c.args.front.now in
    let rest = chars c.args.rest.now in
    let is = rw (c.front_len-start.ensures.quoted, c.switches-allowed.ensures) at c.in-Ok.ensures.ok in
    let whole : IsQuotedLiteral kind (chars text) is.parts =
    subst (λ (f : List ℕ). IsQuoted f (switches_of kind) (chars text) is.parts) (quoted_before kind text c.utf8.front c.requires) is.only.0 in
    let suffix : is.parts.suffix ≡ chars c.range_from.result.now = sym (ap chars c.range_from.ensures.value ∙ is.suffix) in
    (is.parts, whole, ap (λ (l : List ℕ). ends_suffix l rest) suffix ∙ sym c.ends_suffix.ensures)

pub returns-in-Err : goal.returns-in-Err
returns-in-Err c = λ d h.
    let kind = c.args.kind in
    let text = c.args.front.now in
    let is = rw (c.front_len-start.ensures.quoted, c.switches-allowed.ensures) at c.in-Err.ensures.refused in
    let none : HasNoDerivation (IsQuotedLiteral kind (chars text)) =
    subst (λ (f : List ℕ). HasNoDerivation (IsQuoted f (switches_of kind) (chars text))) (quoted_before kind text c.utf8.front c.requires) is.none in
    none d h
