-- The cut decides, if the front is that of a quoted string.
use Rattle.litrs_lex.proofs.StringFronts.{quoted_boundary}
use Rattle.litrs_token.proofs.StringTests.{quoted_derivation, quoted_none}
use Rattle.litrs_token.proofs.TokenTexts.{string_token_of}
use Rattle.litrs_token.proofs.NoTokens.{no_quoted}
use Rattle.litrs_token.proofs.kind.quoted_kind.Goals as goal

pub cut_quoted-requires : goal.cut_quoted-requires
cut_quoted-requires c =
    rw (c.front_len.ensures.quoted)
    (quoted_boundary c.args.kind c.args.text.now c.utf8.text c.requires)

pub returns-in-Ok-clause-some : goal.returns-in-Ok-clause-some
returns-in-Ok-clause-some c =
    let kind = c.args.kind in
    let is = rw (c.front_len.ensures.quoted, c.switches-unicode.ensures) at c.in-Ok.ensures.ok in
    rw (c.string_token_kind.ensures)
    (string_token_of kind _ (quoted_derivation kind c.args.text.now c.in-Ok.field-0 c.utf8.text c.requires is))

pub returns-in-Err-clause-none : goal.returns-in-Err-clause-none
returns-in-Err-clause-none c =
    let kind = c.args.kind in
    let is = rw (c.front_len.ensures.quoted, c.switches-unicode.ensures) at c.in-Err.ensures.refused in
    no_quoted kind c.args.text.now c.utf8.text c.requires
    (λ d r. quoted_none kind c.args.text.now c.in-Err.field-0 c.utf8.text c.requires is d r)
