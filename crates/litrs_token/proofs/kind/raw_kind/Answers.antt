-- The cut decides, if the front is that of a raw string.
use Rattle.std.proofs.Common.{ap}
use Rattle.litrs_base.specs.declared.quotes.Switches.{Switches}
use Rattle.litrs_lex.proofs.StringFronts.{raw_boundary}
use Rattle.litrs_token.proofs.StringTests.{raw_derivation, raw_none}
use Rattle.litrs_token.proofs.TokenTexts.{string_token_of}
use Rattle.litrs_token.proofs.NoTokens.{no_raw}
use Rattle.litrs_token.proofs.kind.raw_kind.Goals as goal

pub scan_raw_string-requires : goal.scan_raw_string-requires
scan_raw_string-requires c =
    rw (c.front_len.ensures.raw)
    (raw_boundary c.args.kind c.args.text.now c.utf8.text c.requires)

pub returns-in-Ok-clause-some : goal.returns-in-Ok-clause-some
returns-in-Ok-clause-some c =
    let kind = c.args.kind in
    let is = rw (c.front_len.ensures.raw, ap (λ (w : Switches). w.unicode) c.switches-switches.ensures, ap (λ (w : Switches). w.allow_nul) c.switches-switches.ensures) at c.in-Ok.ensures.ok in
    rw (c.string_token_kind.ensures)
    (string_token_of kind _ (raw_derivation kind c.args.text.now c.in-Ok.field-0 c.utf8.text c.requires is))

pub returns-in-Err-clause-none : goal.returns-in-Err-clause-none
returns-in-Err-clause-none c =
    let kind = c.args.kind in
    let is = rw (c.front_len.ensures.raw, ap (λ (w : Switches). w.unicode) c.switches-switches.ensures, ap (λ (w : Switches). w.allow_nul) c.switches-switches.ensures) at c.in-Err.ensures.refused in
    no_raw kind c.args.text.now c.utf8.text c.requires
    (λ d r. raw_none kind c.args.text.now c.in-Err.field-0 c.utf8.text c.requires is d r)
