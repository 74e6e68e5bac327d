-- The letter, and text after it.
use Rattle.std.proofs.Common.{sym, ap, ◌∙◌}
use Rattle.litrs_base.specs.Characters.{nul_is_allowed}
use Rattle.litrs_lex.proofs.QuotedBytes.{simple_at}
use Rattle.litrs_lex.proofs.stop.simple_item.Goals as goal

pub returns-in-Some : goal.returns-in-Some
returns-in-Some c =
    simple_at _ c.args.rest.now c.as_bytes.result.now c.in-Some.value c.utf8.rest c.requires c.as_bytes.ensures.value c.in-len3-up.len_at_least c.in-Some.ensures.0 c.in-Some.ensures.1
    (ap (nul_is_allowed c.args.allowed.allow_nul) (sym c.from.ensures) ∙ sym c.if-allows_value.ensures)
