-- `_`, the empty text, and any other, which is an identifier if it is a suffix.
use Rattle.std.proofs.Common.{sym, ◌∙◌}
use Rattle.litrs_token.proofs.Idents.{lone_is_ident, empty_is_no_ident, ident_by_suffix}
use Rattle.litrs_token.proofs.ident.is_ident.Goals as goal

pub returns-in-text : goal.returns-in-text
returns-in-text c = sym (lone_is_ident _ c.in-text.is)

pub returns-in-empty : goal.returns-in-empty
returns-in-empty c = sym (empty_is_no_ident _ c.in-empty.is)

pub returns-in_default : goal.returns-in_default
returns-in_default c =
    c.is_ok.ensures.value ∙ (c.check_suffix.ensures.ok
    ∙ ident_by_suffix _ c.utf8.text c.in_default.not-empty c.in_default.not-text)
