-- The cut decides, if the front is that of a char.
use Rattle.litrs_token.proofs.TokenTexts.{char_token}
use Rattle.litrs_token.proofs.NoTokens.{no_char}
use Rattle.litrs_token.proofs.kind.char_kind.Goals as goal

pub returns-in-Ok-clause-some : goal.returns-in-Ok-clause-some
returns-in-Ok-clause-some c = char_token _ _ c.in-Ok.ensures.ok.0

pub returns-in-Err-clause-none : goal.returns-in-Err-clause-none
returns-in-Err-clause-none c =
    no_char _ c.in-Err.field-0 c.utf8.text c.requires c.in-Err.ensures.refused
