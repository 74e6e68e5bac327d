-- The text of the literal is one of its kind.
use Rattle.litrs_token.proofs.TokenTexts.{byte_token}
use Rattle.litrs_token.proofs.one_kind.ByteLitOneKind.text.Goals as goal

pub returns-clause-literal : goal.returns-clause-literal
returns-clause-literal g c = byte_token _ _ c.raw_input.ensures.literal
