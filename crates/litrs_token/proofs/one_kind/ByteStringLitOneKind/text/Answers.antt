-- The text of the literal is one of its kind.
use Rattle.litrs_base.specs.declared.quotes.StringKind.TheVariants.{ByteString as byte_string_kind}
use Rattle.litrs_token.proofs.TokenTexts.{string_token_of}
use Rattle.litrs_token.proofs.one_kind.ByteStringLitOneKind.text.Goals as goal

pub returns-clause-literal : goal.returns-clause-literal
returns-clause-literal g c = string_token_of byte_string_kind _ (_, c.raw_input.ensures.literal)
