use Rattle.litrs_token.proofs.WrittenStrings.{string_of}
use Rattle.litrs_token.proofs.laws.written_texts_are_strings.Goals as goal

pub returns : goal.returns
returns c = string_of
