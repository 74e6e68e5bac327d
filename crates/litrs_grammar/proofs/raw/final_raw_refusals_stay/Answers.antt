use Rattle.litrs_grammar.proofs.LongerTexts.Raw.{raw_final}
use Rattle.litrs_grammar.proofs.raw.final_raw_refusals_stay.Goals as goal

pub returns : goal.returns
returns c = λ unicode allow_nul start t more r h final. raw_final unicode allow_nul start t more r final h
