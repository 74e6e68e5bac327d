use Rattle.litrs_grammar.proofs.Laws.Raw.{derivable, refusal_free}
use Rattle.litrs_grammar.proofs.raw.raw_texts_are_decided.Goals as goal

pub returns : goal.returns
returns c = λ unicode allow_nul start t. (derivable unicode allow_nul start t, λ r. refusal_free unicode allow_nul start t r.0 r.1)
