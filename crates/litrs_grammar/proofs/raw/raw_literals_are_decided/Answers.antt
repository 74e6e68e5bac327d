use Rattle.litrs_grammar.proofs.RawKinds.{literal_derivable, literal_refusal_free}
use Rattle.litrs_grammar.proofs.raw.raw_literals_are_decided.Goals as goal

pub returns : goal.returns
returns c = λ kind t front. (literal_derivable kind t front, λ r. literal_refusal_free kind t r.0 front r.1)
