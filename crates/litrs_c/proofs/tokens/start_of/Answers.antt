use Rattle.litrs_c.proofs.TokenPlaces.{end_fits, start_place, start_rest}
use Rattle.litrs_c.proofs.tokens.start_of.Goals as goal

pub overflow_sub-result : goal.overflow_sub-result
overflow_sub-result c = end_fits c.args.text.now c.args.rest.now c.requires

pub returns-clause-place : goal.returns-clause-place
returns-clause-place c = start_place c.args.text.now c.args.rest.now c.requires c.utf8.rest

pub returns-clause-rest : goal.returns-clause-rest
returns-clause-rest c = start_rest c.args.text.now c.args.rest.now c.requires
