use Rattle.litrs_lex.proofs.run.is_in_run.Goals as goal

pub returns : goal.returns
returns c = c.classes.ensures c.args.byte c.ranges.byte.fits
