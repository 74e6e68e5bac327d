-- The value is that of the derivation, whichever way it was made.
use Rattle.std.proofs.Common.{inr}
use Rattle.litrs.proofs.ParsedCStrings.{no_nul, c_out_of_memory}
use Rattle.litrs.proofs.c_string.parse_text.Goals as goal

pub close_value-requires-clause-no_nul : goal.close_value-requires-clause-no_nul
close_value-requires-clause-no_nul c =
    no_nul c.args.input.now _ c.in_ok-kept.start_suffix c.in_ok-kept.ensures.ok

pub returns-in-Err-clause-refused : goal.returns-in-Err-clause-refused
returns-in-Err-clause-refused c =
    inr (c_out_of_memory c.args.input.now _ c.in_ok-kept.start_suffix c.new.result c.in_ok-kept.ensures.ok c.new.ensures.refusal)
