-- The text after the slashes is an end of the text.
use Rattle.std.proofs.Common.{◌-◌, length}
use Rattle.litrs_prefix.proofs.Ends.{after_bytes}
use Rattle.litrs_explain.proofs.find.without_slashes.Goals as goal

pub returns-in-None-clause-end : goal.returns-in-None-clause-end
returns-in-None-clause-end c =
    let text = c.args.text.now in
    let rest = c.trim_start_matches.result.now in
    after_bytes text rest (length text - length rest) c.trim_start_matches.ensures.value
