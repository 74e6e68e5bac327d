use Rattle.std.proofs.Common.{subst}
use Rattle.litrs_lines.specs.declared.collector.body.Body.{Body}
use Rattle.litrs_lines.specs.Open.{IsBodyTo}
use Rattle.litrs_lines.proofs.collector.body.next_line.Goals as goal

pub quoted_line-requires : goal.quoted_line-requires
quoted_line-requires c = subst (λ (b : Body). IsBodyTo b c.args.string.kind c.args.string.place c.args.text.now) c.in-Quoted.is c.requires

pub continued_line-requires : goal.continued_line-requires
continued_line-requires c = subst (λ (b : Body). IsBodyTo b c.args.string.kind c.args.string.place c.args.text.now) c.in-Continuation.is c.requires

pub raw_line-requires : goal.raw_line-requires
raw_line-requires c = subst (λ (b : Body). IsBodyTo b c.args.string.kind c.args.string.place c.args.text.now) c.in-Raw.is c.requires
