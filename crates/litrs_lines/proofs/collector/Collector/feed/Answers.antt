use Rattle.std.proofs.Common.{◌++◌}
use Rattle.litrs_lines.proofs.StepLemmas.{fed_is, fed_utf8, fed_after}
use Rattle.litrs_lines.proofs.collector.Collector.feed.Goals as goal

pub returns-then-is_empty-clause-step : goal.returns-then-is_empty-clause-step
returns-then-is_empty-clause-step c = fed_is (c.args.self.now ++ c.args.line.now) c.feed_first.new.self c.feed_first.result c.feed_first.ensures.fed

pub returns-then-is_empty-clause-utf8 : goal.returns-then-is_empty-clause-utf8
returns-then-is_empty-clause-utf8 c = fed_utf8 (c.args.self.now ++ c.args.line.now) c.feed_first.new.self c.feed_first.result c.feed_first.ensures.fed

pub returns-then-is_empty-clause-held : goal.returns-then-is_empty-clause-held
returns-then-is_empty-clause-held c = fed_after (c.args.self.now ++ c.args.line.now) c.feed_first.new.self c.feed_first.result c.feed_first.ensures.fed

pub returns-else-is_empty-clause-step : goal.returns-else-is_empty-clause-step
returns-else-is_empty-clause-step c = fed_is (c.args.self.now ++ c.args.line.now) c.feed_next.new.self c.feed_next.result c.feed_next.ensures.fed

pub returns-else-is_empty-clause-utf8 : goal.returns-else-is_empty-clause-utf8
returns-else-is_empty-clause-utf8 c = fed_utf8 (c.args.self.now ++ c.args.line.now) c.feed_next.new.self c.feed_next.result c.feed_next.ensures.fed

pub returns-else-is_empty-clause-held : goal.returns-else-is_empty-clause-held
returns-else-is_empty-clause-held c = fed_after (c.args.self.now ++ c.args.line.now) c.feed_next.new.self c.feed_next.result c.feed_next.ensures.fed
