use Rattle.std.proofs.Common.{[]}
use Rattle.niss_attempts.proofs.steps.feed_between.Goals as goal

pub returns : goal.returns
returns c = c.feed-2.ensures.bytes _ (c.feed_all.ensures.bytes _ (c.feed.ensures.bytes [] c.requires.new.1))
