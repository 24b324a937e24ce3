use Rattle.std.proofs.Common.{[]}
use Rattle.niss_attempts.proofs.steps.repeated.feed_repeated.Goals as goal

pub returns : goal.returns
returns c = c.feed-2.ensures.bytes _ (c.feed_times.ensures.bytes _ (c.feed.ensures.bytes [] c.requires.new.1))
