use Rattle.std.proofs.Common.{[], map}
use Rattle.niss_attempts.specs.Parts.{read_byte}
use Rattle.niss_attempts.proofs.steps.reading.solves_read.Goals as goal

pub returns : goal.returns
returns c = c.solves_so.ensures (map (read_byte c.args.reading) c.args.steps.now) (c.feed.ensures.bytes [] c.new-reader.ensures.bytes)
