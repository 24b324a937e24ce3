use Rattle.std.proofs.Common.{rules, []}
use Rattle.niss_lines.proofs.texts.read_by.Goals as goal

pub returns-in-Ok : goal.returns-in-Ok
returns-in-Ok c = search (rules, c.feed_all.ensures.bytes [] c.requires.new)

pub returns-in-Err : goal.returns-in-Err
returns-in-Err c = search (rules, c.feed_all.ensures.bytes [] c.requires.new)
