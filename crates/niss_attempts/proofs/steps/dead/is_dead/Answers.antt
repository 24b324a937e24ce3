use Rattle.std.proofs.Common.{◌∷◌, [], map}
use Rattle.niss_attempts.specs.Parts.{read_byte}
use Rattle.niss_attempts.proofs.DeadLemmas.{two_dead}
use Rattle.niss_attempts.proofs.steps.dead.is_dead.Goals as goal

pub returns : goal.returns
returns c stopped =
    let outside = c.stops.ensures [] c.new-reader.ensures.bytes c.if-not-stops.false in
    let inside = c.stops-2.ensures (40 ∷ []) (c.feed.ensures.bytes [] c.clear.ensures.bytes) stopped in
    two_dead (map (read_byte c.args.reading) c.args.step.now) outside.0 inside.0 outside.1 inside.1
