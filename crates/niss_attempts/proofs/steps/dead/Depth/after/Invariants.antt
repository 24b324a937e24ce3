use Rattle.std.proofs.Common.{◌≡◌, map, take}
use Rattle.niss_attempts.specs.DeadSteps.{after_bytes}
use Rattle.niss_attempts.specs.Parts.{read_byte}
use Rattle.niss_attempts.proofs.steps.dead.Depth.after.Given as goal

abbrev pub invariant-loop-byte : goal.invariant-loop-byte
invariant-loop-byte l = l.depth ≡ after_bytes l.fn.self (map (read_byte l.reading) (take l.byte-index l.steps))
