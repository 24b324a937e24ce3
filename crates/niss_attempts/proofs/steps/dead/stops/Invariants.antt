use Rattle.std.proofs.Common.{◌≡◌, ℕ, ◌+◌, List, ◌++◌, map, take}
use Rattle.niss_moves.specs.Reader.{IsFed}
use Rattle.niss_attempts.specs.Parts.{read_byte}
use Rattle.niss_attempts.proofs.steps.dead.stops.Given as goal

abbrev pub invariant-loop-byte : goal.invariant-loop-byte
invariant-loop-byte l = record {
  fed : l.reader.fed ≡ l.initial.reader.fed + l.byte-index;
  bytes : (front : List ℕ) → IsFed l.initial.reader front → IsFed l.reader (front ++ map (read_byte l.reading) (take l.byte-index l.steps));
}
