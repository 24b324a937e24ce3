use Rattle.niss_moves.proofs.Names.{◌≡◌, ◌+◌, ◌-◌, ◌≤◌, ◌++◌, List, ℕ, Some, length, take, IsFed, ReadFault}
use Rattle.niss_moves.proofs.reader.LineReader.feed_all.Given as goal

abbrev pub invariant-loop-index : goal.invariant-loop-index
invariant-loop-index l = record {
  within : l.index ≤ length l.bytes;
  fed : l.self.fed ≡ l.initial.self.fed + l.index;
  bytes : (front : List ℕ) → IsFed l.initial.self front → IsFed l.self (front ++ take l.index l.bytes);
  again : (f : ReadFault) → l.initial.self.fault ≡ Some f → l.self.fault ≡ Some f;
}

abbrev pub decreases-loop-index : goal.decreases-loop-index
decreases-loop-index l = length l.bytes - l.index
