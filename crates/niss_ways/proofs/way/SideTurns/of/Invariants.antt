use Rattle.std.proofs.Common.{◌≡◌, map, take, drop, replicate, length}
use Rattle.niss_ways.specs.Shown.{shown}
use Rattle.niss_ways.proofs.way.SideTurns.of.Given as goal

abbrev pub invariant-loop-index : goal.invariant-loop-index
invariant-loop-index l = record {
  room : length l.numbers ≡ 20;
  told : take l.index l.numbers ≡ map (shown l.names) (take l.index l.turns);
  behind : drop l.index l.numbers ≡ drop l.index (replicate 20 255);
}
