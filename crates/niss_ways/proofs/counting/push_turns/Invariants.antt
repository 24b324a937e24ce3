use Rattle.std.proofs.Common.{◌≡◌, ◌++◌, map, take}
use Rattle.niss_moves.specs.declared.token.Token.TheVariants as token
use Rattle.niss_ways.proofs.counting.push_turns.Given as goal

abbrev pub invariant-loop-turn : goal.invariant-loop-turn
invariant-loop-turn l = l.moves.items ≡ l.initial.moves.items ++ map token.Face (take l.turn-index l.turns)
