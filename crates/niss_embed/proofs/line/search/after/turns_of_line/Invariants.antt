use Rattle.std.proofs.Common.{◌≡◌, map, take, length}
use Rattle.niss_moves.specs.declared.token.Token.TheVariants as token
use Rattle.niss_embed.proofs.line.search.after.turns_of_line.Given as goal

abbrev pub invariant-loop-index : goal.invariant-loop-index
invariant-loop-index l = record {
  read : map token.Face l.turns.items ≡ take l.index l.moves;
  count : length l.turns.items ≡ l.index;
}
