use Rattle.niss_moves.proofs.Names.{◌*◌, ◌≤◌, List, ◌++◌, IsCanonical, Cleans, Turn, length}
use Rattle.niss_moves.proofs.Home.{Left}
use Rattle.niss_moves.proofs.cleaning.clean_sequence.Given as goal

abbrev pub invariant-loop-token : goal.invariant-loop-token
invariant-loop-token l = record {
  room : length l.turns.items ≤ 2 * l.token-index;
  canonical : IsCanonical l.turns.items;
  taken : List Turn;
  left : Left l.tokens l.token-index taken l.rotation;
  cleans : (rest c : List Turn) → Cleans (l.turns.items ++ rest) c → Cleans (taken ++ rest) c;
}
