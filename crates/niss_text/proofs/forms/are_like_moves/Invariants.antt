use Rattle.std.proofs.Common.{◌≡◌, ◌≤◌, ◌⊎◌, length}
use Rattle.niss_text.specs.Kept.{AreTurns}
use Rattle.niss_text.proofs.forms.are_like_moves.Given as goal

abbrev pub invariant-loop-rest : goal.invariant-loop-rest
invariant-loop-rest l = record {
  fits : length l.rest ≤ length l.words;
  turns : AreTurns l.words → (length l.rest ≡ 0) ⊎ AreTurns l.rest;
}

abbrev pub decreases-loop-rest : goal.decreases-loop-rest
decreases-loop-rest l = length l.rest
