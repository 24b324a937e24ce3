use Rattle.niss_cube.proofs.Words.{◌≡◌, ◌≤◌, drop, map, map_of, reached, steps}
use Rattle.niss_cube.proofs.step.Step.all_reached.Given as goal
use lib.Lanes.{mask_l}

abbrev pub invariant-loop-index : goal.invariant-loop-index
invariant-loop-index l = record {
  within : l.index ≤ 13;
  bits : l.mask ≡ mask_l (drop l.index (map (λ step. reached step (map_of l.cube)) steps));
}

abbrev pub decreases-loop-index : goal.decreases-loop-index
decreases-loop-index l = l.index
