use Rattle.niss_cube.proofs.Words.{◌∙◌, sym, map_of, same_truth}
use Rattle.niss_cube.proofs.Shown.{home_is_tested}
use Rattle.niss_cube.proofs.cube.Cube.is_solved.Goals as goal

pub returns-clause-solved : goal.returns-clause-solved
returns-clause-solved c = (
  (λ h q p. c.eq.ensures.map.0 h q p ∙ c.solved.ensures q p),
  (λ s. c.eq.ensures.map.1 (λ q p. s q p ∙ sym (c.solved.ensures q p))),
)

pub returns-clause-value : goal.returns-clause-value
returns-clause-value c =
    let tested = home_is_tested (map_of c.args.self.now) in
    let solved = returns-clause-solved c in
    same_truth _ _ (λ h. tested.1 (solved.0 h)) (λ h. solved.1 (tested.0 h))
