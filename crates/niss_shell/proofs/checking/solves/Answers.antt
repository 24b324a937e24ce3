-- The cube that is turned by both lines is at home exactly if their moves do no more than a rotation.
use Rattle.std.proofs.Common.{◌≡◌, ◌↔◌, ◌∙◌, ◌++◌, List, map, sym, ap, subst}
use Rattle.std.specs.Cmp.Derive.{one_truth}
use Rattle.niss_moves.specs.Effects.{effect_of_turns}
use Rattle.niss_moves.specs.Line.{joined_moves}
use Rattle.niss_moves.specs.declared.token.Token.{Token}
use Rattle.niss_moves.specs.declared.turn.Turn.{Turn}
use Rattle.niss_moves.specs.declared.rotation.Rotation.{Rotation}
use Rattle.niss_moves.specs.Places.{Place, SameMap}
use Rattle.niss_moves.specs.Rotations.{face_before, renamed_turn, faces, IsRotationOf}
use Rattle.niss_cube.specs.Map.{map_of}
use Rattle.niss_shell.proofs.checking.solves.Goals as goal

-- what the face turns of both do, the second ones as the cube is held after the first
abbrev turns_do : (turns more : List Turn) → Rotation → Place → Place
turns_do turns more r q = effect_of_turns (map (renamed_turn (face_before r)) more) (effect_of_turns turns q)

at_home : (d o e : Place → Place) → SameMap d e → SameMap o (λ q. q) → SameMap d o ↔ SameMap e (λ q. q)
at_home d o e is home = ((λ h q p. sym (is q p) ∙ h q p ∙ home q p), (λ h q p. is q p ∙ h q p ∙ sym (home q p)))

pub returns-clause-solved : goal.returns-clause-solved
returns-clause-solved c =
    let s : List Token = joined_moves c.args.scramble.now in
    let t : List Token = joined_moves c.args.solution.now in
    let r : Rotation = c.to_faces-turns.result.1 in
    let s_is : c.as_slice.result.now ≡ s = c.as_slice.ensures.value ∙ c.unniss.ensures.moves in
    let t_is : c.as_slice-2.result.now ≡ t = c.as_slice-2.ensures.value ∙ c.unniss-2.ensures.moves in
    let turns_are : c.as_slice-3.result.now ≡ faces s = c.as_slice-3.ensures.value ∙ c.to_faces-turns.ensures.faces ∙ ap faces s_is in
    let more_are : c.as_slice-4.result.now ≡ faces t = c.as_slice-4.ensures.value ∙ c.to_faces-more.ensures.faces ∙ ap faces t_is in
    let law = c.solved_by_turns.ensures s t r (subst (λ (ts : List Token). IsRotationOf ts r) s_is c.to_faces-turns.ensures.rotation) in
    let is : SameMap (map_of c.turn_held.new.cube) (turns_do (faces s) (faces t) r) =
    λ q p.
    c.turn_held.ensures q p
    ∙ ap (effect_of_turns (map (renamed_turn (face_before r)) c.as_slice-4.result.now)) (c.apply.ensures q p ∙ ap (effect_of_turns c.as_slice-3.result.now) (c.solved-cube.ensures q p))
    ∙ ap (λ (turns : List Turn). turns_do turns c.as_slice-4.result.now r q) turns_are
    ∙ ap (λ (more : List Turn). turns_do (faces s) more r q) more_are in
    let home = at_home (map_of c.turn_held.new.cube) (map_of c.solved.result) (turns_do (faces s) (faces t) r) is c.solved.ensures in
    ((λ h. law.1 (home.0 (c.eq.ensures.map.0 h))), (λ w. c.eq.ensures.map.1 (home.1 (law.0 w))))

pub returns-clause-value : goal.returns-clause-value
returns-clause-value c =
    let tested = c.rotated_is_tested.ensures (joined_moves c.args.scramble.now ++ joined_moves c.args.solution.now) in
    let solved = returns-clause-solved c in
    one_truth _ _ (λ h. tested.1 (solved.0 h)) (λ h. solved.1 (tested.0 h))
