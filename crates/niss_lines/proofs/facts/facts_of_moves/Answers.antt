use Rattle.std.proofs.Common.{◌≡◌, ◌∙◌, ℕ}
use Rattle.niss_moves.specs.Places.{Place, SameMap}
use Rattle.niss_moves.specs.Solving.{move_count, clean_count}
use Rattle.niss_moves.specs.declared.turn.Axis.{Axis}
use Rattle.niss_moves.specs.declared.turn.Axis.TheVariants.{Ud, Rl, Fb}
use Rattle.niss_cube.specs.BadPlaces.{BadPlacesSeePlaces}
use Rattle.niss_cube.specs.Map.{map_of, HomeSeesPlaces}
use Rattle.niss_cube.specs.StepLaws.{ReachedStepsSeePlaces}
use Rattle.niss_cube.specs.declared.cube.coordinate.Coordinate.TheVariants.{Flip, Twist, Slice}
use Rattle.niss_shell.specs.Output.{home}
use Rattle.niss_lines.specs.LineFacts.{axis_facts, facts_of_cube}
use Rattle.niss_lines.proofs.facts.facts_of_moves.Goals as goal

same_axis : BadPlacesSeePlaces → (a : Axis) (d e : Place → Place) → SameMap d e → axis_facts a d ≡ axis_facts a e
same_axis law a d e s = λ i. record {
  bad_edge_places = (law Flip a d e s).0 i;
  bad_corner_places = (law Twist a d e s).0 i;
  misplaced_edge_places = (law Slice a d e s).0 i;
  bad_edges = (law Flip a d e s).1 i;
  bad_corners = (law Twist a d e s).1 i;
  misplaced_edges = (law Slice a d e s).1 i;
}

-- what is seen of a cube is seen of its places
same_facts : BadPlacesSeePlaces → HomeSeesPlaces → ReachedStepsSeePlaces → (d e : Place → Place) (moves clean : ℕ) → SameMap d e → facts_of_cube d moves clean ≡ facts_of_cube e moves clean
same_facts law home reached d e moves clean s = λ i. record {
  status = 0;
  fault = 0;
  solved = home d e s i;
  column = 0;
  moves = moves;
  clean_moves = clean;
  holds = reached d e s i;
  fb = same_axis law Fb d e s i;
  rl = same_axis law Rl d e s i;
  ud = same_axis law Ud d e s i;
}

pub returns : goal.returns
returns c =
    let cube : Place → Place = map_of c.cube_of.result.0 in
    let line = c.args.line.now in
    let numbers : facts_of_cube cube c.written_moves.result c.cleaned_moves.result ≡ facts_of_cube cube (move_count line) (clean_count line) =
    λ i. facts_of_cube cube (c.written_moves.ensures i) (c.cleaned_moves.ensures i) in
    c.facts_of_cube.ensures ∙ numbers
    ∙ same_facts c.bad_places_see_places.ensures c.home_sees_places.ensures c.reached_steps_see_places.ensures cube (home line) (move_count line) (clean_count line) c.cube_of.ensures.cube
