use Rattle.niss_search.proofs.Words.{[], ◌∷◌}
use Rattle.niss_moves.specs.declared.token.Token.TheVariants as token
use Rattle.niss_search.proofs.InverseLemmas.{positions_follow_inverses}
use Rattle.niss_search.proofs.laws.positions_follow_inverses.Goals as goal

pub returns : goal.returns
returns c =
    positions_follow_inverses record {
      follow = c.positions_follow_cubes.ensures;
      is_before = c.turned_before_is_cube.ensures;
      redo = λ t q. c.inverse_is_undone.ensures (token.Face t ∷ []) q;
      stay = λ t q p. c.places_stay.ensures (token.Face t) q p;
      permute = c.cubes_permute_places.ensures;
      see = c.steps_see_places.ensures;
      alike = c.inverse_has_steps.ensures;
    }
