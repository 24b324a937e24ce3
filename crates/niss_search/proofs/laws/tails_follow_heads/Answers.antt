use Rattle.niss_search.proofs.Words.{[], ◌∷◌}
use Rattle.niss_moves.specs.declared.token.Token.TheVariants as token
use Rattle.niss_search.proofs.InverseLemmas.{tails_follow_heads}
use Rattle.niss_search.proofs.laws.tails_follow_heads.Goals as goal

pub returns : goal.returns
returns c =
    tails_follow_heads record {
      follow = c.positions_follow_cubes.ensures;
      is_before = c.turned_before_is_cube.ensures;
      redo = λ t q. c.inverse_is_undone.ensures (token.Face t ∷ []) q;
      stay = λ t q p. c.places_stay.ensures (token.Face t) q p;
      permute = c.cubes_permute_places.ensures;
      see = c.steps_see_places.ensures;
      alike = c.inverse_has_steps.ensures;
    } c.positions_follow_inverses.ensures c.cubes_are_taken_back.ensures c.turned_is_cube.ensures
