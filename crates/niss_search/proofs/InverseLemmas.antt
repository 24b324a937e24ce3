-- A cube and its inverse: a turn on one side of one is a turn on the other side of the other. So a position follows the turns on
-- the inverse side, by the inverse's position.
use Rattle.niss_search.proofs.Words.{◌≡◌, refl, sym, ◌∙◌, ap, [], List, ◌∷◌, ◌++◌, Turn, Step, Place, SameMap, IsCube, cubes, positions}
use Rattle.niss_search.proofs.Words.{after_all, reached, reaching, turned, fold-append, PositionsFollowCubes, TurnedIsCube}
use Rattle.niss_search.proofs.Words.{StepsSeePlaces, GoalCoordinates, distance, distance_at, looks, ℕ}
use Rattle.niss_search.proofs.LookLemmas.{reaching-same, looks-same, distance-same}
use Rattle.niss_moves.specs.Effects.{inverse_turn}
use Rattle.niss_moves.specs.Places.{IsPlace}
use Rattle.niss_cube.specs.AfterTurn.{TurnedBeforeIsCube}
use Rattle.niss_cube.specs.Sets.{CubesPermutePlaces}
use Rattle.niss_cube.specs.StepLaws.{InverseHasSteps}
use Rattle.niss_cube.specs.BadPieces.{TakesBack}
use Rattle.niss_cube.specs.Map.{map_of}
use Rattle.niss_cube.specs.declared.cube.Cube.{Cube}
use Rattle.niss_search.specs.BothSides.{turned_before, inverse_side}
use Rattle.niss_cube.specs.Inverses.{IsTakenBack, CubesAreTakenBack}
use Rattle.niss_cube.specs.declared.step.Step.TheVariants.{Eofb}
use Rattle.niss_search.proofs.Words.{subst, IsTrue}
unfoldable use Rattle.niss_search.proofs.Words.{may_start}
unfoldable use Rattle.niss_search.specs.Positions.{position_of}
use Rattle.niss_search.specs.BothWalk.{IsHere, IsTailAt, TailsFollowHeads, PositionsFollowInverses, on_side, on_other, StandsAt}
use Rattle.niss_search.specs.declared.searching.both.walk.Walk.{Walk}
use Rattle.niss_search.specs.declared.searching.both.splitting.Side.{Side}
use Rattle.niss_search.specs.declared.searching.both.splitting.Side.TheVariants.{Normal, Inverse}

-- turns on the two sides don't see each other
one_apart : (step : Step) (f : Place → Place) (t : Turn) (b : List Turn) → (λ q. turned t (after_all (inverse_side step) f b q)) ≡ after_all (inverse_side step) (λ q. turned t (f q)) b
one_apart step f t [] = refl
one_apart step f t (u ∷ b) = one_apart step (turned_before f u) t b

pub apart : (step : Step) (a : List Turn) (f : Place → Place) (b : List Turn) → after_all (cubes step) (after_all (inverse_side step) f b) a ≡ after_all (inverse_side step) (after_all (cubes step) f a) b
apart step [] f b = refl
apart step (t ∷ a) f b = ap (λ g. after_all (cubes step) g a) (one_apart step f t b) ∙ apart step a (λ q. turned t (f q)) b

abbrev pub Stay : Type 0
Stay = (t : Turn) (q : Place) → IsPlace q → IsPlace (turned t q)

-- turns on the inverse bring places to places
still_place : Stay → (step : Step) (p : List Turn) (e : Place → Place) → ((q : Place) → IsPlace q → IsPlace (e q)) → (q : Place) → IsPlace q → IsPlace (after_all (inverse_side step) e p q)
still_place stay step [] e keep q l = keep q l
still_place stay step (t ∷ p) e keep q l = still_place stay step p (turned_before e t) (λ r m. keep (turned (inverse_turn t) r) (stay (inverse_turn t) r m)) q l

-- A cube and its inverse, by their maps.
pub record InverseLaws : Type 0 where
  pub follow : PositionsFollowCubes
  pub is_before : TurnedBeforeIsCube
  pub redo : (t : Turn) (q : Place) → turned t (turned (inverse_turn t) q) ≡ q
  pub stay : Stay
  pub permute : CubesPermutePlaces
  pub see : StepsSeePlaces
  pub alike : InverseHasSteps

module _ (law : InverseLaws) (step : Step) where
  reached_alike : (e d : Place → Place) → IsCube e → IsCube d → ((q : Place) → IsPlace q → d (e q) ≡ q) → reached step e ≡ reached step d
  reached_alike e d cube inverse back =
      let c = cube.0 in
      let b = inverse.0 in
      let takes : TakesBack c b = λ q p. inverse.1 (map_of c q) ((law.permute c).to_places q p) ∙ ap d (cube.1 q p) ∙ back q p in
      sym ((law.see (map_of c) e cube.1).goal step) ∙ (law.alike c b takes).goal step ∙ (law.see (map_of b) d inverse.1).goal step

pub positions_follow_inverses : InverseLaws → PositionsFollowInverses
positions_follow_inverses law step = record {
  goal = λ e x h. reached_alike law step e h.inverse h.cube h.here.cube h.back ∙ (law.follow.follow step).goal h.inverse x h.here;
  after_turn = λ e x t m h. record {
    inverse = λ q. turned t (h.inverse q);
    cube = law.is_before e (inverse_turn t) h.cube;
    back = λ q p. ap (turned t) (h.back (turned (inverse_turn t) q) (law.stay (inverse_turn t) q p)) ∙ law.redo t q;
    here = (law.follow.follow step).after_turn h.inverse x t m h.here;
  };
}

still_cube : TurnedIsCube → (step : Step) (p : List Turn) (e : Place → Place) → IsCube e → IsCube (after_all (cubes step) e p)
still_cube is step [] e h = h
still_cube is step (t ∷ p) e h = still_cube is step p (λ q. turned t (e q)) (is e t h)

-- What follows heads.
module _ (law : InverseLaws) (inverses : PositionsFollowInverses) (taken_back : CubesAreTakenBack) (turned_law : TurnedIsCube) (step : Step) where
  abbrev head_at : Side → Cube → List Turn → Place → Place
  head_at side c head = after_all (on_side side step) (map_of c) head

  places_at : (c : Cube) (head : List Turn) (q : Place) → IsPlace q → IsPlace (head_at Inverse c head q)
  places_at c head = still_place law.stay step head (map_of c) (law.permute c).to_places

  here-same : (side : Side) (c : Cube) (head : List Turn) (here now : Place → Place) → IsHere step side (map_of c) head here → SameMap now here → IsHere step side (map_of c) head now
  here-same Normal c head here now is same = λ q l. same q l ∙ is q l
  here-same Inverse c head here now is same = λ q l. same (head_at Inverse c head q) (places_at c head q l) ∙ is q l

  here-next : (side : Side) (c : Cube) (head : List Turn) (here : Place → Place) (t : Turn) → IsHere step side (map_of c) head here
      → IsHere step side (map_of c) (head ++ t ∷ []) (λ q. turned t (here q))
  here-next Normal c head here t is = λ q l.
      ap (turned t) (is q l) ∙ (λ i. sym (fold-append (λ (g : Place → Place) v r. turned v (g r)) (map_of c) head (t ∷ [])) i q)
  here-next Inverse c head here t is = λ q l.
      ap (λ r. turned t (here r)) (λ i. fold-append turned_before (map_of c) head (t ∷ []) i q)
      ∙ ap (turned t) (is (turned (inverse_turn t) q) (law.stay (inverse_turn t) q l)) ∙ law.redo t q

  back_starts : (here : Place → Place) (d : Cube) → IsCube here → IsTrue (may_start step here) → IsTakenBack here d → IsTrue (may_start step (map_of d))
  back_starts here d is starts back =
      let c = is.0 in
      let takes : TakesBack c d = λ q l. ap (map_of d) (is.1 q l) ∙ back q l in
      subst IsTrue (sym ((law.see (map_of c) here is.1).start step) ∙ (law.alike c d takes).start step) starts

  tail-at : (side : Side) (c : Cube) (head : List Turn) (here : Place → Place) (d : Cube) → IsCube here → IsHere step side (map_of c) head here → IsTrue (may_start step here)
      → IsTakenBack here d → IsTailAt step side (map_of c) head (position_of step (map_of d))
  tail-at Normal c head here d cube is starts back = record {
    inverse = map_of d;
    cube = still_cube turned_law step head (map_of c) (c, λ q l. refl);
    back = λ q l. ap (map_of d) (sym (is q l)) ∙ back q l;
    here = record { cube = (d, λ q l. refl); starts = back_starts here d cube starts back; here = refl };
  }
  tail-at Inverse c head here d cube is starts back =
      law.follow.alike step (map_of d) (head_at Inverse c head) (d, λ q l. refl)
      (λ q l. ap (map_of d) (sym (is q l)) ∙ back (head_at Inverse c head q) (places_at c head q l))
      (back_starts here d cube starts back)

  some_back : (here : Place → Place) → IsCube here → (d : Cube) × IsTakenBack here d
  some_back here is =
      let b = taken_back is.0 in
      (b.0, λ q l. ap (map_of b.0) (sym (is.1 q l)) ∙ b.1 q l)

  tails-same : (side : Side) (c : Cube) (head : List Turn) (x : List GoalCoordinates) (k : ℕ) → IsTailAt step side (map_of c) head x
      → reaching (on_other side step) (head_at side c head) k ≡ reaching (positions step) x k
  tails-same Normal c head x k at = reaching-same (inverses step) _ x at k
  tails-same Inverse c head x k at = reaching-same (law.follow.follow step) _ x at k

  tail_looks-same : (side : Side) (c : Cube) (head : List Turn) (x : List GoalCoordinates) (k : ℕ) → IsTailAt step side (map_of c) head x
      → looks (on_other side step) (distance (on_other side step)) (head_at side c head) k ≡ looks (positions step) (distance_at step) x k
  unfolding distance_at
  tail_looks-same Normal c head x k at =
      looks-same (inverses step) _ x at (distance (inverse_side step)) (distance_at step) (distance-same (inverses step)) k
  tail_looks-same Inverse c head x k at =
      looks-same (law.follow.follow step) _ x at (distance (cubes step)) (distance_at step) (distance-same (law.follow.follow step)) k

pub tails_follow_heads : InverseLaws → PositionsFollowInverses → CubesAreTakenBack → TurnedIsCube → TailsFollowHeads
tails_follow_heads law inverses taken turned_law = record {
  same = here-same law inverses taken turned_law;
  next = here-next law inverses taken turned_law;
  tail = tail-at law inverses taken turned_law;
  taken_back = λ here is. some_back law inverses taken turned_law Eofb here is;
  turned_cube = λ c t. turned_law (map_of c) t (c, λ q l. refl);
  undone = law.redo;
  found = tails-same law inverses taken turned_law;
  looked = tail_looks-same law inverses taken turned_law;
}

-- After a head whose last turn is still to be made on a cube.
module _ (law : TailsFollowHeads) {A : Type 0} (walk : Walk A) (head : List Turn) where
  -- what is read from it is the other side's position
  pub tail_after : (here : Cube) (t : Turn) (of_step : Step) (x : List GoalCoordinates) → StandsAt walk head (λ q. turned t (map_of here q)) → of_step ≡ walk.tables.now
      → ((d : Cube) → IsTakenBack (λ q. turned t (map_of here q)) d → x ≡ position_of of_step (map_of d)) → IsTailAt walk.tables.now walk.side (map_of walk.cube.now) head x
  tail_after here t of_step x stands same at =
      let map : Place → Place = λ q. turned t (map_of here q) in
      let cube : IsCube map = law.turned_cube here t in
      let back = law.taken_back map cube in
      let there : x ≡ position_of walk.tables.now (map_of back.0) = at back.0 back.1 ∙ ap (λ s. position_of s (map_of back.0)) same in
      subst (IsTailAt walk.tables.now walk.side (map_of walk.cube.now) head) (sym there)
      (law.tail walk.tables.now walk.side walk.cube.now head map back.0 cube stands.is_here stands.starts back.1)

  -- any turn is, once it was taken back
  pub stands_before : StepsSeePlaces → (here before : Cube) (t : Turn) → StandsAt walk head (map_of here) → SameMap (map_of before) (λ q. turned (inverse_turn t) (map_of here q))
      → StandsAt walk head (λ q. turned t (map_of before q))
  stands_before see here before t stands back =
      let again : Place → Place = λ q. turned t (map_of before q) in
      let same : SameMap again (map_of here) = λ q l. ap (turned t) (back q l) ∙ law.undone t (map_of here q) in
      record {
        starts = subst IsTrue (sym ((see again (map_of here) same).start walk.tables.now)) stands.starts;
        is_here = law.same walk.tables.now walk.side walk.cube.now head (map_of here) again stands.is_here same;
      }
