-- The search over both sides from within: the shorter side of a pair is its head, the other one its tail. (For the search's own
-- functions.)
use Rattle.std.specs.Prelude.{◌≡◌, ◌⊎◌, ℕ, ◌+◌, ◌^◌, ◌-◌, min, nat_le, if◌then◌else◌, Bool, true, false, not, ◌&&◌, ◌||◌}
use Rattle.std.specs.Prelude.{◌≤◌, ◌*◌, IfOk, Result, IsTrue, List, [], ◌∷◌, ◌++◌, length, take, map, filter, flat_map, sum_by}
use Rattle.std.specs.List.{list_any, range_with_len}
use Rattle.niss_moves.specs.Places.{Place, SameMap, IsPlace}
use Rattle.niss_cube.specs.Map.{map_of}
use Rattle.niss_moves.specs.Effects.{turned, inverse_turn}
use Rattle.niss_cube.specs.AfterTurn.{IsCube}
use Rattle.niss_cube.specs.Inverses.{IsTakenBack}
use Rattle.niss_cube.specs.declared.cube.Cube.{Cube}
use Rattle.niss_cube.specs.Steps.{turns_of, may_start, reached}
use Rattle.niss_search.specs.Names.{Turn, Step, GoalCoordinates}
use Rattle.niss_search.specs.Delivery.{Path}
use Rattle.niss_search.specs.Solutions.{Space, Homomorphism, after_all, reaching, distance, looks}
use Rattle.niss_search.specs.Cubes.{cubes, HasPosition}
use Rattle.niss_search.specs.Budgets.{is_cut_in, HasSpent}
use Rattle.niss_search.specs.Positions.{positions, position_of, distance_at}
use Rattle.niss_search.specs.Deepening.{below}
use Rattle.niss_search.specs.BothSides.{Pair, pair, inverse_side, ends_idle, begins_reached, leaves_out, has_ends, HandsOut}
use Rattle.niss_search.specs.BothSides.{pairs_with, looks_with, pair_solutions, pair_looks}
use Rattle.niss_search.specs.declared.budget.Stopped.{Stopped}
use Rattle.niss_search.specs.declared.searching.both.Ends.{Ends}
use Rattle.niss_search.specs.declared.searching.both.Sides.{Sides}
use Rattle.niss_search.specs.declared.searching.both.splitting.Side.{Side}
use Rattle.niss_search.specs.declared.searching.both.splitting.Side.TheVariants.{Normal, Inverse}
use Rattle.niss_search.specs.declared.searching.both.splitting.Split.{Split}
use Rattle.niss_search.specs.declared.searching.both.joined.Joined.{Joined}
use Rattle.niss_search.specs.declared.searching.both.walk.Walk.{Walk}

-- the cubes of a step after its turns on a side, and on the other
abbrev pub on_side : Side → (step : Step) → Space (turns_of step) (Place → Place)
on_side Normal step = cubes step
on_side Inverse step = inverse_side step

abbrev pub on_other : Side → (step : Step) → Space (turns_of step) (Place → Place)
on_other Normal step = inverse_side step
on_other Inverse step = cubes step

-- the pair of a head on a side and a tail on the other
abbrev pub join : Side → (head tail : List Turn) → Pair
join Normal head tail = pair head tail
join Inverse head tail = pair tail head

-- the shorter side is the head, the normal one if both are equally long
abbrev pub split_of : (normal inverse : ℕ) → Split
split_of normal inverse =
    if nat_le normal inverse
    then record { side = Normal; head = normal; tail = inverse }
    else record { side = Inverse; head = inverse; tail = normal }

-- A part of a search: the pairs that it hands out, and how many looks it makes. One part for each of a list, one after another.
pub record PairPart : Type 0 where
  pub pairs : List Pair
  pub looks : ℕ

abbrev pub parts : {X : Type 0} → (X → PairPart) → List X → PairPart
parts part xs = record { pairs = flat_map (λ x. (part x).pairs) xs; looks = sum_by (λ x. (part x).looks) xs }

-- a part once its first look was made
abbrev pub once_looked : PairPart → PairPart
once_looked part = record { pairs = part.pairs; looks = part.looks - 1 }

-- What the functions of a search are asked for: a meter within its bound, which stays far below the greatest number.
pub record MaySearch (bound meter : ℕ) : Type 0 where
  pub within : meter ≤ bound
  pub countable : bound ≤ 3 * 2 ^ 126

-- What they give back by the part that they make, after `made` looks: they handed out its pairs, which are no more than all
-- looks, and stopped within the bound, which they have spent if they were cut.
module _ {K F T : Type 0} (took refused : K → Pair → K → Type 0) (bound : ℕ) (step : Step) (count : T → ℕ) where
  pub record HasSearched
      (part : PairPart) (made meter meter_now : ℕ) (sink sink_now : K) (said : Result T (Stopped F)) : Type 0 where
    pub handed : HandsOut took refused part.pairs part.looks meter meter_now sink sink_now is_cut_in bound count said
    pub counted : IfOk said (λ value. meter + count value ≤ meter_now + made)
    pub within : meter_now ≤ bound
    pub spent : HasSpent is_cut_in bound step meter_now said

-- a pair that has such ends, and whose first turns don't reach the step
abbrev pub is_kept : Ends → Step → (Place → Place) → Pair → Bool
is_kept ends step e p = has_ends ends p && not (begins_reached step e p)

abbrev pub kept : Ends → Step → (Place → Place) → List Pair → List Pair
kept ends step e ps = filter (is_kept ends step e) ps

-- nothing is searched after a head that ends in an idle turn, or is left out
abbrev pub ends_here : Ends → Step → List Turn → Bool
ends_here ends step head = leaves_out ends head || ends_idle step head

module _ (ends : Ends) (step : Step) (e : Place → Place) (side : Side) (tail : ℕ) where
  -- what is done after a head: the search for its tails, or nothing
  abbrev pub after_head : List Turn → PairPart
  after_head head = let here = after_all (on_side side step) e head in record {
    pairs = if ends_here ends step head
        then [] else kept ends step e (map (join side head) (reaching (on_other side step) here tail));
    looks = if ends_here ends step head then 0 else looks (on_other side step) (distance (on_other side step)) here tail;
  }

  -- what is done for all heads that begin with one and have so many turns more
  unfoldable pub after_heads : List Turn → ℕ → PairPart
  after_heads head left = parts after_head (below (turns_of step) head left)

-- what is done for pairs of so many turns on each side
abbrev pub part_of_lengths : Ends → (step : Step) → (e : Place → Place) → (i j : ℕ) → PairPart
part_of_lengths ends step e i j = let split = split_of i j in after_heads ends step e split.side split.tail [] split.head

-- what is done for pairs of n turns on these sides, and for those of all lengths to the last
abbrev pub part_of_length : Ends → (step : Step) → (e : Place → Place) → Sides → ℕ → PairPart
part_of_length ends step e sides n =
    record { pairs = pairs_with step e ends sides n; looks = looks_with step e ends sides n }

abbrev pub part_of_search : (step : Step) → (e : Place → Place) → Sides → (n slack : ℕ) → PairPart
part_of_search step e sides n slack =
    record { pairs = pair_solutions step e sides n slack; looks = pair_looks step e sides n slack }

-- A cube whose inverse has the position.
pub record HasInverseAt (step : Step) (e : Place → Place) (x : List GoalCoordinates) : Type 0 where
  pub inverse : Place → Place
  pub cube : IsCube e
  pub back : (q : Place) → IsPlace q → inverse (e q) ≡ q
  pub here : HasPosition step inverse x

-- A position follows the turns on the inverse, by the inverse's position.
abbrev pub PositionsFollowInverses : Type 0
PositionsFollowInverses = (step : Step) → Homomorphism (HasInverseAt step) (inverse_side step) (positions step)

-- The cube of the head's own side after the head. If that is the inverse, it is the inverse of the cube after the turns there.
abbrev pub IsHere : Step → Side → (e : Place → Place) → (head : List Turn) → (here : Place → Place) → Type 0
IsHere step Normal e head here = SameMap here (after_all (cubes step) e head)
IsHere step Inverse e head here = (q : Place) → IsPlace q → here (after_all (inverse_side step) e head q) ≡ q

-- After the head the other side has the position.
abbrev pub IsTailAt : Step → Side → (e : Place → Place) → (head : List Turn) → List GoalCoordinates → Type 0
IsTailAt step Normal e head x = HasInverseAt step (after_all (cubes step) e head) x
IsTailAt step Inverse e head x = HasPosition step (after_all (inverse_side step) e head) x

-- A walk, after a head.
module _ {A : Type 0} (walk : Walk A) (head : List Turn) where
  -- what it does there, and for all heads that begin with it and have so many turns more
  abbrev pub done_after : PairPart
  done_after = after_head walk.ends walk.tables.now (map_of walk.cube.now) walk.side walk.tail head

  abbrev pub done_below : ℕ → PairPart
  done_below left = after_heads walk.ends walk.tables.now (map_of walk.cube.now) walk.side walk.tail head left

  -- The cube of the head's side, on which the step may start.
  pub record StandsAt (here : Place → Place) : Type 0 where
    pub starts : IsTrue (may_start walk.tables.now here)
    pub is_here : IsHere walk.tables.now walk.side (map_of walk.cube.now) head here

-- How the cube of the head's side and the other side's position follow heads.
pub record TailsFollowHeads : Type 0 where
  -- a map that is the same on the places is the same
  pub same :
      (step : Step) (side : Side) (c : Cube) (head : List Turn) (here now : Place → Place) →
      IsHere step side (map_of c) head here → SameMap now here → IsHere step side (map_of c) head now
  -- one turn more
  pub next :
      (step : Step) (side : Side) (c : Cube) (head : List Turn) (here : Place → Place) (t : Turn) →
      IsHere step side (map_of c) head here → IsHere step side (map_of c) (head ++ t ∷ []) (λ q. turned t (here q))
  -- the other side's position is that of whatever takes the cube back, and there is such a cube
  pub tail :
      (step : Step) (side : Side) (c : Cube) (head : List Turn) (here : Place → Place) (d : Cube) →
      IsCube here → IsHere step side (map_of c) head here → IsTrue (may_start step here) → IsTakenBack here d →
      IsTailAt step side (map_of c) head (position_of step (map_of d))
  pub taken_back : (here : Place → Place) → IsCube here → (d : Cube) × IsTakenBack here d
  pub turned_cube : (c : Cube) (t : Turn) → IsCube (λ q. turned t (map_of c q))
  pub undone : (t : Turn) (q : Place) → turned t (turned (inverse_turn t) q) ≡ q
  -- what the search of the other side finds and how often it looks, by the position alone
  pub found :
      (step : Step) (side : Side) (c : Cube) (head : List Turn) (x : List GoalCoordinates) (k : ℕ) →
      IsTailAt step side (map_of c) head x →
      reaching (on_other side step) (after_all (on_side side step) (map_of c) head) k ≡ reaching (positions step) x k
  pub looked :
      (step : Step) (side : Side) (c : Cube) (head : List Turn) (x : List GoalCoordinates) (k : ℕ) →
      IsTailAt step side (map_of c) head x →
      looks (on_other side step) (distance (on_other side step)) (after_all (on_side side step) (map_of c) head) k
      ≡ looks (positions step) (distance_at step) x k

-- Is the step reached from a cube after the first turns, but not all?
unfoldable pub reached_along : Step → (Place → Place) → List Turn → Bool
reached_along step f a = list_any (λ i. reached step (after_all (cubes step) f (take i a))) (range_with_len 0 (length a))

-- A sink that joins tails to a head, and hands on the pairs.
module _ {K : Type 0} where
  -- the pair of a tail
  abbrev pub joined : Joined K → List Turn → Pair
  joined sink tail = join sink.side sink.head.now.turns tail

  -- Is it handed on?
  abbrev pub keeps : Joined K → List Turn → Bool
  keeps sink tail = is_kept sink.ends sink.step (map_of sink.cube.now) (joined sink tail)

  -- It lends the same sink, and has the same head on the same side.
  pub record StaysJoined (old new : Joined K) : Type 0 where
    pub head : new.head.now ≡ old.head.now
    pub side : new.side ≡ old.side
    pub step : new.step ≡ old.step
    pub ends : new.ends ≡ old.ends
    pub cube : new.cube.now ≡ old.cube.now
    pub same_sink : new.sink.ghost_name ≡ old.sink.ghost_name

  -- A pair was counted, as far as numbers go, and the sink took it; or it isn't handed on, and nothing was done.
  abbrev pub JoinedTook : (K → Pair → K → Type 0) → Joined K → Path → Joined K → Type 0
  JoinedTook took old path new =
      StaysJoined old new
      × (((keeps old path.turns ≡ false) × ((new.sink.now ≡ old.sink.now) × (new.count ≡ old.count)))
      ⊎ ((keeps old path.turns ≡ true)
      × (took old.sink.now (joined old path.turns) new.sink.now × (new.count ≡ min (old.count + 1) (2 ^ 128 - 1)))))

  abbrev pub JoinedRefused : (K → Pair → K → Type 0) → Joined K → Path → Joined K → Type 0
  JoinedRefused refused old path new =
      StaysJoined old new
      × ((keeps old path.turns ≡ true) × refused old.sink.now (joined old path.turns) new.sink.now)
