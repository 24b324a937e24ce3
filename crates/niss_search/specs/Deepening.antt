-- What a search does by its position alone: the paths that it hands out, and how often it looks. (For the search's own
-- functions.)
use Rattle.std.specs.Prelude.{◌≡◌, ℕ, zero, suc, ◌+◌, ◌-◌, ◌≤◌, ◌<◌, ◌^◌, ◌==◌, nat_le, nat_lt, Bool, true, Result, Ok, Err}
use Rattle.std.specs.Prelude.{if◌then◌else◌, get_or, drop, map, replicate, ◌⊎◌, false, Option, None, Some}
use Rattle.std.specs.List.{range_with_len}
use Rattle.std.specs.Prelude.{List, [], ◌∷◌, ◌++◌, length, filter, flat_map, sum_by}
use Rattle.niss_search.specs.Names.{Turn, Step, GoalCoordinates, no_turn}
use Rattle.niss_moves.specs.Canonical.{may_follow, last_turn, canonical_extensions}
use Rattle.niss_search.specs.Solutions.{Space, reaching, looks, solutions, all_looks, up_to, last_length, least_length}
use Rattle.niss_search.specs.After.{turn_place}
use Rattle.niss_search.specs.Delivery.{Path, at_limit, WentThrough, EndedIn}
use Rattle.niss_search.specs.Positions.{positions, distance_at, position_after}
use Rattle.niss_search.specs.Budgets.{HasSpent}
use Rattle.niss_search.specs.declared.searching.depth_first.Descent.{Descent}

-- A part of a search: the paths that it hands out, how many looks it makes, and both in order: none at each look, and
-- each path where it is handed out.
pub record Part : Type 0 where
  pub paths : List (List Turn)
  pub looks : ℕ
  pub events : List (Option (List Turn))

-- no path, and so many looks
abbrev pub only_looks : ℕ → Part
only_looks n = record { paths = []; looks = n; events = replicate n None }

-- no look, and these paths
abbrev pub only_paths : List (List Turn) → Part
only_paths ps = record { paths = ps; looks = 0; events = map Some ps }

-- one part after another, and one for each of a list
abbrev pub then_part : Part → Part → Part
then_part a b = record { paths = a.paths ++ b.paths; looks = a.looks + b.looks; events = a.events ++ b.events }

abbrev pub for_each : {X : Type 0} → (X → Part) → List X → Part
for_each part xs = record {
  paths = flat_map (λ x. (part x).paths) xs;
  looks = sum_by (λ x. (part x).looks) xs;
  events = flat_map (λ x. (part x).events) xs;
}

-- the canonical sequences that begin with p and have k turns more, in turn order
abbrev pub below : List Turn → List Turn → ℕ → List (List Turn)
below turns p zero = p ∷ []
below turns p (suc k) = flat_map (λ q. below turns q k) (canonical_extensions turns p)

-- what is done after a turn, by its place and that of another: what is due at this one, what is due after it, or nothing
abbrev pub by_place : (t u : Turn) → (same later : Part) → Part
by_place t u same later =
    if turn_place t == turn_place u then same else if nat_lt (turn_place t) (turn_place u) then later else only_looks 0

module _ {turns : List Turn} {S : Type 0} (space : Space turns S) (look : S → ℕ) where
  -- what is done below the path p at the state x with `left` turns left, once x was looked at
  unfoldable pub beyond : S → List Turn → ℕ → Part
  beyond x p zero = only_paths (if nat_le (look x) 0 then p ∷ [] else [])
  beyond x p (suc left) =
      if nat_le (look x) (suc left)
      then for_each (λ t. then_part (only_looks 1) (beyond (space.after x t) (p ++ t ∷ []) left))
      (filter (may_follow (last_turn p)) turns)
      else only_looks 0

  -- the same of those alone that are as long as p and `ts` together and later, with a look at x
  unfoldable pub later : S → List Turn → List Turn → Part
  later x p [] = only_looks 0
  later x p (t ∷ ts) =
      then_part (only_looks 1)
      (if nat_le (look x) (suc (length ts))
      then for_each (λ u.
      by_place t u (later (space.after x u) (p ++ u ∷ []) ts)
      (then_part (only_looks 1) (beyond (space.after x u) (p ++ u ∷ []) (length ts))))
      (filter (may_follow (last_turn p)) turns)
      else only_looks 0)

  -- the deepening to length d, and all deepenings
  abbrev pub deepening : S → ℕ → Part
  deepening start d = record {
    paths = reaching space start d;
    looks = looks space look start d;
    events = None ∷ (beyond start [] d).events;
  }

  abbrev pub all_deepenings : S → (n slack : ℕ) → Part
  all_deepenings start n slack = record {
    paths = solutions space start n slack;
    looks = all_looks space look start n slack;
    events = (for_each (deepening start) (up_to (last_length (least_length space start n) n slack))).events;
  }

-- the same of a step, once a position was looked at, and with that look
unfoldable pub beyond_at : Step → List GoalCoordinates → List Turn → ℕ → Part
beyond_at step x p left = beyond (positions step) (distance_at step) x p left

abbrev pub below_at : Step → List GoalCoordinates → List Turn → ℕ → Part
below_at step x p left = then_part (only_looks 1) (beyond_at step x p left)

unfoldable pub later_at : Step → List GoalCoordinates → (p ts : List Turn) → Part
later_at step x p ts = later (positions step) (distance_at step) x p ts

-- the same after a turn, if it may follow p
abbrev pub later_turn_at : Step → List GoalCoordinates → (p ts : List Turn) → Turn → Part
later_turn_at step x p ts u =
    if may_follow (last_turn p) u
    then by_place (get_or ts 0 no_turn) u (later_at step (position_after x u) (p ++ u ∷ []) (drop 1 ts))
    (below_at step (position_after x u) (p ++ u ∷ []) (length ts - 1))
    else only_looks 0

-- what is done at a position whose path is the same as another as far, before its last turns ts, or else later by as many
abbrev pub goes_on_at : Bool → Step → List GoalCoordinates → (p ts : List Turn) → Part
goes_on_at same step x p ts = if same then later_at step x p ts else below_at step x p (length ts)

-- what is done of the sequences of at most n turns that come after ts: of those as long, and then of each greater length
abbrev pub all_after : Step → List GoalCoordinates → ℕ → List Turn → Part
all_after step x n ts =
    if nat_le (length ts) n
    then then_part (later_at step x [] ts)
    (for_each (deepening (positions step) (distance_at step) x) (range_with_len (length ts + 1) (n - length ts)))
    else only_looks 0

-- Of looks and paths in order: how many looks come before a path, by its number from 0, and how many paths are there before
-- the look behind so many.
abbrev pub looks_before : List (Option (List Turn)) → ℕ → ℕ
looks_before [] k = 0
looks_before (None ∷ es) k = suc (looks_before es k)
looks_before (Some p ∷ es) zero = 0
looks_before (Some p ∷ es) (suc k) = looks_before es k

abbrev pub paths_before : List (Option (List Turn)) → ℕ → ℕ
paths_before [] m = 0
paths_before (None ∷ es) zero = 0
paths_before (None ∷ es) (suc m) = paths_before es m
paths_before (Some p ∷ es) m = suc (paths_before es m)

-- What a descent changes beside its path: the meter, the count of what was found, and the sink.
pub record Progress (K : Type 0) : Type 0 where
  pub meter : ℕ
  pub count : ℕ
  pub sink : K

abbrev pub progress_at : {K : Type 0} → ℕ → ℕ → K → Progress K
progress_at meter count sink = record { meter = meter; count = count; sink = sink }

-- How the meter and the sink go through looks and paths: to the end; or up to a look before which the search was cut, or
-- to a path that the sink refused.
module _ {K : Type 0} (took refused : K → List Turn → K → Type 0) where
  abbrev pub GoesAlong : List (Option (List Turn)) → ℕ → K → ℕ → K → Type 0
  GoesAlong [] m s n t = (m ≡ n) × (s ≡ t)
  GoesAlong (None ∷ es) m s n t = GoesAlong es (suc m) s n t
  GoesAlong (Some p ∷ es) m s n t = (mid : K) × (took s p mid × GoesAlong es m mid n t)

  abbrev pub EndsAt : Bool → List (Option (List Turn)) → ℕ → K → ℕ → K → Type 0
  EndsAt cut [] m s n t = ⊥
  EndsAt cut (None ∷ es) m s n t = ((cut ≡ true) × ((m ≡ n) × (s ≡ t))) ⊎ EndsAt cut es (suc m) s n t
  EndsAt cut (Some p ∷ es) m s n t =
      ((cut ≡ false) × ((m ≡ n) × refused s p t)) ⊎ ((mid : K) × (took s p mid × EndsAt cut es m mid n t))

module _ {K : Type 0} (took refused : K → List Turn → K → Type 0) (part : Part) (old new : Progress K) where
  -- The sink took each of the paths, they were counted, and there were so many looks.
  pub record GoesThrough : Type 0 where
    pub delivered : WentThrough took old.sink part.paths new.sink
    pub counted : new.count ≡ old.count + length part.paths
    pub looked : new.meter ≡ old.meter + part.looks
    pub along : GoesAlong took refused part.events old.meter old.sink new.meter new.sink

  -- The sink refused one of the paths, or the descent was cut since the part's looks pass the bound; after so many looks
  -- at most. Of the count nothing is said.
  pub record StopsIn (cut : Bool) (bound : ℕ) : Type 0 where
    pub stopped : EndedIn took refused cut old.sink part.paths new.sink
    pub rises : old.meter ≤ new.meter
    pub looked : new.meter ≤ old.meter + part.looks
    pub over : cut ≡ true → bound < old.meter + part.looks
    pub ends : EndsAt took refused cut part.events old.meter old.sink new.meter new.sink

  -- What a descent does that makes this part, by what it says.
  abbrev pub Descends : {E : Type 0} → (E → Bool) → ℕ → Result (Unit {0}) E → Type 0
  Descends is_cut bound (Ok u) = GoesThrough
  Descends is_cut bound (Err e) = StopsIn (is_cut e) bound

-- The turns of the path of a descent, what it changes beside that, and what its functions keep and do.
module _ {K : Type 0} where
  -- the turns of its path
  abbrev pub turns : Descent K → List Turn
  turns descent = descent.path.now.turns

  -- what a descent changes beside its path
  abbrev pub progress_of : ℕ → Descent K → Progress K
  progress_of meter descent = progress_at meter descent.count descent.sink.now

  -- The path is as it was, what is lent is the same, and no more was counted than looked at.
  pub record Keeps (old new : Descent K) (meter meter_now : ℕ) : Type 0 where
    pub path : new.path.now ≡ old.path.now
    pub same_path : new.path.ghost_name ≡ old.path.ghost_name
    pub same_sink : new.sink.ghost_name ≡ old.sink.ghost_name
    pub counted : new.count + meter ≤ old.count + meter_now

  -- It makes this part of the search.
  abbrev pub Makes :
      {E : Type 0} → (took refused : K → Path → K → Type 0) → (is_cut : E → Bool) → (bound : ℕ) → Part
      → (meter meter_now : ℕ) → (old new : Descent K) → Result (Unit {0}) E → Type 0
  Makes took refused is_cut bound part meter meter_now old new =
      let limit = old.path.now.limit in
      Descends (at_limit took limit) (at_limit refused limit) part (progress_of meter old) (progress_of meter_now new)
      is_cut bound

  -- What a descent is asked for: a part whose paths have so many turns more than its own, once `made` looks were made at
  -- its position.
  pub record MayMake (part : Part) (left made bound meter : ℕ) (descent : Descent K) : Type 0 where
    pub room : length (turns descent) + left ≤ descent.path.now.limit
    pub countable : meter + part.looks < 2 ^ 128
    pub within : meter ≤ bound
    pub found : descent.count + made ≤ meter

-- What it gives back then: it made the part, kept the path, and stopped within the bound, which it has spent if it was cut.
module _ {K E : Type 0} (took refused : K → Path → K → Type 0) (is_cut : E → Bool) (bound : ℕ) (step : Step) where
  pub record HasMade
      (part : Part) (made meter meter_now : ℕ) (old new : Descent K) (said : Result (Unit {0}) E) : Type 0 where
    pub keeps : Keeps old new (meter - made) meter_now
    pub within : meter_now ≤ bound
    pub spent : HasSpent is_cut bound step meter_now said
    pub makes : Makes took refused is_cut bound part meter meter_now old new said

-- what is returned of a descent that counted so many, by how it ended
abbrev pub found_by : {E : Type 0} → ℕ → Result (Unit {0}) E → Result ℕ E
found_by count (Ok u) = Ok count
found_by count (Err stop) = Err stop

-- What deepenings do that make this part, by what they return: how many paths, or a fault.
module _
    {K : Type 0} (took refused : K → Path → K → Type 0) (limit : ℕ) (part : Part) (meter meter_now : ℕ)
    (sink sink_now : K)
  where
    abbrev pub Delivers : {T E : Type 0} → (E → Bool) → ℕ → (T → ℕ) → Result T E → Type 0
    Delivers is_cut bound count (Ok value) =
        GoesThrough (at_limit took limit) (at_limit refused limit) part
        (progress_at meter 0 sink) (progress_at meter_now (count value) sink_now)
    Delivers is_cut bound count (Err stop) =
        StopsIn (at_limit took limit) (at_limit refused limit) part
        (progress_at meter 0 sink) (progress_at meter_now 0 sink_now) (is_cut stop) bound
