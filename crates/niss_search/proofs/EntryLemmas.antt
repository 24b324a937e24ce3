-- The entries of a pruning table by number, and how the turns lead from one to another.
use Rattle.niss_search.proofs.Words.{entry_distance, position_after, coordinates_after, coordinates_of, InversesOfSteps, get_or-replicate}
use Rattle.niss_search.proofs.Words.{ℕ, slice_index, is_reached_at, AreCoordinates, inverse_turn, rank_after, entry_number, TwistAndSlice}
use Rattle.niss_search.proofs.Words.{GoalCoordinates, distance_at, Alternative, HasPosition, entry_after, EntriesTurn, div-mul-add, mod-mul-add}
use Rattle.niss_search.proofs.Words.{count_for, replicate, AreEntries, ArePlaces, AreStarts, row_length, nat_tests, position_of, arith}
use Rattle.niss_search.proofs.Words.{turns_of, Contains, turn_at, IsFilled, are_zero, goals_of, byte_at, entry_at, or-false, IsEntry, ◌≡◌}
use Rattle.niss_search.proofs.Words.{length, ◌+◌, List, refl, Turn, subst, Step, ◌==◌, Place, Axis, Domino, Edges, Goal, IsCube, lit<, ◌<◌}
use Rattle.niss_search.proofs.Words.{ap, ◌∙◌, sym, ◌≤◌, [], ◌*◌, ◌-◌, ◌∷◌, suc, map, leb, ◌/◌, ◌%◌}
use Rattle.niss_cube.specs.declared.cube.coordinate.Coordinate.TheVariants as coordinate
use Rattle.niss_search.proofs.Words.{Flip}
use Rattle.niss_search.proofs.Bounds.{turns_of-length}
use Rattle.niss_search.proofs.LookLemmas.{distance_at-goal, distance_at-turn, distance_at-most, distance_at-nearer}

pub count_for-bound : (g : Goal) → count_for g < 1082566
count_for-bound (Edges a) = lit< tt
count_for-bound (Domino o a) = lit< tt

-- the number of an entry, and the coordinates with that number
pub entry-below : (g : Goal) (c : GoalCoordinates) → IsEntry g c → entry_number c < count_for g
entry-below (Edges a) (Flip b f) h = h.1
entry-below (Edges a) (TwistAndSlice b t s) h = absurd h
entry-below (Domino o a) (Flip b f) h = absurd h
entry-below (Domino o a) (TwistAndSlice b t s) h = omega (arith, h.1, h.2)

entry-itself : (g : Goal) (c : GoalCoordinates) → IsEntry g c → entry_at g (entry_number c) ≡ c
entry-itself (Edges a) (Flip b f) h = ap (λ x. Flip x f) (sym h.0)
entry-itself (Edges a) (TwistAndSlice b t s) h = absurd h
entry-itself (Domino o a) (Flip b f) h = absurd h
entry-itself (Domino o a) (TwistAndSlice b t s) h =
    rw (div-mul-add t 495 s h.2, mod-mul-add t 495 s h.2) (ap (λ x. TwistAndSlice x t s) (sym h.0))

module _ (coordinates : AreCoordinates) where
  cube-is-entry : (g : Goal) (e : Place → Place) → IsCube e → IsEntry g (coordinates_of g e)
  cube-is-entry (Edges a) e h = (refl, (coordinates coordinate.Flip a).below e h)
  cube-is-entry (Domino o a) e h = (refl, (coordinates coordinate.Twist a).below e h, (coordinates coordinate.Slice a).below e h)

  -- so the position of a cube is one of entries, one for each goal
  pub position-is-entries : (s : Step) (x : List GoalCoordinates) (e : Place → Place) → HasPosition s e x → AreEntries (goals_of s) x
  unfolding AreEntries position_of
  position-is-entries s x e h = subst (AreEntries (goals_of s)) h.here (by_goals (goals_of s)) where
    by_goals : (gs : List Goal) → AreEntries gs (map (λ g. coordinates_of g e) gs)
    by_goals [] = tt
    by_goals (g ∷ gs) = (cube-is-entry g e h.cube, by_goals gs)

  after-is-entry : (g : Goal) (i : ℕ) (t : Turn) → i < count_for g → IsEntry g (coordinates_after (entry_at g i) t)
  after-is-entry (Edges a) i t h = (refl, (coordinates coordinate.Flip a).after_below i t h)
  after-is-entry (Domino o a) i t h =
      (refl, (coordinates coordinate.Twist a).after_below (i / 495) t (omega arith), (coordinates coordinate.Slice a).after_below (i % 495) t (omega arith))

  after-back : (g : Goal) (i : ℕ) (t : Turn) → i < count_for g → entry_number (coordinates_after (coordinates_after (entry_at g i) t) (inverse_turn t)) ≡ i
  after-back (Edges a) i t h = (coordinates coordinate.Flip a).back_again i t h
  after-back (Domino o a) i t h =
      rw ((coordinates coordinate.Twist a).back_again (i / 495) t (omega arith), (coordinates coordinate.Slice a).back_again (i % 495) t (omega arith)) (omega arith)

  pub entries_turn : InversesOfSteps → EntriesTurn
  unfolding entry_after
  entries_turn inverses = record {
    below = λ g i t h. entry-below g _ (after-is-entry g i t h);
    leads = λ g i t h. entry-itself g _ (after-is-entry g i t h);
    back = λ g i t h.
        ap (λ c. entry_number (coordinates_after c (inverse_turn t))) (entry-itself g _ (after-is-entry g i t h)) ∙ after-back g i t h;
    inverses = inverses;
  }

-- a table holds the distance of its entries
pub table-holds : (alt : Alternative) (bytes : List ℕ) → IsFilled alt 20 bytes → (c : GoalCoordinates) → IsEntry alt.goal c → slice_index bytes (entry_number c) ≡ distance_at alt.step (c ∷ [])
unfolding entry_distance
table-holds alt bytes filled c h =
    filled.bytes (entry_number c) (entry-below alt.goal c h)
    ∙ byte_at-all (distance_at alt.step (entry_at alt.goal (entry_number c) ∷ [])) (distance_at-most alt.step _)
    ∙ ap (λ d. distance_at alt.step (d ∷ [])) (entry-itself alt.goal c h) where
      byte_at-all : (d : ℕ) → d ≤ 21 → byte_at 20 d ≡ d
      byte_at-all d l = grind (arith, nat_tests)

-- the goal is entry 0
zero-alone : (g : Goal) (i : ℕ) → are_zero (entry_at g i) ≡ (i == 0)
zero-alone (Edges a) i = refl
zero-alone (Domino o a) i = grind (arith, nat_tests)

pub entry_distance-zero : (alt : Alternative) (i : ℕ) → leb (entry_distance alt i) 0 ≡ (i == 0)
unfolding entry_distance is_reached_at
entry_distance-zero alt i =
    distance_at-goal alt.step (entry_at alt.goal i ∷ []) ∙ or-false (are_zero (entry_at alt.goal i)) ∙ zero-alone alt.goal i

module _ (law : EntriesTurn) (alt : Alternative) where
  -- the position of an entry after a turn is that of the entry after it
  after-entry : (i : ℕ) (t : Turn) → i < count_for alt.goal → position_after (entry_at alt.goal i ∷ []) t ≡ entry_at alt.goal (entry_after alt.goal i t) ∷ []
  unfolding position_after
  after-entry i t h = ap (λ (c : GoalCoordinates). c ∷ []) (sym (law.leads alt.goal i t h))

  pub entry_distance-turn : (i : ℕ) (t : Turn) → i < count_for alt.goal → Contains (turns_of alt.step) t → entry_distance alt i ≤ 1 + entry_distance alt (entry_after alt.goal i t)
  unfolding entry_distance
  entry_distance-turn i t h m =
      subst (λ x. distance_at alt.step (entry_at alt.goal i ∷ []) ≤ 1 + distance_at alt.step x) (after-entry i t h) (distance_at-turn alt.step (entry_at alt.goal i ∷ []) t m)

  -- a turn leads at most one further away
  pub entry_distance-back : (i : ℕ) (t : Turn) → i < count_for alt.goal → Contains (turns_of alt.step) t → entry_distance alt (entry_after alt.goal i t) ≤ 1 + entry_distance alt i
  entry_distance-back i t h m =
      subst (λ j. entry_distance alt (entry_after alt.goal i t) ≤ 1 + entry_distance alt j) (law.back alt.goal i t h) (entry_distance-turn (entry_after alt.goal i t) (inverse_turn t) (law.below alt.goal i t h) (law.inverses alt.step t m))

  -- from an entry that isn't the goal some turn leads nearer
  pub entry_distance-nearer : (i k : ℕ) → i < count_for alt.goal → entry_distance alt i ≡ suc k → k < 20 → (t : Turn) × (Contains (turns_of alt.step) t × (entry_distance alt (entry_after alt.goal i t) ≤ k))
  unfolding entry_distance
  entry_distance-nearer i k h e l =
      let r = distance_at-nearer alt.step (entry_at alt.goal i ∷ []) k e l in
      (r.0, (r.1.0, subst (λ x. distance_at alt.step x ≤ k) (after-entry i r.0 h) r.1.1))

-- a turn leads the entries of a row into one row again
pub row_edges : (step : Step) (axis : Axis) (row : ℕ) → row * row_length (Edges axis) < count_for (Edges axis) → AreStarts record { step = step; goal = Edges axis } (row * row_length (Edges axis)) (replicate 18 0)
unfolding entry_after
row_edges step axis row h k place l r =
    let first : row * 2048 + place ≡ place = omega arith in
    rw (get_or-replicate {A = ℕ} 18 k 0 0 (omega (arith, turns_of-length step)), first) (omega arith)

pub row-domino : (step : Step) (edges axis : Axis) (row : ℕ) (starts : List ℕ) → ((k : ℕ) → k < length (turns_of step) → slice_index starts k ≡ rank_after coordinate.Twist axis row (turn_at step k) * 495) → AreStarts record { step = step; goal = Domino edges axis } (row * row_length (Domino edges axis)) starts
unfolding entry_after
row-domino step edges axis row starts led k place l r =
    rw (led k l, div-mul-add row 495 place r, mod-mul-add row 495 place r) refl

-- the entry after a turn, by its row and its place there
pub row-entry : (alt : Alternative) (start entry : ℕ) (starts places : List ℕ) → AreStarts alt start starts → ArePlaces alt (entry - start) places → start ≤ entry → entry < start + row_length alt.goal → (k : ℕ) → k < length (turns_of alt.step) → slice_index starts k + slice_index places k ≡ entry_after alt.goal entry (turn_at alt.step k)
row-entry alt start entry starts places s p from to k l =
    let inside : entry - start < row_length alt.goal = omega arith in
    let back : start + (entry - start) ≡ entry = omega arith in
    ap (λ n. slice_index starts k + n) (p k l)
    ∙ s k (entry - start) l inside
    ∙ ap (λ i. entry_after alt.goal i (turn_at alt.step k)) back
