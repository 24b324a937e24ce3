-- How far a goal is, in a space of states: 0 exactly at the goal, at most one more than after a turn, and one more than
-- after some. And what of a cube depends on its position alone: so what holds of a position holds of every cube that
-- has it.
use Rattle.niss_search.proofs.Words.{◌≡◌, arith, ◌+◌, ◌<◌, ℕ, ap, ◌∙◌, ◌≤◌, [], List, refl, true, ◌∷◌, Bool, Turn, suc, cond, zero}
use Rattle.niss_search.proofs.Words.{range_with_len, Contains, leb, inl, inr, list_any, ◌⊎◌, min, unwrap_or, find, ◌||◌, list_any_at, sym}
use Rattle.niss_search.proofs.Words.{turns_of, GoalCoordinates, distance_at, Step, position_after, is_reached_at, coordinates_after, positions}
use Rattle.niss_search.proofs.Words.{or-false, DistanceIsLeast, nat_tests, Space, distance, is_reached_in, are_zero, canonical_extensions}
use Rattle.niss_search.proofs.Words.{PositionsFollowCubes, All-contains_itself, solution_lengths, after_all, DominoKeepsStart, last_turn}
use Rattle.niss_search.proofs.Words.{all_canonical, coordinates_of, AreCoordinates, StepsSeePlaces, Homomorphism, least_length}
use Rattle.niss_search.proofs.Words.{is_looked_at, option_map_or, alike_is_cube, length-filter, last_length, HasPosition, distance_of}
use Rattle.niss_search.proofs.Words.{TurnedIsCube, length, may_follow, all_looks, solutions, All-append, All-filter, StartIsKept}
use Rattle.niss_search.proofs.Words.{position_of, nat_lt, flat_map, count_by, reaching, All-head, may_start, zero_test, All-push, All-tail}
use Rattle.niss_search.proofs.Words.{All-take, reached, All-cons, All-map, goals_of, slice_of, twist_of, filter, nat_le, turned, IsTrue}
use Rattle.niss_search.proofs.Words.{All-nil, Option, Domino, IsCube, SameMap, flip_of, sum_by, ◌++◌, take, Place, looks, up_to, subst}
use Rattle.niss_search.proofs.Words.{Edges, holds, ◌-◌, map, All, ◌↔◌, Flip, Axis, Goal, leb-true}
use Rattle.niss_cube.specs.StepLaws.{InverseHasSteps}
use Rattle.niss_cube.specs.BadPieces.{TakesBack}
use Rattle.niss_cube.specs.Map.{map_of}
use Rattle.niss_cube.specs.declared.cube.Cube.{Cube}
use Rattle.std.proofs.lemmas.List.Folds.{Any-from_list_any}
use Rattle.niss_search.specs.Laws.{DistanceIsShortest, DistanceIsShortestIn}
use Rattle.std.proofs.lemmas.Bool.{cases_lt}
use Rattle.niss_search.proofs.ListLemmas.{Contains-first, Contains-later, list_any-filter}
use Rattle.niss_cube.specs.declared.cube.coordinate.Coordinate.TheVariants as coordinate

-- the first number from a on, of n, that passes, or else d
abbrev pub first_or : (ℕ → Bool) → ℕ → ℕ → ℕ → ℕ
first_or p a n d = unwrap_or (find p (range_with_len a n)) d

first_or-suc : (p : ℕ → Bool) (a n d : ℕ) → first_or p a (suc n) d ≡ cond (p a) a (first_or p (a + 1) n d)
first_or-suc p a n d = grind arith

pub first_or-from : (p : ℕ → Bool) (a n d : ℕ) → a + n ≤ d → a ≤ first_or p a n d
first_or-from p a zero d h = omega arith
first_or-from p a (suc n) d h = grind (arith, first_or-suc p a n d, first_or-from p (a + 1) n d (omega arith))

pub first_or-le : (p : ℕ → Bool) (a n d k : ℕ) → a ≤ k → k < a + n → p k ≡ true → first_or p a n d ≤ k
first_or-le p a zero d k low high e = absurd (omega arith)
first_or-le p a (suc n) d k low high e = grind (arith, first_or-suc p a n d, first_or-le p (a + 1) n d k, e)

pub first_or-within : (p : ℕ → Bool) (a n d b : ℕ) → a + n ≤ b + 1 → d ≤ b → first_or p a n d ≤ b
first_or-within p a zero d b h l = l
first_or-within p a (suc n) d b h l = grind (arith, first_or-suc p a n d, first_or-within p (a + 1) n d b (omega arith) l)

first_or-passes : (p : ℕ → Bool) (a n d : ℕ) → (p (first_or p a n d) ≡ true) ⊎ (first_or p a n d ≡ d)
first_or-passes p a zero d = inr refl
first_or-passes p a (suc n) d = grind (arith, first_or-suc p a n d, first_or-passes p (a + 1) n d)

-- two tests by one
list_any-either : {X : Type 0} (p q : X → Bool) (xs : List X) → list_any (λ x. p x || q x) xs ≡ (list_any p xs || list_any q xs)
list_any-either p q [] = refl
list_any-either p q (x ∷ xs) = grind (arith, list_any-either p q xs)

first_or-either : (f g : ℕ → Bool) (a n d : ℕ) → a + n ≤ d → first_or (λ k. f k || g k) a n d ≡ min (first_or f a n d) (first_or g a n d)
first_or-either f g a zero d h = omega arith
first_or-either f g a (suc n) d h =
    grind (arith, first_or-suc, first_or-from f (a + 1) n d, first_or-from g (a + 1) n d, first_or-either f g (a + 1) n d)

module _ {turns : List Turn} {S : Type 0} (space : Space turns S) where
  distance-le : (x : S) (k : ℕ) → k ≤ 20 → is_reached_in space k x ≡ true → distance space x ≤ k
  unfolding distance
  distance-le x k h e = first_or-le (λ j. is_reached_in space j x) 0 21 21 k (omega arith) (omega arith) e

  pub distance-most : (x : S) → distance space x ≤ 21
  unfolding distance
  distance-most x = first_or-within (λ j. is_reached_in space j x) 0 21 21 21 (omega arith) (omega arith)

  distance-reached : (x : S) → (is_reached_in space (distance space x) x ≡ true) ⊎ (distance space x ≡ 21)
  unfolding distance
  distance-reached x = first_or-passes (λ j. is_reached_in space j x) 0 21 21

  pub distance-goal : (x : S) → leb (distance space x) 0 ≡ space.reached x
  unfolding distance is_reached_in
  distance-goal x =
      let nearest = first_or-suc (λ j. is_reached_in space j x) 0 20 21 in
      grind (arith, nat_tests, nearest, first_or-from (λ j. is_reached_in space j x) 1 20 21 (omega arith))

  pub distance-turn : (x : S) (t : Turn) → Contains turns t → distance space x ≤ 1 + distance space (space.after x t)
  unfolding is_reached_in
  distance-turn x t m = elim (distance-reached (space.after x t)) [
    | inl e ↦
        let k = distance space (space.after x t) in
        let reached = λ (u : Turn). is_reached_in space k (space.after x u) in
        let further : is_reached_in space (suc k) x ≡ true = list_any_at reached turns m.0 t m.1 (ap reached m.2 ∙ e) in
        grind (arith, distance-most x, distance-le x (suc k), further)
    | inr e ↦ omega (arith, distance-most x)
  ]

  -- from a state that isn't at the goal some turn leads nearer
  pub distance-nearer : (x : S) (k : ℕ) → distance space x ≡ suc k → k < 20 → (t : Turn) × (Contains turns t × (distance space (space.after x t) ≤ k))
  unfolding is_reached_in
  distance-nearer x k e l = elim (distance-reached x) [
    | inl r ↦
        let here : is_reached_in space (suc k) x ≡ true = ap (λ j. is_reached_in space j x) (sym e) ∙ r in
        let some = Any-from_list_any (λ t. is_reached_in space k (space.after x t)) turns here in
        (some.1, ((some.0, some.2, some.3), distance-le (space.after x some.1) k (omega arith) some.4))
    | inr r ↦ absurd (omega arith)
  ]

module _ (step : Step) where
  pub distance_at-goal : (x : List GoalCoordinates) → leb (distance_at step x) 0 ≡ is_reached_at x
  unfolding distance_at
  distance_at-goal = distance-goal (positions step)

  pub distance_at-turn : (x : List GoalCoordinates) (t : Turn) → Contains (turns_of step) t → distance_at step x ≤ 1 + distance_at step (position_after x t)
  unfolding distance_at
  distance_at-turn = distance-turn (positions step)

  pub distance_at-most : (x : List GoalCoordinates) → distance_at step x ≤ 21
  unfolding distance_at
  distance_at-most = distance-most (positions step)

  pub distance_at-nearer : (x : List GoalCoordinates) (k : ℕ) → distance_at step x ≡ suc k → k < 20 → (t : Turn) × (Contains (turns_of step) t × (distance_at step (position_after x t) ≤ k))
  unfolding distance_at
  distance_at-nearer = distance-nearer (positions step)

  either : (k : ℕ) (c : GoalCoordinates) (x : List GoalCoordinates) → is_reached_in (positions step) k (c ∷ x) ≡ (is_reached_in (positions step) k (c ∷ []) || is_reached_in (positions step) k x)
  unfolding is_reached_in position_after is_reached_at
  either zero c x = ap (λ b. b || is_reached_at x) (sym (or-false (are_zero c)))
  either (suc k) c x =
      let at = λ (y : List GoalCoordinates) (t : Turn). is_reached_in (positions step) k (position_after y t) in
      ap (λ (p : Turn → Bool). list_any p (turns_of step)) (λ i t. either k (coordinates_after c t) (position_after x t) i)
      ∙ list_any-either (at (c ∷ [])) (at x) (turns_of step)

-- the distance of a position is the least of those of its coordinates
pub distance_at_least : DistanceIsLeast
unfolding distance_at distance
distance_at_least step c x =
    ap (λ (f : ℕ → Bool). first_or f 0 21 21) (λ i k. either step k c x i)
    ∙ first_or-either (λ k. is_reached_in (positions step) k (c ∷ [])) (λ k. is_reached_in (positions step) k x) 0 21 21 (omega arith)

map_twice : {X Y Z : Type 0} (g : Y → Z) (f : X → Y) (h : X → Z) (xs : List X) → ((x : X) → h x ≡ g (f x)) → map h xs ≡ map g (map f xs)
map_twice g f h [] same = refl
map_twice g f h (x ∷ xs) same = rw (same x, map_twice g f h xs same)

module _ (coordinates : AreCoordinates) where
  goal_alike : (g : Goal) (d e : Place → Place) → IsCube d → SameMap d e → coordinates_of g d ≡ coordinates_of g e
  goal_alike (Edges a) d e h same = ap (Flip a) ((coordinates coordinate.Flip a).of_places d e h same)
  goal_alike (Domino o a) d e h same =
      rw ((coordinates coordinate.Twist a).of_places d e h same, (coordinates coordinate.Slice a).of_places d e h same)

  goal_follows : (g : Goal) (e : Place → Place) (t : Turn) → IsCube e → coordinates_of g (λ q. turned t (e q)) ≡ coordinates_after (coordinates_of g e) t
  goal_follows (Edges a) e t h = ap (Flip a) ((coordinates coordinate.Flip a).follows e t h)
  goal_follows (Domino o a) e t h =
      rw ((coordinates coordinate.Twist a).follows e t h, (coordinates coordinate.Slice a).follows e t h)

  position_alike : (s : Step) (d e : Place → Place) → IsCube d → SameMap d e → position_of s d ≡ position_of s e
  unfolding position_of
  position_alike s d e h same =
      ap (λ (f : Goal → GoalCoordinates). map f (goals_of s)) (λ i g. goal_alike g d e h same i)

  position_follows : (s : Step) (e : Place → Place) (t : Turn) → IsCube e → position_of s (λ q. turned t (e q)) ≡ position_after (position_of s e) t
  unfolding position_of position_after
  position_follows s e t h =
      map_twice (λ c. coordinates_after c t) (λ g. coordinates_of g e) (λ g. coordinates_of g (λ q. turned t (e q))) (goals_of s) (λ g. goal_follows g e t h)

  module _ (e : Place → Place) (h : IsCube e) where
    -- a goal holds where its coordinates are 0, if the step may start
    goal_zero : DominoKeepsStart → (s : Step) → IsTrue (may_start s e) → (g : Goal) → Contains (goals_of s) g → holds g e ≡ are_zero (coordinates_of g e)
    unfolding may_start
    goal_zero begins s k (Edges a) m =
        sym (zero_test coordinate.Flip a e (flip_of a e) ((coordinates coordinate.Flip a).zero_where_kept e h))
    goal_zero begins s k (Domino o a) m =
        let start : IsTrue (holds (Edges o) e) = subst (λ (start : Option Axis). IsTrue (option_map_or (λ axis. holds (Edges axis) e) start true)) (begins s o a m) k in
        rw (start, zero_test coordinate.Twist a e (twist_of a e) ((coordinates coordinate.Twist a).zero_where_kept e h), zero_test coordinate.Slice a e (slice_of a e) ((coordinates coordinate.Slice a).zero_where_kept e h))

    -- the step is reached where the coordinates of some goal are 0
    reached_zero : DominoKeepsStart → (s : Step) → IsTrue (may_start s e) → reached s e ≡ is_reached_at (position_of s e)
    unfolding reached position_of is_reached_at
    reached_zero begins s k = by_goals (goals_of s) (goal_zero begins s k) where
      by_goals : (gs : List Goal) → ((g : Goal) → Contains gs g → holds g e ≡ are_zero (coordinates_of g e)) → list_any (λ g. holds g e) gs ≡ list_any are_zero (map (λ g. coordinates_of g e) gs)
      by_goals [] each = refl
      by_goals (g ∷ gs) each =
          rw (each g (Contains-first g gs), by_goals gs (λ h m. each h (Contains-later g gs h m)))

pub positions_follow_cubes : AreCoordinates → TurnedIsCube → StartIsKept → StepsSeePlaces → DominoKeepsStart → PositionsFollowCubes
positions_follow_cubes coordinates is_cube kept see begins = record {
  alike = λ s d e h same starts. record {
    cube = alike_is_cube d e h same;
    starts = subst IsTrue ((see d e same).start s) starts;
    here = sym (position_alike coordinates s d e h same);
  };
  follow = λ s. record {
    goal = λ e x h. reached_zero coordinates e h.cube begins s h.starts ∙ ap is_reached_at h.here;
    after_turn = λ e x t m h. record {
      cube = is_cube e t h.cube;
      starts = kept s e t m h.starts;
      here = position_follows coordinates s e t h.cube ∙ ap (λ y. position_after y t) h.here;
    };
  };
}

module _ {X : Type 0} where
  pub filter-each : (P : X → Type 0) (p q : X → Bool) (xs : List X) → ((x : X) → P x → p x ≡ q x) → All P xs → filter p xs ≡ filter q xs
  filter-each P p q [] g h = refl
  filter-each P p q (x ∷ xs) g h = rw (g x (All-head P x xs h), filter-each P p q xs g (All-tail P x xs h))

  pub list_any-each : (P : X → Type 0) (p q : X → Bool) (xs : List X) → ((x : X) → P x → p x ≡ q x) → All P xs → list_any p xs ≡ list_any q xs
  list_any-each P p q xs g h =
      list_any-filter p xs ∙ ap (λ l. nat_le 1 (length l)) (filter-each P p q xs g h) ∙ sym (list_any-filter q xs)

pub All-flat_map : {X Y : Type 0} (P : X → Type 0) (Q : Y → Type 0) (f : X → List Y) (xs : List X) → ((x : X) → P x → All Q (f x)) → All P xs → All Q (flat_map f xs)
All-flat_map P Q f [] g h = All-nil Q
All-flat_map P Q f (x ∷ xs) g h = All-append Q (f x) (flat_map f xs) (g x (All-head P x xs h)) (All-flat_map P Q f xs g (All-tail P x xs h))

-- a sequence over the turns
abbrev pub IsOver : List Turn → List Turn → Type 0
IsOver turns s = All (Contains turns) s

pub canonical-over : (turns : List Turn) (k : ℕ) → All (IsOver turns) (all_canonical turns k)
unfolding all_canonical
canonical-over turns zero = All-cons (IsOver turns) [] [] (All-nil (Contains turns)) (All-nil (IsOver turns))
canonical-over turns (suc k) =
    All-flat_map (IsOver turns) (IsOver turns) (canonical_extensions turns) (all_canonical turns k) (λ s over.
    All-map (IsOver turns) (λ t. s ++ t ∷ []) (filter (may_follow (last_turn s)) turns) (λ i d l.
    All-push (Contains turns) s _ over (All-filter (may_follow (last_turn s)) (Contains turns) turns (All-contains_itself turns) i d l)))
    (canonical-over turns k)

-- The distance is the length of a shortest sequence that leads to the goal.
module _ {turns : List Turn} {S : Type 0} (space : Space turns S) where
  reached-by : (e : S) (s : List Turn) → IsOver turns s → space.reached (after_all space e s) ≡ true → is_reached_in space (length s) e ≡ true
  unfolding is_reached_in
  reached-by e [] over h = h
  reached-by e (t ∷ s) over h =
      let m = All-head (Contains turns) t s over in
      let reached = λ (u : Turn). is_reached_in space (length s) (space.after e u) in
      list_any_at reached turns m.0 t m.1 (ap reached m.2 ∙ reached-by (space.after e t) s (All-tail (Contains turns) t s over) h)

  sequence-in : (k : ℕ) (e : S) → is_reached_in space k e ≡ true
      → (s : List Turn) × IsOver turns s × (length s ≡ k) × (space.reached (after_all space e s) ≡ true)
  unfolding is_reached_in
  sequence-in zero e h = ([], All-nil (Contains turns), refl, h)
  sequence-in (suc k) e h =
      let some = Any-from_list_any (λ t. is_reached_in space k (space.after e t)) turns h in
      let rest = sequence-in k (space.after e some.1) some.4 in
      (some.1 ∷ rest.0, All-cons (Contains turns) some.1 rest.0 (some.0, some.2, some.3) rest.1, ap suc rest.2, rest.3)

distance_shortest-in : (S : Type 0) → DistanceIsShortestIn S
distance_shortest-in S = record {
  shortest = λ turns space e s over h. elim (cases_lt (length s) 21) [
    | inl w ↦ distance-le space e (length s) (omega (arith, w)) (reached-by space e s over h)
    | inr w ↦ omega (arith, w, distance-most space e)
  ];
  is_one = λ turns space e. elim (distance-reached space e) [
    | inl h ↦ inr (sequence-in space (distance space e) e h)
    | inr far ↦ inl far
  ];
}

pub distance_shortest : DistanceIsShortest
distance_shortest = (distance_shortest-in (Place → Place), distance_shortest-in (List Turn))

-- Solutions, looks and distance are the same from a state as from one that it is of.
module _ {turns : List Turn} {S T : Type 0} {IsOf : S → T → Type 0} {from : Space turns S} {to : Space turns T} (alike : Homomorphism IsOf from to) where
  related-after : (s : S) (x : T) (p : List Turn) → IsOver turns p → IsOf s x → IsOf (after_all from s p) (after_all to x p)
  related-after s x [] over h = h
  related-after s x (t ∷ p) over h =
      related-after (from.after s t) (to.after x t) p (All-tail (Contains turns) t p over) (alike.after_turn s x t (All-head (Contains turns) t p over) h)

  pub distance-same : (s : S) (x : T) → IsOf s x → distance from s ≡ distance to x
  unfolding distance is_reached_in
  distance-same s x h = λ i. unwrap_or (find (λ k. reached k s x h i) (up_to 20)) 21 where
    reached : (k : ℕ) (s : S) (x : T) → IsOf s x → is_reached_in from k s ≡ is_reached_in to k x
    reached zero s x h = alike.goal s x h
    reached (suc k) s x h =
        list_any-each (Contains turns) _ _ turns (λ t m. reached k (from.after s t) (to.after x t) (alike.after_turn s x t m h)) (All-contains_itself turns)

  module _ (s : S) (x : T) (h : IsOf s x) where
    pub reaching-same : (k : ℕ) → reaching from s k ≡ reaching to x k
    reaching-same k =
        filter-each (IsOver turns) _ _ (all_canonical turns k) (λ p over. alike.goal _ _ (related-after s x p over h)) (canonical-over turns k)

    pub least_length-same : (n : ℕ) → least_length from s n ≡ least_length to x n
    unfolding least_length
    least_length-same n = λ i. find (λ k. nat_lt 0 (length (reaching-same k i))) (up_to n)

    pub solutions-same : (n slack : ℕ) → solutions from s n slack ≡ solutions to x n slack
    unfolding solutions
    solutions-same n slack =
        λ i. flat_map (λ k. reaching-same k i) (solution_lengths (least_length-same n i) n slack)

    module _ (f : S → ℕ) (g : T → ℕ) (same : (s : S) (x : T) → IsOf s x → f s ≡ g x) where
      pub looked-same : (d : ℕ) (p : List Turn) → IsOver turns p → is_looked_at from f s d p ≡ is_looked_at to g x d p
      looked-same d [] over = refl
      looked-same d (t ∷ ts) over =
          let front = take (length ts) (t ∷ ts) in
          ap (λ n. nat_le n (d - length front)) (same _ _ (related-after s x front (All-take (Contains turns) (length ts) (t ∷ ts) over) h))

      pub looks-same : (d : ℕ) → looks from f s d ≡ looks to g x d
      unfolding looks
      looks-same d = λ i. sum_by (λ k. counted k i) (up_to d) where
        counted : (k : ℕ) → count_by (is_looked_at from f s d) (all_canonical turns k) ≡ count_by (is_looked_at to g x d) (all_canonical turns k)
        counted k =
            sym (length-filter (is_looked_at from f s d) (all_canonical turns k))
            ∙ ap length (filter-each (IsOver turns) _ _ (all_canonical turns k) (looked-same d) (canonical-over turns k))
            ∙ length-filter (is_looked_at to g x d) (all_canonical turns k)

      pub all_looks-same : (n slack : ℕ) → all_looks from f s n slack ≡ all_looks to g x n slack
      unfolding all_looks
      all_looks-same n slack =
          λ i. sum_by (λ d. looks-same d i) (up_to (last_length (least_length-same n i) n slack))

-- a cube and its position
module _ (law : PositionsFollowCubes) (step : Step) where
  -- the distance of a position is that of every cube that has it
  pub distance-cube : (e : Place → Place) (x : List GoalCoordinates) → HasPosition step e x → distance_of step e ≡ distance_at step x
  unfolding distance_at
  distance-cube = distance-same (law.follow step)

  -- the distance is 0 exactly where the step is reached
  pub distance-reached-cube : (e : Place → Place) (x : List GoalCoordinates) → HasPosition step e x → (distance_at step x ≡ 0) ↔ IsTrue (reached step e)
  distance-reached-cube e x h =
      let same : leb (distance_at step x) 0 ≡ reached step e = distance_at-goal step x ∙ sym ((law.follow step).goal e x h) in
      (λ z. sym same ∙ ap (λ n. leb n 0) z, λ k. omega (arith, leb-true (distance_at step x) 0 (same ∙ k)))

-- A step may start on the inverse of a cube as on the cube.
pub starts_inverse : InverseHasSteps → (s : Step) (c d : Cube) → TakesBack c d → IsTrue (may_start s (map_of c)) → IsTrue (may_start s (map_of d))
starts_inverse law s c d back starts = sym ((law c d back).start s) ∙ starts
