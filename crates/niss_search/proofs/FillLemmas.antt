-- How a pruning table fills, level by level, and how many turns the fill tries: those of the entries at a distance of at most 19.
use Rattle.niss_search.proofs.Words.{GoalCoordinates, All-contains_itself, length-map-range_with_len, count_by-le-length, length-range_with_len}
use Rattle.niss_search.proofs.Words.{distance_at, DominoKeepsStart, EntriesAreCounted, get_or-replicate, get_or-set_other, length-replicate}
use Rattle.niss_search.proofs.Words.{ap, range_with_len, entry_distance, length-flat_map, EdgeFillIsSmall, get_or-set_same, mul-le-mul_left}
use Rattle.niss_search.proofs.Words.{turns_of, sum_by-cons, Alternative, FillIsSmall, TwistAndSlice, div-mul-add, entry_count, inverse_turn}
use Rattle.niss_search.proofs.Words.{mul-le-mul, goal_ticks, flips_below, mod-mul-add, pairs_below, slice_index, entry_after, EntriesTurn}
use Rattle.niss_search.proofs.Words.{Contains, count_for, map-append, sum_by-le, entries_of, fill_ticks, values_for, IsExtended, length-set}
use Rattle.niss_search.proofs.Words.{flat_map, count_by, goals_of, entry_at, mul-add, leb_tells, IsFilling, eqb_tells, replicate, nat_tests}
use Rattle.niss_search.proofs.Words.{◌≡◌, length, sum_by, nat_le, Domino, mul_comm, start_of, IsFilled, byte_at, leb-true, MayBeAt, arith}
use Rattle.niss_search.proofs.Words.{List, refl, Bool, cond, ◌++◌, zero, Step, None, Flip, Axis, Edges, false, subst, nat_lt, ne_eqb, ◌+◌}
use Rattle.niss_search.proofs.Words.{◌<◌, ◌∙◌, sym, ◌≤◌, [], ◌*◌, ◌∷◌, suc, map, All, ◌/◌, ◌^◌, Goal, ◌%◌, lit≤, true, Turn, ◌≢◌, ◌==◌, ℕ}
use Rattle.niss_search.proofs.Words.{inl, inr, min, set, ap₂, ◌-◌}
use Rattle.niss_search.proofs.ListLemmas.{range_with_len-append, sum_by-same, sum_by-map, sum_by-flat_map, sum_by-none, sum_by-range_more}
use Rattle.niss_search.proofs.EntryLemmas.{count_for-bound, entry_distance-zero, entry_distance-turn, entry_distance-back}
use Rattle.niss_search.proofs.EntryLemmas.{entry_distance-nearer}
use Rattle.niss_search.proofs.Bounds.{turns_of-length, turns_of-oriented}

module _ (p : ℕ → Bool) where
  pub count-range-le : (n : ℕ) → count_by p (range_with_len 0 n) ≤ n
  count-range-le n = omega (arith, count_by-le-length p (range_with_len 0 n), length-range_with_len 0 n)

  -- places that don't pass add nothing to a count, and one that passes adds one
  pub count-to : (a b : ℕ) → a ≤ b → ((j : ℕ) → a ≤ j → j < b → p j ≡ false) → count_by p (range_with_len 0 b) ≡ count_by p (range_with_len 0 a)
  count-to a zero l none =
      let same : 0 ≡ a = omega arith in
      ap (λ n. count_by p (range_with_len 0 n)) same
  count-to a (suc b) l none = elim (eqb_tells a (suc b)) [
    | inl e ↦ ap (λ n. count_by p (range_with_len 0 n)) (sym e.1)
    | inr e ↦
        let number : suc b ≡ b + 1 = omega arith in
        let last = ap (λ n. count_by p (range_with_len 0 n)) number ∙ sum_by-range_more (λ j. cond (p j) 1 0) b in
        let rest = count-to a b (omega (arith, e.1)) (λ j low high. none j low (omega arith)) in
        grind (arith, last, rest, none b (omega (arith, e.1)) (omega arith))
  ]

  pub count-past : (a b : ℕ) → a ≤ b → ((j : ℕ) → a ≤ j → j < b → p j ≡ false) → p b ≡ true → count_by p (range_with_len 0 (b + 1)) ≡ count_by p (range_with_len 0 a) + 1
  count-past a b l none here =
      grind (arith, sum_by-range_more (λ j. cond (p j) 1 0) b, count-to a b l none, here)

pub count-level : (f : ℕ → ℕ) (l : ℕ) (xs : List ℕ)
    → count_by (λ x. nat_lt (f x) (l + 1)) xs ≡ count_by (λ x. nat_lt (f x) l) xs + count_by (λ x. f x == l) xs
count-level f l [] = refl
count-level f l (x ∷ xs) =
    let to = sum_by-cons (λ y. cond (nat_lt (f y) (l + 1)) 1 0) x xs in
    let below = sum_by-cons (λ y. cond (nat_lt (f y) l) 1 0) x xs in
    grind (arith, nat_tests, to, below, sum_by-cons (λ y. cond (f y == l) 1 0) x xs, count-level f l xs)

pub count-below-zero : (f : ℕ → ℕ) (xs : List ℕ) → count_by (λ x. nat_lt (f x) 0) xs ≡ 0
count-below-zero f xs = sum_by-none (λ x. cond (nat_lt (f x) 0) 1 0) xs (λ x m. grind (arith, nat_tests))

pub count-twenty : (f : ℕ → ℕ) (xs : List ℕ) → count_by (λ x. nat_lt (f x) 20) xs ≡ count_by (λ x. nat_le (f x) 19) xs
count-twenty f xs =
    sum_by-same (λ x. cond (nat_lt (f x) 20) 1 0) (λ x. cond (nat_le (f x) 19) 1 0) xs (λ x. grind (arith, nat_tests))

-- what a byte may be is the distance once it is met, or once the level is done
may-meet : (level d byte : ℕ) → level < 20 → MayBeAt level d byte → d ≤ level + 1 → min byte (level + 1) ≡ d
may-meet level d byte small h near = grind (arith, nat_tests, h.near, h.met)

may-end : (level d byte : ℕ) → MayBeAt level d byte → (d ≡ level + 1 → byte < 21) → byte ≡ byte_at (level + 1) d
may-end level d byte h met = grind (arith, nat_tests, h.near, h.met, h.next)

-- what holds of the byte that is set and of each other as it was holds of each
set-each : (P : ℕ → ℕ → Type 0) (xs : List ℕ) (j v : ℕ) → j < length xs → P j v → ((k : ℕ) → P k (slice_index xs k)) → (k : ℕ) → P k (slice_index (set xs j v) k)
set-each P xs j v inside here others k = elim (eqb_tells k j) [
  | inl e ↦ rw (e.1, get_or-set_same xs j v 0 inside) here
  | inr e ↦ rw (get_or-set_other xs j k v 0 e.1) (others k)
]

module _ (law : EntriesTurn) (alt : Alternative) (level : ℕ) (small : level < 20) (xs : List ℕ) (f : IsFilling alt level xs) where
  -- the entry to which a turn leads from the level becomes the lesser of its byte and the next level
  module _ (i : ℕ) (t : Turn) (here : entry_distance alt i ≡ level) (in_range : i < count_for alt.goal) (m : Contains (turns_of alt.step) t) where
    abbrev met : ℕ
    met = min (slice_index xs (entry_after alt.goal i t)) (level + 1)

    -- the table after it
    abbrev after : List ℕ
    after = set xs (entry_after alt.goal i t) met

    inside : entry_after alt.goal i t < length xs
    inside = omega (arith, f.size, law.below alt.goal i t in_range)

    pub least-filling : IsFilling alt level after
    least-filling = record {
      size = length-set xs (entry_after alt.goal i t) met ∙ f.size;
      bytes = set-each (λ k byte. k < count_for alt.goal → MayBeAt level (entry_distance alt k) byte) xs (entry_after alt.goal i t) met inside
          (λ l. may-be (omega (arith, entry_distance-back law alt i t in_range m)) l)
          f.bytes;
    } where
      may-be : entry_distance alt (entry_after alt.goal i t) ≤ level + 1 → entry_after alt.goal i t < count_for alt.goal → MayBeAt level (entry_distance alt (entry_after alt.goal i t)) met
      may-be h l =
          rw (may-meet level _ _ small (f.bytes _ l) h) record { near = λ n. refl; met = λ m. refl; next = λ m. h }

    pub least-met : slice_index after (entry_after alt.goal i t) < 21
    least-met = omega (arith, get_or-set_same xs (entry_after alt.goal i t) met 0 inside)

    pub least-kept : (j : ℕ) → slice_index xs j < 21 → slice_index after j < 21
    least-kept = set-each (λ k byte. slice_index xs k < 21 → byte < 21) xs (entry_after alt.goal i t) met inside (λ h. omega arith) (λ k h. h)

  -- after each entry of the level was extended, the next level is whole
  pub filled-next : ((j : ℕ) → j < count_for alt.goal → entry_distance alt j ≡ level → IsExtended alt xs j) → IsFilled alt (level + 1) xs
  filled-next extended =
      record { size = f.size; bytes = λ i l. may-end level (entry_distance alt i) (slice_index xs i) (f.bytes i l) (met i l) } where
        met : (i : ℕ) → i < count_for alt.goal → entry_distance alt i ≡ level + 1 → slice_index xs i < 21
        met i l n =
            let nearer = entry_distance-nearer law alt i level l (omega arith) small in
            let t = nearer.0 in
            let m = nearer.1.0 in
            let j = entry_after alt.goal i t in
            let at : entry_distance alt j ≡ level = omega (arith, nearer.1.1, entry_distance-turn law alt i t l m) in
            subst (λ (y : ℕ). slice_index xs y < 21) (law.back alt.goal i t l) (extended j (law.below alt.goal i t l) at (inverse_turn t) (law.inverses alt.step t m))

module _ (alt : Alternative) (level : ℕ) (xs : List ℕ) (f : IsFilling alt level xs) where
  -- an entry whose byte is the level is at it
  pub at_level : (k : ℕ) → k < count_for alt.goal → level < 20 → slice_index xs k ≡ level → entry_distance alt k ≡ level
  at_level k l small e = sym ((f.bytes k l).met (λ far. absurd (omega (arith, e)))) ∙ e

  -- an entry whose byte isn't the level isn't at it
  pub away : (k : ℕ) → k < count_for alt.goal → slice_index xs k ≢ level → entry_distance alt k ≢ level
  away k l n e = n ((f.bytes k l).near (omega arith) ∙ e)

  module _ (from to : ℕ) (within : to ≤ count_for alt.goal) (none : (k : ℕ) → from ≤ k → k < to → slice_index xs k ≢ level) where
    -- so entries that are skipped count for nothing
    pub skipped : (k : ℕ) → from ≤ k → k < to → (entry_distance alt k == level) ≡ false
    skipped k low high = ne_eqb _ _ (away k (omega arith) (none k low high))

    -- and need not be extended
    pub extended-to : (ys : List ℕ) → ((j : ℕ) → j < from → entry_distance alt j ≡ level → IsExtended alt ys j) → (j : ℕ) → j < to → entry_distance alt j ≡ level → IsExtended alt ys j
    extended-to ys before j high at = elim (leb_tells from j) [
      | inl e ↦ absurd (away j (omega arith) (none j e.1 high) at)
      | inr e ↦ before j e.1 at
    ]

-- No entry is further than a level that none has, so the table is whole, and the fill has tried all its turns.
module _ (law : EntriesTurn) (alt : Alternative) (level : ℕ) (none : (i : ℕ) → i < count_for alt.goal → entry_distance alt i ≢ level) where
  none-further : (k i : ℕ) → i < count_for alt.goal → level + k ≤ 20 → entry_distance alt i ≢ level + k
  none-further zero i l h e = none i l (omega (arith, e))
  none-further (suc k) i l h e =
      let nearer = entry_distance-nearer law alt i (level + k) l (omega (arith, e)) (omega (arith, h)) in
      let t = nearer.0 in
      let at : entry_distance alt (entry_after alt.goal i t) ≡ level + k = omega (arith, e, nearer.1.1, entry_distance-turn law alt i t l nearer.1.0) in
      none-further k (entry_after alt.goal i t) (law.below alt.goal i t l) (omega (arith, h)) at

  pub filled-whole : (xs : List ℕ) → level < 20 → IsFilled alt (level + 1) xs → IsFilled alt 20 xs
  filled-whole xs small f = record { size = f.size; bytes = λ i l. f.bytes i l ∙ same (entry_distance alt i) (λ k. none-further k i l) } where
    same : (d : ℕ) → ((k : ℕ) → level + k ≤ 20 → d ≢ level + k) → byte_at (level + 1) d ≡ byte_at 20 d
    same d away = elim (leb_tells level d) [
      | inl e ↦ elim (leb_tells d 20) [
        | inl w ↦ absurd (away (d - level) (omega arith) (omega arith))
        | inr w ↦ grind (arith, nat_tests)
      ]
      | inr e ↦ grind (arith, nat_tests)
    ]

  abbrev below : ℕ → ℕ
  below l = count_by (λ x. nat_lt (entry_distance alt x) l) (range_with_len 0 (count_for alt.goal))

  pub count-whole : (k : ℕ) → level + k ≤ 20 → below (level + k) ≡ below level
  count-whole zero h = ap below (omega arith)
  count-whole (suc k) h =
      let number : level + suc k ≡ level + k + 1 = omega arith in
      let at = λ (x : ℕ). entry_distance alt x == level + k in
      let nothing = count-to at 0 (count_for alt.goal) (omega arith) (λ j low high. ne_eqb _ _ (none-further k j high (omega (arith, h)))) in
      let more = ap below number ∙ count-level (entry_distance alt) (level + k) (range_with_len 0 (count_for alt.goal)) in
      omega (arith, more, nothing, count-whole k (omega (arith, h)))

-- the table at the beginning: 21, but 0 at the goal
pub filled-start : (alt : Alternative) (n : ℕ) → n ≡ count_for alt.goal → IsFilled alt 0 (set (replicate n 21) 0 0)
filled-start alt n e = record {
  size = length-set (replicate n 21) 0 0 ∙ length-replicate n 21 ∙ e;
  bytes = λ i l. elim (eqb_tells i 0) [
    | inl q ↦
        let zero : entry_distance alt i ≡ 0 = omega (arith, leb-true _ 0 (entry_distance-zero alt i ∙ q.0)) in
        let some : 0 < length {A = ℕ} (replicate n 21) = omega (arith, length-replicate {A = ℕ} n 21) in
        rw zero (ap (slice_index (set (replicate n 21) 0 0)) q.1 ∙ get_or-set_same (replicate n 21) 0 0 0 some)
    | inr q ↦
        rw (entry_distance-zero alt i ∙ q.0) (get_or-set_other (replicate n 21) 0 i 0 0 q.1 ∙ get_or-replicate n i 21 0 (omega arith))
  ];
}

module _ (axis : Axis) (n : ℕ) where
  -- a pair by its number
  abbrev paired : ℕ → GoalCoordinates
  paired i = TwistAndSlice axis (i / n) (i % n)

  row-numbered : (m a j : ℕ) → a + j ≤ n → map (TwistAndSlice axis m) (range_with_len a j) ≡ map paired (range_with_len (m * n + a) j)
  row-numbered m a zero h = refl
  row-numbered m a (suc j) h =
      let inside : a < n = omega arith in
      let next : m * n + (a + 1) ≡ m * n + a + 1 = omega arith in
      let rest = row-numbered m (a + 1) j (omega arith) ∙ ap (λ k. map paired (range_with_len k j)) next in
      rw (div-mul-add m n a inside, mod-mul-add m n a inside) (ap (λ (l : List GoalCoordinates). TwistAndSlice axis m a ∷ l) rest)

  -- the pairs of the twists from `first` on
  rows-numbered : (first m : ℕ) → flat_map (λ twist. map (TwistAndSlice axis twist) (range_with_len 0 n)) (range_with_len first m) ≡ map paired (range_with_len (first * n) (m * n))
  rows-numbered first zero =
      let none : 0 * n ≡ 0 = omega arith in
      ap (λ i. map paired (range_with_len (first * n) i)) (sym none)
  rows-numbered first (suc m) =
      let start : first * n + 0 ≡ first * n = omega arith in
      let next : (first + 1) * n ≡ first * n + n = omega arith in
      let all : n + m * n ≡ suc m * n = omega arith in
      ap₂ (λ (l r : List GoalCoordinates). l ++ r) (row-numbered first 0 n (omega arith) ∙ ap (λ i. map paired (range_with_len i n)) start) (rows-numbered (first + 1) m ∙ ap (λ i. map paired (range_with_len i (m * n))) next)
      ∙ sym (map-append paired (range_with_len (first * n) n) (range_with_len (first * n + n) (m * n)))
      ∙ ap (map paired) (sym (range_with_len-append (first * n) n (m * n)) ∙ ap (range_with_len (first * n)) all)

values-numbered : (g : Goal) (k : ℕ) → k ≡ count_for g → values_for g ≡ map (entry_at g) (range_with_len 0 k)
unfolding flips_below pairs_below
values-numbered (Edges a) k e = ap (λ i. map (Flip a) (range_with_len 0 i)) (sym e)
values-numbered (Domino o a) k e =
    rows-numbered a 495 0 2187 ∙ ap (λ i. map (paired a 495) (range_with_len 0 i)) (sym e)

values-counted : (g : Goal) → length (values_for g) ≡ count_for g
values-counted g = ap length (values-numbered g (count_for g) refl) ∙ length-map-range_with_len (entry_at g) 0 (count_for g)

-- the list has as many entries as are counted
pub entries-counted : EntriesAreCounted
unfolding entries_of entry_count
entries-counted s =
    length-flat_map values_for (goals_of s) ∙ sum_by-same (λ g. length (values_for g)) count_for (goals_of s) values-counted

-- Is an entry extended by the fill?
abbrev near : Step → GoalCoordinates → Bool
near s c = nat_le (distance_at s (c ∷ [])) 19

-- counted by the numbers of the entries
pub ticks-numbered : (alt : Alternative) → goal_ticks alt ≡ length (turns_of alt.step) * count_by (λ i. nat_le (entry_distance alt i) 19) (range_with_len 0 (count_for alt.goal))
unfolding goal_ticks entry_distance
ticks-numbered alt =
    ap (λ n. length (turns_of alt.step) * n) (ap (count_by (near alt.step)) (values-numbered alt.goal (count_for alt.goal) refl) ∙ sum_by-map (λ c. cond (near alt.step c) 1 0) (entry_at alt.goal) (range_with_len 0 (count_for alt.goal)))

-- never more than entries times turns
ticks-within : (s : Step) (entries : List GoalCoordinates) (count : ℕ) → length entries ≡ count → length (turns_of s) * count_by (near s) entries ≤ count * length (turns_of s)
ticks-within s entries count e =
    omega (arith, mul-le-mul_left (length (turns_of s)) (count_by-le-length (near s) entries), ap (λ n. length (turns_of s) * n) e, mul_comm (length (turns_of s)) count)

pub ticks_at_most : (s : Step) → fill_ticks s ≤ entry_count s * length (turns_of s)
unfolding fill_ticks
ticks_at_most s = ticks-within s (entries_of s) (entry_count s) (entries-counted s)

-- the turns that the fill of a step's tables tries are those of its goals
pub ticks_of_goals : (s : Step) → fill_ticks s ≡ sum_by (λ g. goal_ticks record { step = s; goal = g }) (goals_of s)
unfolding fill_ticks goal_ticks entries_of
ticks_of_goals s =
    ap (λ n. length (turns_of s) * n) (sum_by-flat_map (λ c. cond (near s c) 1 0) values_for (goals_of s))
    ∙ times-sum (length (turns_of s)) (λ g. count_by (near s) (values_for g)) (goals_of s) where
      times-sum : (n : ℕ) (f : Goal → ℕ) (gs : List Goal) → n * sum_by f gs ≡ sum_by (λ g. n * f g) gs
      times-sum n f [] = omega arith
      times-sum n f (g ∷ gs) =
          ap (λ k. n * k) (sum_by-cons f g gs)
          ∙ mul-add n (f g) (sum_by f gs)
          ∙ ap (λ k. n * f g + k) (times-sum n f gs)
          ∙ sym (sum_by-cons (λ h. n * f h) g gs)

-- a bound for each goal
goal-within : (alt : Alternative) (entries turns : ℕ) → count_for alt.goal ≤ entries → length (turns_of alt.step) ≤ turns → goal_ticks alt ≤ entries * turns
unfolding goal_ticks
goal-within alt entries turns few less =
    omega (arith, ticks-within alt.step (values_for alt.goal) (count_for alt.goal) (values-counted alt.goal), mul-le-mul few less)

pub goal_ticks_bound : (alt : Alternative) → goal_ticks alt ≤ 2 ^ 32
goal_ticks_bound alt =
    omega (arith, goal-within alt 1082566 18 (omega (arith, count_for-bound alt.goal)) (turns_of-length alt.step))

by-goals : (s : Step) (most : ℕ) → ((g : Goal) → Contains (goals_of s) g → goal_ticks record { step = s; goal = g } ≤ most) → fill_ticks s ≤ length (goals_of s) * most
by-goals s most each =
    let ticks : Goal → ℕ = λ g. goal_ticks record { step = s; goal = g } in
    let all : All (λ g. ticks g ≤ most) (goals_of s) = λ k d l. each _ (All-contains_itself (goals_of s) k d l) in
    omega (arith, ticks_of_goals s, sum_by-le ticks most (goals_of s) all)

-- 18 turns from each flip, or 14 from each pair of a twist and a slice
module _ (begins : DominoKeepsStart) (s : Step) where
  edge-goal : (a : Axis) → goal_ticks record { step = s; goal = Edges a } ≤ 36864
  edge-goal a = goal-within record { step = s; goal = Edges a } 2048 18 (lit≤ tt) (turns_of-length s)

  each-goal : (g : Goal) → Contains (goals_of s) g → goal_ticks record { step = s; goal = g } ≤ 15155910
  each-goal (Edges a) m = omega (arith, edge-goal a)
  each-goal (Domino o a) m =
      goal-within record { step = s; goal = Domino o a } 1082565 14 (lit≤ tt) (turns_of-oriented s o (begins s o a m))

  each-edge-goal : start_of s ≡ None → (g : Goal) → Contains (goals_of s) g → goal_ticks record { step = s; goal = g } ≤ 36864
  each-edge-goal e (Edges a) m = edge-goal a
  each-edge-goal e (Domino o a) m = absurd (cc (e, begins s o a m))

pub fill-small : DominoKeepsStart → FillIsSmall
fill-small begins s = by-goals s 15155910 (each-goal begins s)

pub edge-fill-small : DominoKeepsStart → EdgeFillIsSmall
edge-fill-small begins s e = by-goals s 36864 (each-edge-goal begins s e)
