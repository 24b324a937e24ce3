-- A sink that lists solutions: what stands in its room after those that came.
use Rattle.std.proofs.Common.{◌≡◌, ℕ, ◌+◌, ◌-◌, ◌<◌, ◌≤◌, List, [], ◌∷◌, ◌++◌, length, refl, ap, sym, ◌∙◌, subst, inl, inr, ◌⊎◌, true, false, Result, Ok, Err, ◌^◌, min, arith}
use Rattle.std.proofs.Math.Nat.{eq-or-lt_of_le}
use Rattle.std.proofs.Math.Seq.{get_or-append_seam}
use Rattle.std.proofs.lemmas.Bool.{false≢true}
use Rattle.std.proofs.lemmas.Grind.{get_or-set_at}
use Rattle.std.proofs.lemmas.List.{append-nil, append_assoc, length-append, get_or_append_left, get_or-set_other}
use Rattle.std.specs.Prelude.{get_or}
use Rattle.niss_moves.specs.declared.turn.Face.{Face}
use Rattle.niss_cube.specs.Steps.{turns_of}
use Rattle.niss_cube.specs.declared.step.Step.{Step}
use Rattle.niss_moves.specs.Places.{Place}
use Rattle.niss_search.specs.BothSides.{Pair, HandsOut, first_pairs, looks_of_pairs}
use Rattle.niss_search.specs.Budgets.{is_cut_in, HasSpent}
use Rattle.niss_search.specs.Delivery.{WentThrough, WentInto, StoppedIn}
use Rattle.niss_ways.specs.Listing.{EndsListing, ListsInto, Stands, HasListed, StaysListing, PutOne, ListedOne, LeftOut}
use Rattle.niss_ways.specs.Shown.{Tells}
use Rattle.niss_search.specs.declared.budget.Stopped.{Stopped}
use Rattle.niss_search.specs.declared.budget.Stopped.TheVariants.{Refused, Cut}
use Rattle.niss_ways.specs.declared.listing.FoundSolutions.{FoundSolutions}
use Rattle.niss_ways.specs.declared.listing.Full.{Full}
use Rattle.niss_ways.specs.declared.listing.Listed.{Listed}
use Rattle.niss_ways.specs.declared.listing.Rows.{Rows}
use Rattle.niss_ways.specs.declared.way.Part.{Part}

abbrev took : Rows → Pair → Rows → Type 0
took old p new = ListedOne old p new

abbrev refused : Rows → Pair → Rows → Type 0
refused old p new = LeftOut old new

pub stays_none : (a : Rows) → StaysListing a a
stays_none a = record { names = refl; step = refl; passed = refl; counts = refl; room = refl; same_length = refl }

pub stays_more : (a b c : Rows) → StaysListing a b → StaysListing b c → StaysListing a c
stays_more a b c x y = record {
  names = y.names ∙ x.names;
  step = y.step ∙ x.step;
  passed = y.passed ∙ x.passed;
  counts = y.counts ∙ x.counts;
  room = y.room ∙ x.room;
  same_length = y.same_length ∙ x.same_length;
}

-- After these came, and then others, all of them came.
pub record Came (a : Rows) (xs : List Pair) (b : Rows) : Type 0 where
  pub stays : StaysListing a b
  pub lists : (came : List Pair) → HasListed a came → HasListed b (came ++ xs)

pub came_none : (a : Rows) → Came a [] a
came_none a = record {
  stays = stays_none a;
  lists = λ came h. subst (λ (ps : List Pair). HasListed a ps) (sym (append-nil came)) h;
}

pub came_more : (a b c : Rows) (x : Pair) (xs : List Pair) → ListedOne a x b → Came b xs c → Came a (x ∷ xs) c
came_more a b c x xs one rest = record {
  stays = stays_more a b c one.stays rest.stays;
  lists = λ came h. subst (λ (ps : List Pair). HasListed c ps) (append_assoc came (x ∷ []) xs) (rest.lists (came ++ x ∷ []) (one.lists came h));
}

pub went : (a b : Rows) (xs : List Pair) → WentThrough took a xs b → Came a xs b
went a b [] h = subst (λ (r : Rows). Came a [] r) h (came_none a)
went a b (x ∷ xs) h = came_more a h.0 b x xs h.1.0 (went h.0 b xs h.1.1)

-- Some of the first ones came.
pub record CameFirst (a : Rows) (all : List Pair) (b : Rows) : Type 0 where
  pub came : List Pair
  pub rest : List Pair
  pub are : all ≡ came ++ rest
  pub lists : Came a came b

pub first_more : (a b c : Rows) (x : Pair) (xs : List Pair) → ListedOne a x b → CameFirst b xs c → CameFirst a (x ∷ xs) c
first_more a b c x xs one h = record {
  came = x ∷ h.came;
  rest = h.rest;
  are = ap (λ (ps : List Pair). x ∷ ps) h.are;
  lists = came_more a b c x h.came one h.lists;
}

first_none : (a b : Rows) (xs : List Pair) → a ≡ b → CameFirst a xs b
first_none a b xs same = record {
  came = [];
  rest = xs;
  are = refl;
  lists = subst (λ (r : Rows). Came a [] r) same (came_none a);
}

pub went_into : (a b : Rows) (xs : List Pair) → WentInto took a xs b → CameFirst a xs b
went_into a b [] h = first_none a b [] h
went_into a b (x ∷ xs) (inl same) = first_none a b (x ∷ xs) same
went_into a b (x ∷ xs) (inr h) = first_more a h.0 b x xs h.1.0 (went_into h.0 b xs h.1.1)

-- Some of the first ones came, and then one was left out.
pub record IsFull (a : Rows) (all : List Pair) (b : Rows) : Type 0 where
  pub first : CameFirst a all b
  pub is_more : 0 < length first.rest
  pub full : (came : List Pair) → HasListed a came → b.rows ≡ length b.room.now
  pub uncounted : b.counts ≡ false

stopped_now : (a b : Rows) (x : Pair) (xs : List Pair) → LeftOut a b → IsFull a (x ∷ xs) b
stopped_now a b x xs left = record {
  first = record {
    came = [];
    rest = x ∷ xs;
    are = refl;
    lists = record {
      stays = left.stays;
      lists = λ came h. subst (λ (ps : List Pair). HasListed b ps) (sym (append-nil came)) (left.lists came h);
    };
  };
  is_more = omega arith;
  full = left.full;
  uncounted = left.uncounted;
}

stopped_later : (a b c : Rows) (x : Pair) (xs : List Pair) → ListedOne a x b → IsFull b xs c → IsFull a (x ∷ xs) c
unfolding first_more
stopped_later a b c x xs one h = record {
  first = first_more a b c x xs one h.first;
  is_more = h.is_more;
  full = λ came k. h.full (came ++ x ∷ []) (one.lists came k);
  uncounted = h.uncounted;
}

pub stopped : (a b : Rows) (xs : List Pair) → StoppedIn took refused a xs b → IsFull a xs b
stopped a b [] none = elim none [ ]
stopped a b (x ∷ xs) (inl left) = stopped_now a b x xs left
stopped a b (x ∷ xs) (inr h) = stopped_later a h.0 b x xs h.1.0 (stopped h.0 b xs h.1.1)

-- what is told is told by what is equal
tells_as : (n m : List Face) (s t : Step) (p q : Pair) (x y : Part) → m ≡ n → t ≡ s → q ≡ p → y ≡ x → Tells n s p x → Tells m t q y
tells_as n m s t p q x y names steps pairs parts h =
    subst (λ (w : List Face). Tells w t q y) (sym names) (subst (λ (w : Step). Tells n w q y) (sym steps)
    (subst (λ (w : Pair). Tells n s w y) (sym pairs) (subst (λ (w : Part). Tells n s p w) (sym parts) h)))

-- of those that stood in the room already, and of the one that was put into the next place
put_before : (a m : Rows) (x : Pair) (came : List Pair) → PutOne a x m → a.rows ≡ length came - a.passed → a.rows < length a.room.now
    → Stands a.names.now a.step a.passed came a.room.now a.rows → (k : ℕ) (d : Part) (p : Pair) → k < a.rows
    → Tells m.names.now m.step (get_or (came ++ x ∷ []) (m.passed + k) p) (get_or m.room.now k d)
put_before a m x came one all place h k d p less =
    tells_as a.names.now m.names.now a.step m.step (get_or came (a.passed + k) p) (get_or (came ++ x ∷ []) (m.passed + k) p)
    (get_or a.room.now k d) (get_or m.room.now k d) one.stays.names one.stays.step
    (ap (λ (i : ℕ). get_or (came ++ x ∷ []) (i + k) p) one.stays.passed ∙ get_or_append_left came (x ∷ []) p (a.passed + k) (omega (arith, all, less)))
    (ap (λ (ps : List Part). get_or ps k d) one.room_is ∙ get_or-set_other a.room.now a.rows k one.part d (omega (arith, less)))
    (h.each k d p less)

put_there : (a m : Rows) (x : Pair) (came : List Pair) → PutOne a x m → a.passed ≤ length came → a.rows ≡ length came - a.passed
    → a.rows < length a.room.now → (k : ℕ) (d : Part) (p : Pair) → k ≡ a.rows
    → Tells m.names.now m.step (get_or (came ++ x ∷ []) (m.passed + k) p) (get_or m.room.now k d)
put_there a m x came one reached all place k d p is =
    tells_as a.names.now m.names.now a.step m.step x (get_or (came ++ x ∷ []) (m.passed + k) p) one.part (get_or m.room.now k d)
    one.stays.names one.stays.step
    (ap (λ (i : ℕ). get_or (came ++ x ∷ []) i p) (omega (arith, one.stays.passed, is, all, reached)) ∙ get_or-append_seam came x [] p)
    (ap (λ (ps : List Part). get_or ps k d) one.room_is ∙ get_or-set_at a.room.now a.rows k one.part d is place)
    one.told

swapped : (n k : ℕ) → (k ≡ n) ⊎ (k < n) → (k < n) ⊎ (k ≡ n)
swapped n k (inl is) = inr is
swapped n k (inr less) = inl less

either : (n k : ℕ) → k < n + 1 → (k < n) ⊎ (k ≡ n)
either n k less = swapped n k (eq-or-lt_of_le (omega (arith, less)))

put_each : (a m : Rows) (x : Pair) (came : List Pair) → PutOne a x m → a.passed ≤ length came → a.rows ≡ length came - a.passed
    → a.rows < length a.room.now → Stands a.names.now a.step a.passed came a.room.now a.rows
    → (k : ℕ) (d : Part) (p : Pair) → (k < a.rows) ⊎ (k ≡ a.rows)
    → Tells m.names.now m.step (get_or (came ++ x ∷ []) (m.passed + k) p) (get_or m.room.now k d)
put_each a m x came one reached all place h k d p (inl less) = put_before a m x came one all place h k d p less
put_each a m x came one reached all place h k d p (inr is) = put_there a m x came one reached all place k d p is

put_lists : (a m : Rows) (x : Pair) → PutOne a x m → a.passed ≤ a.came → a.rows < length a.room.now
    → (came : List Pair) → HasListed a came → HasListed (record m { came = min (m.came + 1) (2 ^ 64 - 1) }) (came ++ x ∷ [])
put_lists a m x one reached place came h =
    let long : length (came ++ x ∷ []) ≡ length came + 1 = length-append came (x ∷ []) in
    let all : a.rows ≡ length came - a.passed = omega (arith, h.stand.count, place) in
    let passed : a.passed ≤ length came = omega (arith, h.counted, reached) in
    record {
      stand = record {
        count = omega (arith, one.count, one.stays.passed, one.stays.same_length, all, passed, place, long);
        each = λ k d p less. put_each a m x came one passed all place h.stand k d p (either a.rows k (omega (arith, less, one.count)));
      };
      counted = omega (arith, one.came, h.counted, long);
      few = λ off. omega (arith, one.stays.passed, one.stays.same_length, all, passed, place, long);
    }

pub put_one : (a m b : Rows) (x : Pair) → PutOne a x m → b ≡ record m { came = min (m.came + 1) (2 ^ 64 - 1) } → a.passed ≤ a.came
    → a.rows < length a.room.now → ListedOne a x b
put_one a m b x one is reached place =
    subst (λ (r : Rows). ListedOne a x r) (sym is) (record {
      stays = record {
        names = one.stays.names;
        step = one.stays.step;
        passed = one.stays.passed;
        counts = one.stays.counts;
        room = one.stays.room;
        same_length = one.stays.same_length;
      };
      lists = put_lists a m x one reached place;
    })

-- it has no place, and is counted
counted_lists : (a : Rows) (x : Pair) → a.counts ≡ true → a.passed ≤ a.came → length a.room.now ≤ a.rows → (came : List Pair) → HasListed a came
    → HasListed (record a { came = min (a.came + 1) (2 ^ 64 - 1) }) (came ++ x ∷ [])
counted_lists a x on reached full came h =
    let long : length (came ++ x ∷ []) ≡ length came + 1 = length-append came (x ∷ []) in
    record {
      stand = record {
        count = omega (arith, h.stand.count, h.counted, reached, full, long);
        each = λ k d p less.
            subst (λ (q : Pair). Tells a.names.now a.step q (get_or a.room.now k d))
            (sym (get_or_append_left came (x ∷ []) p (a.passed + k) (omega (arith, less, h.stand.count)))) (h.stand.each k d p less);
      };
      counted = omega (arith, h.counted, long);
      few = λ off. absurd (false≢true (sym off ∙ on));
    }

pub counted_one : (a b : Rows) (x : Pair) → b ≡ record a { came = min (a.came + 1) (2 ^ 64 - 1) } → a.counts ≡ true → a.passed ≤ a.came
    → length a.room.now ≤ a.rows → ListedOne a x b
counted_one a b x is on reached full =
    subst (λ (r : Rows). ListedOne a x r) (sym is) (record {
      stays = record { names = refl; step = refl; passed = refl; counts = refl; room = refl; same_length = refl };
      lists = counted_lists a x on reached full;
    })

-- what stands is said of the same list, step and places
stands_as : (n m : List Face) (s t : Step) (i j r q : ℕ) (came : List Pair) (room : List Part) → m ≡ n → t ≡ s → j ≡ i → q ≡ r
    → Stands m t j came room q → Stands n s i came room r
stands_as n m s t i j r q came room names steps passed rows h =
    subst (λ (w : List Face). Stands w s i came room r) names (subst (λ (w : Step). Stands m w i came room r) steps
    (subst (λ (w : ℕ). Stands m t w came room r) passed (subst (λ (w : ℕ). Stands m t j came room w) rows h)))

-- A list of a step's solutions from a cube, by what came, and by what is told.
module _ (a b : Rows) (step : Step) (e : Place → Place) (listed : Listed) (found : FoundSolutions) where
  abbrev all : List Pair
  all = first_pairs step e listed.sides listed.length

  abbrev all_looks : ℕ
  all_looks = looks_of_pairs step e listed.sides listed.length

  into : (came rest : List Pair) → all ≡ came ++ rest → HasListed a [] → Came a came b → a.step ≡ step → a.passed ≡ listed.passed
      → a.counts ≡ listed.counts → found.rows ≡ b.rows → found.solutions ≡ b.came → (found.cut ≡ false → found.more ≡ false → rest ≡ [])
      → (found.more ≡ true → (b.rows ≡ length b.room.now) × (b.counts ≡ false) × (0 < length rest)) → (found.cut ≡ false → found.more ≡ false → found.looks ≡ all_looks)
      → found.looks ≤ all_looks → (found.cut ≡ true → listed.most_looks < all_looks) → (found.cut ≡ true → listed.most_looks < found.looks + length (turns_of step))
      → ListsInto a.names.now step e listed (length a.room.now) b.room.now found
  into came rest are empty h is_step is_passed is_counts rows solutions whole full looked at_most cut spent =
      let has : HasListed b came = h.lists [] empty in
      record {
        came = came;
        rest = rest;
        are_first = are;
        are_all = whole;
        stand = stands_as a.names.now b.names.now step b.step listed.passed b.passed found.rows b.rows came b.room.now h.stays.names
            (h.stays.step ∙ is_step) (h.stays.passed ∙ is_passed) (sym rows) has.stand;
        same_length = h.stays.same_length;
        counted = solutions ∙ has.counted;
        few = λ off. omega (arith, has.few (h.stays.counts ∙ is_counts ∙ off), h.stays.passed, is_passed, h.stays.same_length);
        full = λ more. rows ∙ (full more).0 ∙ h.stays.same_length;
        is_more = λ more. (full more).2;
        uncounted = λ more. sym is_counts ∙ sym h.stays.counts ∙ (full more).1;
        looked = looked;
        looked_at_most = at_most;
        cut = cut;
        spent = spent;
      }

  pub lists_into : (meter meter_now bound : ℕ) (ended : Result ℕ (Stopped Full)) → HandsOut took refused all all_looks meter meter_now a b is_cut_in bound (λ count. count) ended
      → meter ≡ 0 → bound ≡ meter + listed.most_looks → HasListed a [] → a.step ≡ step → a.passed ≡ listed.passed → a.counts ≡ listed.counts
      → EndsListing ended b.rows b.came meter_now found → HasSpent is_cut_in bound step meter_now ended
      → ListsInto a.names.now step e listed (length a.room.now) b.room.now found
  lists_into meter meter_now bound (Ok count) h zero is empty is_step is_passed is_counts ends spent =
      into all [] (sym (append-nil all)) empty (went a b all h.taken) is_step is_passed is_counts ends.rows_are ends.solutions_are (λ cut more. refl)
      (λ more. absurd (false≢true (sym ends.more ∙ more))) (λ cut more. omega (arith, ends.looks_are, h.looked, zero))
      (omega (arith, ends.looks_are, h.looked, zero)) (λ cut. absurd (false≢true (sym ends.cut ∙ cut))) (λ cut. absurd (false≢true (sym ends.cut ∙ cut)))
  lists_into meter meter_now bound (Err (Refused full)) h zero is empty is_step is_passed is_counts ends spent =
      let at : IsFull a all b = stopped a b all h.taken in
      into at.first.came at.first.rest at.first.are empty at.first.lists is_step is_passed is_counts ends.rows_are ends.solutions_are
      (λ cut more. absurd (false≢true (sym more ∙ ends.more))) (λ more. (at.full [] empty, at.uncounted, at.is_more)) (λ cut more. absurd (false≢true (sym more ∙ ends.more)))
      (omega (arith, ends.looks_are, h.looked, zero)) (λ cut. absurd (false≢true (sym ends.cut ∙ cut))) (λ cut. absurd (false≢true (sym ends.cut ∙ cut)))
  lists_into meter meter_now bound (Err Cut) h zero is empty is_step is_passed is_counts ends spent =
      let first : CameFirst a all b = went_into a b all h.taken in
      into first.came first.rest first.are empty first.lists is_step is_passed is_counts ends.rows_are ends.solutions_are
      (λ cut more. absurd (false≢true (sym cut ∙ ends.cut))) (λ more. absurd (false≢true (sym ends.more ∙ more))) (λ cut more. absurd (false≢true (sym cut ∙ ends.cut)))
      (omega (arith, ends.looks_are, h.looked, zero)) (λ cut. omega (arith, h.over refl, zero, is)) (λ cut. omega (arith, ends.looks_are, spent refl, zero, is))

pub lists_stays : (a b : Rows) (pairs : List Pair) (looks meter meter_now bound : ℕ) (ended : Result ℕ (Stopped Full))
    → HandsOut took refused pairs looks meter meter_now a b is_cut_in bound (λ count. count) ended → StaysListing a b
lists_stays a b pairs looks meter meter_now bound (Ok count) h = (went a b pairs h.taken).stays
lists_stays a b pairs looks meter meter_now bound (Err (Refused full)) h = (stopped a b pairs h.taken).first.lists.stays
lists_stays a b pairs looks meter meter_now bound (Err Cut) h = (went_into a b pairs h.taken).lists.stays
