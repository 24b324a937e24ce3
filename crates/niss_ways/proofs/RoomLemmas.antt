-- A room that grows, and grows again, grows; and what each pair does to it, a search does.
use Rattle.std.proofs.Common.{◌≡◌, ◌⊎◌, inl, inr, refl, sym, ◌∙◌, subst, ℕ, ◌<◌, ◌≤◌, List, [], ◌∷◌, length, get_or, Result, Ok, Err, Bool, true, false, arith}
use Rattle.niss_search.specs.BothSides.{Pair, HandsOut}
use Rattle.niss_search.specs.Delivery.{WentThrough, StoppedIn, WentInto, EndedIn}
use Rattle.niss_ways.specs.Searched.{Searched}
use Rattle.niss_ways.specs.Order.{IsSorted, AreWithin, AreKept, AreInTurn, rank_of}
use Rattle.niss_ways.specs.Rooms.{Grows}
use Rattle.niss_ways.specs.Sinks.{KeepsRoom}
use Rattle.niss_ways.specs.Truth.{Origin, IsWay, AreWays, AreFrom}
use Rattle.niss_ways.specs.declared.way.Way.{Way}
use Rattle.niss_ways.proofs.TurnLemmas.{in_turn_none, in_turn_then}

pub grows_none : (o : Origin) (n : ℕ) (room : List Way) → Grows o n room n room
grows_none o n room = record { same_length = refl; within = λ h. h; no_fewer = λ h. omega arith; sorted = λ h. h; kept = λ h s j d lt. inl (j, lt, refl); in_turn = λ h s. in_turn_none n room; no_worse = λ r h s. s; true_rows = λ h. h }

-- what was kept, and kept again, is kept
kept_more : (i : ℕ) (x : List Way) (j : ℕ) (y : List Way) (k : ℕ) (z : List Way) → AreKept i x j y → AreKept j y k z → j ≤ k → k ≤ length z
    → length z ≡ length y → ((r : ℕ) → j ≡ length y → AreWithin r j y → AreWithin r k z) → AreKept i x k z
kept_more i x j y k z first then fewer within same worse m d lt = by_first (first m d lt) where
  by_then : (n : ℕ) → get_or y n d ≡ get_or x m d
      → ((p : ℕ) × (p < k) × (get_or z p d ≡ get_or y n d)) ⊎ ((k ≡ length z) × AreWithin (rank_of (get_or y n d)) k z)
      → ((p : ℕ) × (p < k) × (get_or z p d ≡ get_or x m d)) ⊎ ((k ≡ length z) × AreWithin (rank_of (get_or x m d)) k z)
  by_then n is (inl (p, pk, e)) = inl (p, pk, e ∙ is)
  by_then n is (inr (full, all)) = inr (full, subst (λ (w : Way). AreWithin (rank_of w) k z) is all)

  by_first : ((n : ℕ) × (n < j) × (get_or y n d ≡ get_or x m d)) ⊎ ((j ≡ length y) × AreWithin (rank_of (get_or x m d)) j y)
      → ((p : ℕ) × (p < k) × (get_or z p d ≡ get_or x m d)) ⊎ ((k ≡ length z) × AreWithin (rank_of (get_or x m d)) k z)
  by_first (inl (n, nj, is)) = by_then n is (then n d nj)
  by_first (inr (full, all)) = inr (omega (arith, full, fewer, within, same), worse (rank_of (get_or x m d)) full all)

pub grows_more : (o : Origin) (i : ℕ) (x : List Way) (j : ℕ) (y : List Way) (k : ℕ) (z : List Way)
    → Grows o i x j y → Grows o j y k z → Grows o i x k z
grows_more o i x j y k z g h = record {
  same_length = h.same_length ∙ g.same_length;
  within = λ w. h.within (g.within w);
  no_fewer = λ w. omega (arith, g.no_fewer w, h.no_fewer (g.within w));
  sorted = λ s. h.sorted (g.sorted s);
  kept = λ w s. kept_more i x j y k z (g.kept w s) (h.kept (g.within w) (g.sorted s)) (h.no_fewer (g.within w)) (h.within (g.within w)) h.same_length h.no_worse;
  in_turn = λ w s. in_turn_then i x j y k z (g.in_turn w s) (h.in_turn (g.within w) (g.sorted s)) (h.no_fewer (g.within w)) (h.within (g.within w))
      h.same_length (g.no_fewer w) (g.within w) g.same_length;
  no_worse = λ r full s. h.no_worse r (omega (arith, full, g.no_fewer (omega (arith, full)), g.within (omega (arith, full)), g.same_length)) (g.no_worse r full s);
  true_rows = λ t. h.true_rows (g.true_rows t);
}

-- A true way came.
pub grows_by : (o : Origin) (way : Way) (n : ℕ) (old : List Way) (m : ℕ) (new : List Way) → IsWay o way → AreFrom way n old m new
    → (IsSorted n old → IsSorted m new) → m ≤ length new → length new ≡ length old → (n ≤ length old → n ≤ m)
    → (n ≤ length old → IsSorted n old → AreKept n old m new) → (n ≤ length old → IsSorted n old → AreInTurn n old m new)
    → ((r : ℕ) → n ≡ length old → AreWithin r n old → AreWithin r m new) → Grows o n old m new
grows_by o way n old m new is from sorted within same no_fewer kept in_turn no_worse = record {
  same_length = same;
  within = λ w. within;
  no_fewer = no_fewer;
  sorted = sorted;
  kept = kept;
  in_turn = in_turn;
  no_worse = no_worse;
  true_rows = λ h k d lt. by_from h k d (from k d lt);
} where
  by_from : AreWays o n old → (k : ℕ) (d : Way) → (get_or new k d ≡ way) ⊎ ((j : ℕ) × (j < n) × (get_or new k d ≡ get_or old j d)) → IsWay o (get_or new k d)
  by_from h k d (inl e) = subst (IsWay o) (sym e) is
  by_from h k d (inr (j, lt, e)) = subst (IsWay o) (sym e) (h j d lt)

pub keeps_none : (o : Origin) (most name n : ℕ) (room : List Way) → KeepsRoom o most name n room o most name n room
keeps_none o most name n room = record { same_start = refl; same_most = refl; same_room = refl; grows = grows_none o n room }

-- Looks were made, and no row came.
pub keeps_looks : (o : Origin) (most new_most name n : ℕ) (room : List Way) → new_most ≡ most → KeepsRoom o most name n room o new_most name n room
keeps_looks o most new_most name n room e = record { same_start = refl; same_most = e; same_room = refl; grows = grows_none o n room }

-- A true way came.
pub keeps_taken : (o : Origin) (most new_most name n : ℕ) (room : List Way) (way : Way) (m : ℕ) (new : List Way) → new_most ≡ most → IsWay o way
    → AreFrom way n room m new → (IsSorted n room → IsSorted m new) → m ≤ length new → length new ≡ length room → (n ≤ length room → n ≤ m)
    → (n ≤ length room → IsSorted n room → AreKept n room m new) → (n ≤ length room → IsSorted n room → AreInTurn n room m new)
    → ((r : ℕ) → n ≡ length room → AreWithin r n room → AreWithin r m new) → KeepsRoom o most name n room o new_most name m new
keeps_taken o most new_most name n room way m new e is from sorted within same no_fewer kept in_turn no_worse =
    record { same_start = refl; same_most = e; same_room = refl; grows = grows_by o way n room m new is from sorted within same no_fewer kept in_turn no_worse }

pub keeps_more : (o : Origin) (a b i : ℕ) (x : List Way) (p : Origin) (c d j : ℕ) (y : List Way) (q : Origin) (e f k : ℕ) (z : List Way)
    → KeepsRoom o a b i x p c d j y → KeepsRoom p c d j y q e f k z → KeepsRoom o a b i x q e f k z
keeps_more o a b i x p c d j y q e f k z g h = record {
  same_start = h.same_start ∙ g.same_start;
  same_most = h.same_most ∙ g.same_most;
  same_room = h.same_room ∙ g.same_room;
  grows = grows_more o i x j y k z g.grows (subst (λ (r : Origin). Grows r j y k z) g.same_start h.grows);
}

-- What holds between a sink before and after each pair, and goes on, holds between those before and after a search.
module _ {K : Type 0} (R : K → K → Type 0) (none : (a : K) → R a a) (both : (a m b : K) → R a m → R m b → R a b) where
  abbrev pub By : K → Pair → K → Type 0
  By old p new = R old new

  went_rel : (all : List Pair) (a b : K) → WentThrough By a all b → R a b
  went_rel [] a b h = subst (λ k. R a k) h (none a)
  went_rel (p ∷ ps) a b h = both a h.0 b h.1.0 (went_rel ps h.0 b h.1.1)

  stopped_rel : (all : List Pair) (a b : K) → StoppedIn By By a all b → R a b
  stopped_rel [] a b h = absurd h
  stopped_rel (p ∷ ps) a b (inl h) = h
  stopped_rel (p ∷ ps) a b (inr h) = both a h.0 b h.1.0 (stopped_rel ps h.0 b h.1.1)

  into_rel : (all : List Pair) (a b : K) → WentInto By a all b → R a b
  into_rel [] a b h = subst (λ k. R a k) h (none a)
  into_rel (p ∷ ps) a b (inl h) = subst (λ k. R a k) h (none a)
  into_rel (p ∷ ps) a b (inr h) = both a h.0 b h.1.0 (into_rel ps h.0 b h.1.1)

  ended_rel : (cut : Bool) (all : List Pair) (a b : K) → EndedIn By By cut a all b → R a b
  ended_rel true all a b h = into_rel all a b h
  ended_rel false all a b h = stopped_rel all a b h

  pub hands_rel : {T E : Type 0} (pairs : List Pair) (looks m n : ℕ) (a b : K) (is_cut : E → Bool) (bound : ℕ) (count : T → ℕ) (r : Result T E)
      → HandsOut By By pairs looks m n a b is_cut bound count r → R a b
  hands_rel pairs looks m n a b is_cut bound count (Ok value) h = went_rel pairs a b h.taken
  hands_rel pairs looks m n a b is_cut bound count (Err stop) h = ended_rel (is_cut stop) pairs a b h.taken

  pub searched_rel : {T E : Type 0} (starts : Bool) (pairs : List Pair) (looks m n : ℕ) (a b : K) (is_cut : E → Bool) (count : T → ℕ) (r : Result T E)
      → Searched By By starts pairs looks m n a b is_cut count r → R a b
  searched_rel true pairs looks m n a b is_cut count r h = hands_rel pairs looks m n a b is_cut (h.some refl).0 count r (h.some refl).1
  searched_rel false pairs looks m n a b is_cut count r h = subst (λ k. R a k) (sym (h.none refl)) (none a)

-- the same, the sink first
pub by_search : {K T E : Type 0} (a b : K) (R : K → K → Type 0) (none : (a : K) → R a a) (both : (a m b : K) → R a m → R m b → R a b)
    (starts : Bool) (pairs : List Pair) (looks m n : ℕ) (is_cut : E → Bool) (count : T → ℕ) (r : Result T E)
    → Searched (By R none both) (By R none both) starts pairs looks m n a b is_cut count r → R a b
by_search a b R none both starts pairs looks m n is_cut count r h = searched_rel R none both starts pairs looks m n a b is_cut count r h
