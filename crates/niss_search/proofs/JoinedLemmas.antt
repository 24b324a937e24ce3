-- The sink that joins tails to a head: what it does with tails is what its own sink does with the pairs that it keeps.
use Rattle.niss_search.proofs.Words.{◌≡◌, inl, inr, sym, ◌∙◌, ap, subst, arith, ◌+◌, ◌-◌, ◌^◌, ◌≤◌, min, Bool, true, false, cond, ℕ}
use Rattle.niss_search.proofs.Words.{List, [], ◌∷◌, length, map, length-map, length-filter, count_by-le-length, Turn, Step, Path, at_limit, EndedIn, WentThrough}
use Rattle.niss_cube.specs.Map.{map_of}
use Rattle.niss_cube.specs.declared.cube.Cube.{Cube}
use Rattle.niss_search.specs.BothSides.{Pair}
use Rattle.niss_search.specs.BothWalk.{join, kept, is_kept, joined, keeps, StaysJoined, JoinedTook, JoinedRefused}
use Rattle.niss_search.specs.declared.searching.both.Ends.{Ends}
use Rattle.niss_search.specs.declared.searching.both.joined.Joined.{Joined}
use Rattle.niss_search.specs.declared.searching.both.splitting.Side.{Side}

-- a count goes as far as numbers go
abbrev pub top : ℕ
top = 2 ^ 128 - 1

module _ {K : Type 0} where
  -- a joining sink is of some ends, a step and a cube, and has a head on a side
  pub record Joins (ends : Ends) (step : Step) (cube : Cube) (side : Side) (head : List Turn) (j : Joined K) : Type 0 where
    pub of_ends : j.ends ≡ ends
    pub of_step : j.step ≡ step
    pub of_cube : j.cube.now ≡ cube
    pub on_side : j.side ≡ side
    pub has_head : j.head.now.turns ≡ head

  stays_then : (a b c : Joined K) → StaysJoined a b → StaysJoined b c → StaysJoined a c
  stays_then a b c v w = record { head = w.head ∙ v.head; side = w.side ∙ v.side; step = w.step ∙ v.step; ends = w.ends ∙ v.ends; cube = w.cube ∙ v.cube; same_sink = w.same_sink ∙ v.same_sink }

  stays_itself : (a b : Joined K) → a ≡ b → StaysJoined a b
  stays_itself a b e = record {
    head = sym (ap (λ (j : Joined K). j.head.now) e);
    side = sym (ap (λ (j : Joined K). j.side) e);
    step = sym (ap (λ (j : Joined K). j.step) e);
    ends = sym (ap (λ (j : Joined K). j.ends) e);
    cube = sym (ap (λ (j : Joined K). j.cube.now) e);
    same_sink = sym (ap (λ (j : Joined K). j.sink.ghost_name) e);
  }

module _ {K : Type 0} (took refused : K → Pair → K → Type 0) (ends : Ends) (step : Step) (cube : Cube) (side : Side) (head : List Turn) (limit : ℕ) where
  abbrev Is : Joined K → Type 0
  Is j = Joins ends step cube side head j

  -- the pairs of tails that are handed on
  abbrev pub pairs_of : List (List Turn) → List Pair
  pairs_of ts = kept ends step (map_of cube) (map (join side head) ts)

  still : (old new : Joined K) → Is old → StaysJoined old new → Is new
  still old new j s =
      record { of_ends = s.ends ∙ j.of_ends; of_step = s.step ∙ j.of_step; of_cube = s.cube ∙ j.of_cube; on_side = s.side ∙ j.on_side; has_head = ap (λ (p : Path). p.turns) s.head ∙ j.has_head }

  pair_is : (j : Joined K) → Is j → (t : List Turn) → joined j t ≡ join side head t
  pair_is j js t = λ i. join (js.on_side i) (js.has_head i) t

  keeps_is : (j : Joined K) → Is j → (t : List Turn) → keeps j t ≡ is_kept ends step (map_of cube) (join side head t)
  keeps_is j js t =
      (λ i. is_kept (js.of_ends i) (js.of_step i) (map_of (js.of_cube i)) (joined j t)) ∙ ap (is_kept ends step (map_of cube)) (pair_is j js t)

  -- a tail that isn't kept gives no pair, and any other gives one
  pairs-none : (j : Joined K) → Is j → (t : List Turn) (ts : List (List Turn)) → keeps j t ≡ false → pairs_of (t ∷ ts) ≡ pairs_of ts
  pairs-none j js t ts b =
      ap (λ v. cond v (join side head t ∷ pairs_of ts) (pairs_of ts)) (sym (keeps_is j js t) ∙ b)

  pairs-one : (j : Joined K) → Is j → (t : List Turn) (ts : List (List Turn)) → keeps j t ≡ true → pairs_of (t ∷ ts) ≡ joined j t ∷ pairs_of ts
  pairs-one j js t ts b =
      ap (λ v. cond v (join side head t ∷ pairs_of ts) (pairs_of ts)) (sym (keeps_is j js t) ∙ b)
      ∙ ap (λ p. p ∷ pairs_of ts) (sym (pair_is j js t))

  pub pairs-few : (ts : List (List Turn)) → length (pairs_of ts) ≤ length ts
  pairs-few ts =
      let keep : Pair → Bool = is_kept ends step (map_of cube) in
      omega (arith, length-filter keep (map (join side head) ts), count_by-le-length keep (map (join side head) ts), length-map ts (join side head))

  pub record Went (ts : List (List Turn)) (old new : Joined K) : Type 0 where
    pub stays : StaysJoined old new
    pub went : WentThrough took old.sink.now (pairs_of ts) new.sink.now
    pub counted : new.count ≡ min (old.count + length (pairs_of ts)) top

  then_none : (old mid new : Joined K) (t : List Turn) (ts : List (List Turn)) → Is old → StaysJoined old mid → keeps old t ≡ false → mid.sink.now ≡ old.sink.now → mid.count ≡ old.count
      → Went ts mid new → Went (t ∷ ts) old new
  then_none old mid new t ts js stays b same count h = record {
    stays = stays_then old mid new stays h.stays;
    went = rw (pairs-none old js t ts b) (subst (λ s. WentThrough took s (pairs_of ts) new.sink.now) same h.went);
    counted = rw (pairs-none old js t ts b) (h.counted ∙ ap (λ c. min (c + length (pairs_of ts)) top) count);
  }

  then_one : (old mid new : Joined K) (t : List Turn) (ts : List (List Turn)) → Is old → StaysJoined old mid → keeps old t ≡ true → took old.sink.now (joined old t) mid.sink.now
      → mid.count ≡ min (old.count + 1) top → Went ts mid new → Went (t ∷ ts) old new
  then_one old mid new t ts js stays b did count h = record {
    stays = stays_then old mid new stays h.stays;
    went = rw (pairs-one old js t ts b) (mid.sink.now, (did, h.went));
    counted = rw (pairs-one old js t ts b) (omega (arith, h.counted, count));
  }

  pub joined_went : (ts : List (List Turn)) (old new : Joined K) → Is old → old.count ≤ top → WentThrough (at_limit (JoinedTook took) limit) old ts new → Went ts old new
  joined_went [] old new js small e =
      record { stays = stays_itself old new e; went = ap (λ (j : Joined K). j.sink.now) e; counted = omega (arith, ap (λ (j : Joined K). j.count) e, small) }
  joined_went (t ∷ ts) old new js small (mid, ((stays, inl (b, (same, count))), rest)) =
      then_none old mid new t ts js stays b same count (joined_went ts mid new (still old mid js stays) (omega (arith, count, small)) rest)
  joined_went (t ∷ ts) old new js small (mid, ((stays, inr (b, (did, count))), rest)) =
      then_one old mid new t ts js stays b did count (joined_went ts mid new (still old mid js stays) (omega (arith, count)) rest)

  abbrev pub Ended : Bool → List (List Turn) → Joined K → Joined K → Type 0
  Ended cut ts old new = StaysJoined old new × EndedIn took refused cut old.sink.now (pairs_of ts) new.sink.now

  cut_at_once : (ps : List Pair) (s t : K) → s ≡ t → EndedIn took refused true s ps t
  cut_at_once [] s t e = e
  cut_at_once (p ∷ ps) s t e = inl e

  later : (cut : Bool) (p : Pair) (ps : List Pair) (s m t : K) → took s p m → EndedIn took refused cut m ps t → EndedIn took refused cut s (p ∷ ps) t
  later true p ps s m t did h = inr (m, (did, h))
  later false p ps s m t did h = inr (m, (did, h))

  step_ended : (cut : Bool) (t : List Turn) (ts : List (List Turn)) (old mid new : Joined K) → Is old → JoinedTook took old (record { limit = limit; turns = t }) mid
      → Ended cut ts mid new → Ended cut (t ∷ ts) old new
  step_ended cut t ts old mid new js (stays, inl (b, (same, count))) h =
      (stays_then old mid new stays h.0, rw (pairs-none old js t ts b) (subst (λ s. EndedIn took refused cut s (pairs_of ts) new.sink.now) same h.1))
  step_ended cut t ts old mid new js (stays, inr (b, (did, count))) h =
      (stays_then old mid new stays h.0, rw (pairs-one old js t ts b) (later cut (joined old t) (pairs_of ts) old.sink.now mid.sink.now new.sink.now did h.1))

  pub joined_ended : (cut : Bool) (ts : List (List Turn)) (old new : Joined K) → Is old
      → EndedIn (at_limit (JoinedTook took) limit) (at_limit (JoinedRefused refused) limit) cut old ts new → Ended cut ts old new
  joined_ended true [] old new js e = (stays_itself old new e, ap (λ (j : Joined K). j.sink.now) e)
  joined_ended true (t ∷ ts) old new js (inl e) =
      (stays_itself old new e, cut_at_once (pairs_of (t ∷ ts)) old.sink.now new.sink.now (ap (λ (j : Joined K). j.sink.now) e))
  joined_ended true (t ∷ ts) old new js (inr (mid, (did, rest))) =
      step_ended true t ts old mid new js did (joined_ended true ts mid new (still old mid js did.0) rest)
  joined_ended false [] old new js e = absurd e
  joined_ended false (t ∷ ts) old new js (inl away) =
      (away.0, rw (pairs-one old js t ts away.1.0) (inl away.1.1))
  joined_ended false (t ∷ ts) old new js (inr (mid, (did, rest))) =
      step_ended false t ts old mid new js did (joined_ended false ts mid new (still old mid js did.0) rest)
