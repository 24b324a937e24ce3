-- A descent part by part: what it does at a position is what it does after each turn that may follow, one after another;
-- and how a sink goes through parts.
use Rattle.niss_search.specs.Budgets.{IsTaken}
use Rattle.niss_search.proofs.Words.{OnErr, OnOk, ◌≡◌, arith, length, ◌+◌, ◌<◌, ℕ, ap, ◌∙◌, sym, ◌≤◌, [], List, refl, true, ◌-◌, ◌∷◌, Bool}
use Rattle.niss_search.proofs.Words.{Turn, false, suc, ◌++◌, zero, may_follow, last_turn, filter, sum_by-cons, le-leb, lt-leb, Part, beyond}
use Rattle.niss_search.proofs.Words.{length-append, only_looks, then_part, for_each, turns_of, get_or, map, subst, GoalCoordinates}
use Rattle.niss_search.proofs.Words.{distance_at, Step, inl, inr, All, position_after, take, drop, flat_map-append, Follower, no_turn}
use Rattle.niss_search.proofs.Words.{sum_by-append, Err, GoesThrough, Ok, Result, progress_at, below_at, beyond_at, All-head, All-tail, ap₂}
use Rattle.niss_search.proofs.Words.{Descends, Progress, EndedIn, WentInto, StoppedIn, StopsIn, WentThrough, map-append, AreFar, IsNextNear}
use Rattle.niss_search.proofs.Words.{drop_more, length-take-le, take-append-drop, Option, None, Some, replicate, add-one, only_paths, GoesAlong, EndsAt}

-- what stands in a list of followers past its end
abbrev pub no_follower : Follower
no_follower = record { turn = no_turn; column = 0; is_idle = false }

abbrev pub turns_in : List Follower → List Turn
turns_in fs = map (λ f. f.turn) fs

abbrev pub Events : Type 0
Events = List (Option (List Turn))

-- the first of them is a look
abbrev pub BeginsByLook : Events → Type 0
BeginsByLook [] = ⊥
BeginsByLook (None ∷ es) = Unit {0}
BeginsByLook (Some p ∷ es) = ⊥

-- looks, and one more
one_more : (k n : ℕ) → k ≡ n → (es : Events) → replicate k None ++ None ∷ es ≡ replicate (n + 1) None ++ es
one_more k n e es = rw (e, add-one n) (push n) where
  push : (n : ℕ) → replicate n None ++ None ∷ es ≡ None ∷ (replicate n None ++ es)
  push zero = refl
  push (suc n) = ap (λ (l : Events). None ∷ l) (push n)

module _ {X : Type 0} (part : X → Part) where
  pub for_each-cons : (x : X) (xs : List X) → for_each part (x ∷ xs) ≡ then_part (part x) (for_each part xs)
  for_each-cons x xs = λ i. record { paths = (for_each part (x ∷ xs)).paths; looks = sum_by-cons (λ y. (part y).looks) x xs i; events = (for_each part (x ∷ xs)).events }

  pub for_each-append : (xs ys : List X) → for_each part (xs ++ ys) ≡ then_part (for_each part xs) (for_each part ys)
  for_each-append xs ys =
      λ i. record { paths = flat_map-append (λ y. (part y).paths) xs ys i; looks = sum_by-append (λ y. (part y).looks) xs ys i; events = flat_map-append (λ y. (part y).events) xs ys i }

module _ (step : Step) (x : List GoalCoordinates) (p : List Turn) where
  -- what is done below the path and one turn more
  abbrev pub after_at : ℕ → Turn → Part
  after_at left t = below_at step (position_after x t) (p ++ t ∷ []) left

  pub beyond_at-far : (left : ℕ) → left < distance_at step x → beyond_at step x p left ≡ only_looks 0
  unfolding beyond beyond_at
  beyond_at-far zero h = rw (lt-leb (distance_at step x) 0 h)
  beyond_at-far (suc k) h = rw (lt-leb (distance_at step x) (suc k) h)

  pub beyond_at-end : distance_at step x ≤ 0 → beyond_at step x p 0 ≡ only_paths (p ∷ [])
  unfolding beyond beyond_at
  beyond_at-end h = rw (le-leb (distance_at step x) 0 h)

-- How a sink goes through one list, and then through another.
module _ {K X : Type 0} (took refused : K → X → K → Type 0) where
  pub WentThrough-append : (a b c : K) (ps qs : List X) → WentThrough took a ps b → WentThrough took b qs c → WentThrough took a (ps ++ qs) c
  WentThrough-append a b c [] qs h k = subst (λ (s : K). WentThrough took s qs c) (sym h) k
  WentThrough-append a b c (p ∷ ps) qs h k = (h.0, (h.1.0, WentThrough-append h.0 b c ps qs h.1.1 k))

  -- a refusal after some paths
  StoppedIn-after : (a b c : K) (ps qs : List X) → WentThrough took a ps b → StoppedIn took refused b qs c → StoppedIn took refused a (ps ++ qs) c
  StoppedIn-after a b c [] qs h k = subst (λ (s : K). StoppedIn took refused s qs c) (sym h) k
  StoppedIn-after a b c (p ∷ ps) qs h k = inr (h.0, (h.1.0, StoppedIn-after h.0 b c ps qs h.1.1 k))

  -- a refusal before some paths
  StoppedIn-before : (a c : K) (ps qs : List X) → StoppedIn took refused a ps c → StoppedIn took refused a (ps ++ qs) c
  StoppedIn-before a c [] qs h = absurd h
  StoppedIn-before a c (p ∷ ps) qs h =
      elim h [ inl r ↦ inl r | inr m ↦ inr (m.0, (m.1.0, StoppedIn-before m.0 c ps qs m.1.1)) ]

  -- cut after some paths, or before any
  WentInto-after : (a b c : K) (ps qs : List X) → WentThrough took a ps b → WentInto took b qs c → WentInto took a (ps ++ qs) c
  WentInto-after a b c [] qs h k = subst (λ (s : K). WentInto took s qs c) (sym h) k
  WentInto-after a b c (p ∷ ps) qs h k = inr (h.0, (h.1.0, WentInto-after h.0 b c ps qs h.1.1 k))

  pub WentInto-none : (a : K) (ps : List X) → WentInto took a ps a
  WentInto-none a [] = refl
  WentInto-none a (p ∷ ps) = inl refl

  WentInto-before : (a c : K) (ps qs : List X) → WentInto took a ps c → WentInto took a (ps ++ qs) c
  WentInto-before a c [] qs h = subst (λ (s : K). WentInto took a qs s) h (WentInto-none a qs)
  WentInto-before a c (p ∷ ps) qs h =
      elim h [ inl r ↦ inl r | inr m ↦ inr (m.0, (m.1.0, WentInto-before m.0 c ps qs m.1.1)) ]

  pub EndedIn-after : (cut : Bool) (a b c : K) (ps qs : List X) → WentThrough took a ps b → EndedIn took refused cut b qs c → EndedIn took refused cut a (ps ++ qs) c
  EndedIn-after true = WentInto-after
  EndedIn-after false = StoppedIn-after

  pub EndedIn-before : (cut : Bool) (a c : K) (ps qs : List X) → EndedIn took refused cut a ps c → EndedIn took refused cut a (ps ++ qs) c
  EndedIn-before true = WentInto-before
  EndedIn-before false = StoppedIn-before

module _ {K : Type 0} (took refused : K → List Turn → K → Type 0) where
  -- the same of looks and paths in order
  GoesAlong-append : (es fs : Events) (m : ℕ) (a : K) (n : ℕ) (b : K) (o : ℕ) (c : K) → GoesAlong took refused es m a n b → GoesAlong took refused fs n b o c → GoesAlong took refused (es ++ fs) m a o c
  GoesAlong-append [] fs m a n b o c h k =
      subst (λ (s : K). GoesAlong took refused fs m s o c) (sym h.1) (subst (λ (l : ℕ). GoesAlong took refused fs l b o c) (sym h.0) k)
  GoesAlong-append (None ∷ es) fs m a n b o c h k = GoesAlong-append es fs (suc m) a n b o c h k
  GoesAlong-append (Some p ∷ es) fs m a n b o c h k = (h.0, (h.1.0, GoesAlong-append es fs m h.0 n b o c h.1.1 k))

  EndsAt-after : (cut : Bool) (es fs : Events) (m : ℕ) (a : K) (n : ℕ) (b : K) (o : ℕ) (c : K) → GoesAlong took refused es m a n b → EndsAt took refused cut fs n b o c → EndsAt took refused cut (es ++ fs) m a o c
  EndsAt-after cut [] fs m a n b o c h k =
      subst (λ (s : K). EndsAt took refused cut fs m s o c) (sym h.1) (subst (λ (l : ℕ). EndsAt took refused cut fs l b o c) (sym h.0) k)
  EndsAt-after cut (None ∷ es) fs m a n b o c h k = inr (EndsAt-after cut es fs (suc m) a n b o c h k)
  EndsAt-after cut (Some p ∷ es) fs m a n b o c h k = inr (h.0, (h.1.0, EndsAt-after cut es fs m h.0 n b o c h.1.1 k))

  EndsAt-before : (cut : Bool) (es fs : Events) (m : ℕ) (a : K) (n : ℕ) (b : K) → EndsAt took refused cut es m a n b → EndsAt took refused cut (es ++ fs) m a n b
  EndsAt-before cut [] fs m a n b h = absurd h
  EndsAt-before cut (None ∷ es) fs m a n b h = elim h [ inl r ↦ inl r | inr k ↦ inr (EndsAt-before cut es fs (suc m) a n b k) ]
  EndsAt-before cut (Some p ∷ es) fs m a n b h =
      elim h [ inl r ↦ inl r | inr k ↦ inr (k.0, (k.1.0, EndsAt-before cut es fs m k.0 n b k.1.1)) ]

  GoesAlong-looks : (k m n : ℕ) (a : K) → n ≡ m + k → GoesAlong took refused (replicate k None) m a n a
  GoesAlong-looks zero m n a e = (omega (arith, e), refl)
  GoesAlong-looks (suc k) m n a e = GoesAlong-looks k (suc m) n a (omega (arith, e))

  EndsAt-first : (es : Events) → BeginsByLook es → (m : ℕ) (a : K) → EndsAt took refused true es m a m a
  EndsAt-first [] begins m a = absurd begins
  EndsAt-first (None ∷ es) begins m a = inl (refl, (refl, refl))
  EndsAt-first (Some p ∷ es) begins m a = absurd begins

  -- a path that is handed out
  Stops-take : (bound m c : ℕ) (s t : K) (p : List Turn) (cut : Bool) → cut ≡ false → refused s p t
      → StopsIn took refused (only_paths (p ∷ [])) (progress_at m c s) (progress_at m (c + 1) t) cut bound
  Stops-take bound m c s t p true e err = absurd (cc e)
  Stops-take bound m c s t p false e err =
      record { stopped = inl err; rises = omega arith; looked = omega arith; over = λ e. absurd (cc e); ends = inl (e, (refl, err)) }

  pub Descends-take : {F E : Type 0} (is_cut : E → Bool) (bound : ℕ) (said : Result (Unit {0}) F) (r : Result (Unit {0}) E) (m c : ℕ) (s t : K) (p : List Turn)
      → IsTaken is_cut said r → OnOk said (took s p t) → OnErr said (refused s p t)
      → Descends took refused (only_paths (p ∷ [])) (progress_at m c s) (progress_at m (c + 1) t) is_cut bound r
  Descends-take is_cut bound (Ok u) (Ok v) m c s t p of ok err =
      record { delivered = (t, (ok, refl)); counted = omega arith; looked = omega arith; along = (t, (ok, (refl, refl))) }
  Descends-take is_cut bound (Ok u) (Err e) m c s t p of ok err = absurd of
  Descends-take is_cut bound (Err f) (Ok v) m c s t p of ok err = absurd of
  Descends-take is_cut bound (Err f) (Err e) m c s t p of ok err = Stops-take bound m c s t p (is_cut e) of err

module _ {K : Type 0} {took refused : K → List Turn → K → Type 0} where
  -- looks that find nothing
  pub GoesThrough-looks : (k m n c : ℕ) (s : K) → n ≡ m + k → GoesThrough took refused (only_looks k) (progress_at m c s) (progress_at n c s)
  GoesThrough-looks k m n c s e = record { delivered = refl; counted = omega arith; looked = e; along = GoesAlong-looks took refused k m n s e }

  module _ {part : Part} {a b : Progress K} where
    -- a part, and then another
    pub Descends-then : {E : Type 0} (is_cut : E → Bool) (bound : ℕ) (r : Result (Unit {0}) E) (more : Part) (c : Progress K)
        → GoesThrough took refused part a b → Descends took refused more b c is_cut bound r
        → Descends took refused (then_part part more) a c is_cut bound r
    Descends-then is_cut bound (Ok u) more c h g = record {
      delivered = WentThrough-append took refused a.sink b.sink c.sink part.paths more.paths h.delivered g.delivered;
      counted = omega (arith, h.counted, g.counted, length-append part.paths more.paths);
      looked = omega (arith, h.looked, g.looked);
      along = GoesAlong-append took refused part.events more.events a.meter a.sink b.meter b.sink c.meter c.sink h.along g.along;
    }
    Descends-then is_cut bound (Err e) more c h g = record {
      stopped = EndedIn-after took refused (is_cut e) a.sink b.sink c.sink part.paths more.paths h.delivered g.stopped;
      rises = omega (arith, h.looked, g.rises);
      looked = omega (arith, h.looked, g.looked);
      over = λ t. omega (arith, h.looked, g.over t);
      ends = EndsAt-after took refused (is_cut e) part.events more.events a.meter a.sink b.meter b.sink c.meter c.sink h.along g.ends;
    }

    -- an end, before another part
    pub StopsIn-before : {cut : Bool} {bound : ℕ} (more : Part) → StopsIn took refused part a b cut bound → StopsIn took refused (then_part part more) a b cut bound
    StopsIn-before {cut} more h = record {
      stopped = EndedIn-before took refused cut a.sink b.sink part.paths more.paths h.stopped;
      rises = h.rises;
      looked = omega (arith, h.looked);
      over = λ t. omega (arith, h.over t);
      ends = EndsAt-before took refused cut part.events more.events a.meter a.sink b.meter b.sink h.ends;
    }

  -- a cut before a part that passes the bound
  pub StopsIn-cut : (bound : ℕ) (part : Part) (a : Progress K) (cut : Bool) → cut ≡ true → bound < a.meter + part.looks → BeginsByLook part.events → StopsIn took refused part a a cut bound
  StopsIn-cut bound part a true e over begins =
      record { stopped = WentInto-none took refused a.sink part.paths; rises = omega arith; looked = omega arith; over = λ t. over; ends = EndsAt-first took refused part.events begins a.meter a.sink }
  StopsIn-cut bound part a false e over begins = absurd (cc e)

module _ (step : Step) (x : List GoalCoordinates) (p : List Turn) (left : ℕ) where
  abbrev IsFar : Follower → Type 0
  IsFar f = left < distance_at step (position_after x f.turn)

  -- a look after each that finds nothing
  after_at-far : (fs : List Follower) → All IsFar fs → for_each (after_at step x p left) (turns_in fs) ≡ only_looks (length fs)
  after_at-far [] b = refl
  after_at-far (f ∷ fs) b =
      let one = beyond_at-far step (position_after x f.turn) (p ++ f.turn ∷ []) left (All-head IsFar f fs b) in
      let all : 1 + 0 + length fs ≡ length (f ∷ fs) = omega arith in
      for_each-cons (after_at step x p left) f.turn (turns_in fs)
      ∙ ap₂ then_part (ap (then_part (only_looks 1)) one) (after_at-far fs (All-tail IsFar f fs b))
      ∙ (λ i. record { paths = []; looks = all i; events = replicate (length (f ∷ fs)) None })

  after_at-some : (fs : List Follower) → length fs ≤ (for_each (after_at step x p left) (turns_in fs)).looks
  after_at-some [] = omega arith
  after_at-some (f ∷ fs) =
      omega (arith, sum_by-cons (λ t. (after_at step x p left t).looks) f.turn (turns_in fs), after_at-some fs)

  after_at-begins : (fs : List Follower) → 0 < length fs → BeginsByLook (for_each (after_at step x p left) (turns_in fs)).events
  after_at-begins [] some = absurd (omega (arith, some))
  after_at-begins (f ∷ fs) some = tt

-- A descent with `left` turns more has come from a state to this one: what the followers `rest` are still to do ends what it does.
pub record Remains
    {K : Type 0} (took refused : K → List Turn → K → Type 0) (step : Step) (x : List GoalCoordinates) (p : List Turn) (left : ℕ)
    (rest : List Follower) (start now : Progress K) : Type 0 where
  room : now.meter + (for_each (after_at step x p (left - 1)) (turns_in rest)).looks ≤ start.meter + (beyond_at step x p left).looks
  ends : (bound : ℕ) (r : Result (Unit {0}) Bool) (new : Progress K) → Descends took refused (for_each (after_at step x p (left - 1)) (turns_in rest)) now new (λ c. c) bound r
      → Descends took refused (beyond_at step x p left) start new (λ c. c) bound r

module _ {K : Type 0} {took refused : K → List Turn → K → Type 0} {step : Step} {x : List GoalCoordinates} {p : List Turn} where
  pub Remains-all : (left more : ℕ) (rest : List Follower) (start : Progress K) → left ≡ suc more → distance_at step x ≤ left
      → turns_in rest ≡ filter (may_follow (last_turn p)) (turns_of step) → Remains took refused step x p left rest start start
  unfolding beyond beyond_at
  Remains-all zero more rest start e near all = absurd (omega arith)
  Remains-all (suc k) more rest start e near all =
      let same : suc k - 1 ≡ k = omega arith in
      let whole : beyond_at step x p (suc k) ≡ for_each (after_at step x p (suc k - 1)) (turns_in rest) = rw (same, all, le-leb (distance_at step x) (suc k) near) refl in
      record {
        room = omega (arith, ap (λ (q : Part). q.looks) whole);
        ends = λ bound r new h. subst (λ (q : Part). Descends took refused q start new (λ c. c) bound r) (sym whole) h;
      }

  module _ {left : ℕ} {rest : List Follower} {start now : Progress K} (remains : Remains took refused step x p left rest start now) where
    abbrev each : Turn → Part
    each = after_at step x p (left - 1)

    pub Remains-room : now.meter + length rest ≤ start.meter + (beyond_at step x p left).looks
    Remains-room = omega (arith, remains.room, after_at-some step x p (left - 1) rest)

    -- none of them is near
    pub Remains-far : {n : ℕ} → AreFar step x (left - 1) rest now.meter n
        → GoesThrough took refused (beyond_at step x p left) start (progress_at n now.count now.sink)
    Remains-far {n} are =
        let new = progress_at n now.count now.sink in
        remains.ends 0 (Ok tt) new
        (subst (λ (q : Part). GoesThrough took refused q now new) (sym (after_at-far step x p (left - 1) rest are.far))
        (GoesThrough-looks (length rest) now.meter n now.count now.sink are.looked))

    -- their looks would pass the bound
    pub Remains-cut : (bound : ℕ) (cut : Bool) → cut ≡ true → bound < now.meter + length rest → now.meter ≤ bound → StopsIn took refused (beyond_at step x p left) start now cut bound
    Remains-cut bound cut e over within =
        remains.ends bound (Err cut) now
        (StopsIn-cut bound (for_each each (turns_in rest)) now cut e (omega (arith, over, after_at-some step x p (left - 1) rest))
        (after_at-begins step x p (left - 1) rest (omega (arith, over, within))))

    -- from the first on after which a look allows so many turns
    module _ {n i : ℕ} (next : IsNextNear step x (left - 1) rest now.meter n i) where
      abbrev t : Turn
      t = (get_or rest i no_follower).turn

      -- what is done after it once it was looked at, and after those behind it
      abbrev under : Part
      under = beyond_at step (position_after x t) (p ++ t ∷ []) (left - 1)

      abbrev others : Part
      others = for_each each (turns_in (drop (i + 1) rest))

      -- the descent once it was looked at
      abbrev there : Progress K
      there = progress_at n now.count now.sink

      parts : for_each each (turns_in rest) ≡ then_part (only_looks (i + 1)) (then_part under others)
      parts =
          let behind = turns_in (drop (i + 1) rest) in
          let split : turns_in rest ≡ turns_in (take i rest) ++ t ∷ behind =
          ap turns_in (sym (take-append-drop i rest) ∙ ap (λ fs. take i rest ++ fs) (drop_more rest i no_follower next.inside))
          ∙ map-append (λ (f : Follower). f.turn) (take i rest) (get_or rest i no_follower ∷ drop (i + 1) rest) in
          let size = length-take-le i rest (omega (arith, next.inside)) in
          let looks : length (take i rest) + (1 + under.looks + others.looks) ≡ i + 1 + (under.looks + others.looks) = omega (arith, size) in
          ap (for_each each) split
          ∙ for_each-append each (turns_in (take i rest)) (t ∷ behind)
          ∙ ap₂ then_part (after_at-far step x p (left - 1) (take i rest) next.far) (for_each-cons each t behind)
          ∙ (λ j. record { paths = under.paths ++ others.paths; looks = looks j; events = one_more (length (take i rest)) i size (under.events ++ others.events) j })

      pub Remains-room_next : n + under.looks ≤ start.meter + (beyond_at step x p left).looks
      Remains-room_next = omega (arith, remains.room, ap (λ (q : Part). q.looks) parts, next.looked)

      -- what is done from there on ends what it does
      ends_there : (bound : ℕ) (r : Result (Unit {0}) Bool) (new : Progress K) → Descends took refused (then_part under others) there new (λ c. c) bound r
          → Descends took refused (beyond_at step x p left) start new (λ c. c) bound r
      ends_there bound r new h =
          let passed = GoesThrough-looks (i + 1) now.meter n now.count now.sink (omega (arith, next.looked)) in
          remains.ends bound r new (subst (λ (q : Part). Descends took refused q now new (λ c. c) bound r) (sym parts) (Descends-then (λ c. c) bound r (then_part under others) new passed h))

      -- so it goes on with those behind that one, or it stops
      pub Remains-next : {mid : Progress K} → GoesThrough took refused under there mid
          → Remains took refused step x p left (drop (i + 1) rest) start mid
      Remains-next h = record {
        room = omega (arith, remains.room, ap (λ (q : Part). q.looks) parts, next.looked, h.looked);
        ends = λ bound r new g. ends_there bound r new (Descends-then (λ c. c) bound r others new h g);
      }

      pub Remains-stops : {cut : Bool} {bound : ℕ} {new : Progress K} → StopsIn took refused under there new cut bound
          → StopsIn took refused (beyond_at step x p left) start new cut bound
      Remains-stops {cut} {bound} {new} h = ends_there bound (Err cut) new (StopsIn-before others h)
