-- Rows in the order in which they came, if they have the same rank.
use Rattle.std.proofs.Common.{◌≡◌, ◌⊎◌, inl, inr, refl, sym, ◌∙◌, subst, ap, ℕ, suc, ◌+◌, ◌-◌, ◌<◌, ◌≤◌, List, length, get_or, Bool, arith}
use Rattle.std.specs.Prelude.{nat_lt, if◌then◌else◌}
use Rattle.std.proofs.lemmas.Bool.{lt-ltb, le-ltb}
unfoldable use Rattle.niss_ways.specs.Order.{AreInTurn}
use Rattle.niss_ways.specs.Order.{CameInTurn, ComeBefore, IsPut, IsSorted, rank_of}
use Rattle.niss_ways.specs.declared.way.Way.{Way}

lt_or_le : (i k : ℕ) → (i < k) ⊎ (k ≤ i)
lt_or_le i k = grind arith

came_none : (n : ℕ) (room : List Way) → CameInTurn n room n room
came_none n room = record {
  number = λ k. k;
  most = n;
  no_fewer = omega arith;
  within = λ k lt. lt;
  stood = λ k d lt less. refl;
  in_turn = λ i j d ij jn e. ij;
  stay = λ j d lt. inl (j, lt, refl);
  better = λ rank d full all k lt le. absurd (omega (arith, lt, le));
}

-- More came after what came first.
module _ (i : ℕ) (x : List Way) (j : ℕ) (y : List Way) (k : ℕ) (z : List Way) (f : CameInTurn i x j y) (g : CameInTurn j y k z)
    (fewer : j ≤ k) (fits : k ≤ length z) (same : length z ≡ length y) (first_fewer : i ≤ j) (first_fits : j ≤ length y)
    (first_same : length y ≡ length x) where
  abbrev number : ℕ → ℕ
  number p = if nat_lt (g.number p) j then f.number (g.number p) else f.most + g.number p

  number_then : (p : ℕ) → g.number p < j → number p ≡ f.number (g.number p)
  number_then p lt = ap (λ (t : Bool). if t then f.number (g.number p) else f.most + g.number p) (lt-ltb (g.number p) j lt)

  number_new : (p : ℕ) → j ≤ g.number p → number p ≡ f.most + g.number p
  number_new p le = ap (λ (t : Bool). if t then f.number (g.number p) else f.most + g.number p) (le-ltb (g.number p) j le)

  within_more : (p : ℕ) → p < k → number p < f.most + g.most
  within_more p lt = by_time (lt_or_le (g.number p) j) where
    by_time : (g.number p < j) ⊎ (j ≤ g.number p) → number p < f.most + g.most
    by_time (inl old) = let e = number_then p old in let b = f.within (g.number p) old in omega (arith, e, b)
    by_time (inr new) = let e = number_new p new in let b = g.within p lt in omega (arith, e, b)

  stood_more : (p : ℕ) (d : Way) → p < k → number p < i → get_or z p d ≡ get_or x (number p) d
  stood_more p d lt less = by_time (lt_or_le (g.number p) j) where
    by_time : (g.number p < j) ⊎ (j ≤ g.number p) → get_or z p d ≡ get_or x (number p) d
    by_time (inl old) =
        let e = number_then p old in
        g.stood p d lt old ∙ f.stood (g.number p) d old (omega (arith, e, less)) ∙ ap (λ (m : ℕ). get_or x m d) (sym e)
    by_time (inr new) = let e = number_new p new in let b = f.no_fewer in absurd (omega (arith, e, b, less))

  in_turn_more : (p q : ℕ) (d : Way) → p < q → q < k → rank_of (get_or z p d) ≡ rank_of (get_or z q d) → number p < number q
  in_turn_more p q d pq qk e = by_times (lt_or_le (g.number p) j) (lt_or_le (g.number q) j) where
    less : g.number p < g.number q
    less = g.in_turn p q d pq qk e

    by_times : (g.number p < j) ⊎ (j ≤ g.number p) → (g.number q < j) ⊎ (j ≤ g.number q) → number p < number q
    by_times (inl a) (inl b) =
        let ranks : rank_of (get_or y (g.number p) d) ≡ rank_of (get_or y (g.number q) d) =
        sym (ap rank_of (g.stood p d (omega (arith, pq, qk)) a)) ∙ e ∙ ap rank_of (g.stood q d qk b) in
        let first = f.in_turn (g.number p) (g.number q) d less b ranks in
        let at_p = number_then p a in let at_q = number_then q b in omega (arith, first, at_p, at_q)
    by_times (inl a) (inr b) =
        let most = f.within (g.number p) a in let at_p = number_then p a in let at_q = number_new q b in omega (arith, most, at_p, at_q)
    by_times (inr a) (inl b) = absurd (omega (arith, a, b, less))
    by_times (inr a) (inr b) = let at_p = number_new p a in let at_q = number_new q b in omega (arith, less, at_p, at_q)

  better_more : (rank : ℕ) (d : Way) → i ≡ length x → ((p : ℕ) → p < i → rank_of (get_or x p d) ≤ rank)
      → (p : ℕ) → p < k → i ≤ number p → rank_of (get_or z p d) < rank
  better_more rank d full all p pk le = by_time (lt_or_le (g.number p) j) where
    between : (q : ℕ) → q < j → (f.number q < i) ⊎ (i ≤ f.number q) → rank_of (get_or y q d) ≤ rank
    between q qj (inl old) =
        let e : rank_of (get_or y q d) ≡ rank_of (get_or x (f.number q) d) = ap rank_of (f.stood q d qj old) in
        let b = all (f.number q) old in omega (arith, e, b)
    between q qj (inr new) = let b = f.better rank d full all q qj new in omega (arith, b)

    by_time : (g.number p < j) ⊎ (j ≤ g.number p) → rank_of (get_or z p d) < rank
    by_time (inl old) =
        let at_p = number_then p old in
        let e : rank_of (get_or z p d) ≡ rank_of (get_or y (g.number p) d) = ap rank_of (g.stood p d pk old) in
        let b = f.better rank d full all (g.number p) old (omega (arith, le, at_p)) in omega (arith, e, b)
    by_time (inr new) =
        g.better rank d (omega (arith, full, first_fewer, first_fits, first_same)) (λ q qj. between q qj (lt_or_le (f.number q) i)) p pk new

  stay_more : (m : ℕ) (d : Way) → m < i
      → ((p : ℕ) × (p < k) × (number p ≡ m)) ⊎ ((k ≡ length z) × ComeBefore (rank_of (get_or x m d)) m d number k z)
  stay_more m d lt = by_first (f.stay m d lt) where
    by_then : (n : ℕ) → n < j → f.number n ≡ m
        → ((p : ℕ) × (p < k) × (g.number p ≡ n)) ⊎ ((k ≡ length z) × ComeBefore (rank_of (get_or y n d)) n d g.number k z)
        → ((p : ℕ) × (p < k) × (number p ≡ m)) ⊎ ((k ≡ length z) × ComeBefore (rank_of (get_or x m d)) m d number k z)
    by_then n nj is (inl (p, pk, e)) = inl (p, pk, number_then p (omega (arith, e, nj)) ∙ ap f.number e ∙ is)
    by_then n nj is (inr (full, all)) = inr (full, λ p pk. (at_most p pk, earlier p pk)) where
      ranks : rank_of (get_or y n d) ≡ rank_of (get_or x m d)
      ranks = ap rank_of (f.stood n d nj (omega (arith, is, lt)) ∙ ap (λ (q : ℕ). get_or x q d) is)

      at_most : (p : ℕ) → p < k → rank_of (get_or z p d) ≤ rank_of (get_or x m d)
      at_most p pk = let b = (all p pk).0 in omega (arith, b, ranks)

      earlier : (p : ℕ) → p < k → rank_of (get_or z p d) ≡ rank_of (get_or x m d) → number p < m
      earlier p pk e =
          let less : g.number p < n = (all p pk).1 (e ∙ sym ranks) in
          let old : g.number p < j = omega (arith, less, nj) in
          let same_ranks : rank_of (get_or y (g.number p) d) ≡ rank_of (get_or y n d) = sym (ap rank_of (g.stood p d pk old)) ∙ e ∙ sym ranks in
          let first = f.in_turn (g.number p) n d less nj same_ranks in
          let at_p = number_then p old in omega (arith, first, at_p, is)

    by_first : ((n : ℕ) × (n < j) × (f.number n ≡ m)) ⊎ ((j ≡ length y) × ComeBefore (rank_of (get_or x m d)) m d f.number j y)
        → ((p : ℕ) × (p < k) × (number p ≡ m)) ⊎ ((k ≡ length z) × ComeBefore (rank_of (get_or x m d)) m d number k z)
    by_first (inl (n, nj, is)) = by_then n nj is (g.stay n d nj)
    by_first (inr (full, all)) = inr (omega (arith, full, fewer, fits, same), λ p pk. by_time p pk (lt_or_le (g.number p) j)) where
      by_time : (p : ℕ) → p < k → (g.number p < j) ⊎ (j ≤ g.number p)
          → (rank_of (get_or z p d) ≤ rank_of (get_or x m d)) × (rank_of (get_or z p d) ≡ rank_of (get_or x m d) → number p < m)
      by_time p pk (inl old) =
          let ranks : rank_of (get_or z p d) ≡ rank_of (get_or y (g.number p) d) = ap rank_of (g.stood p d pk old) in
          let b = (all (g.number p) old).0 in let at_p = number_then p old in
          (omega (arith, ranks, b), (λ e. let first = (all (g.number p) old).1 (sym ranks ∙ e) in omega (arith, first, at_p)))
      by_time p pk (inr new) =
          let less = g.better (rank_of (get_or x m d)) d full (λ q qj. (all q qj).0) p pk new in
          (omega (arith, less), (λ e. absurd (omega (arith, less, e))))

  came_then : CameInTurn i x k z
  came_then = record {
    number = number;
    most = f.most + g.most;
    no_fewer = let b = f.no_fewer in omega (arith, b);
    within = within_more;
    stood = stood_more;
    in_turn = in_turn_more;
    stay = stay_more;
    better = better_more;
  }

-- A way was put among the first n of m rows; if these are fewer than all, it comes before the others, and the room is full.
module _ (way : Way) (n m : ℕ) (old new : List Way) (p : IsPut way n old new) (fewer : n ≤ m)
    (lost : (j : ℕ) (d : Way) → n ≤ j → j < m → (n + 1 ≡ length new) × ((k : ℕ) → k < n + 1 → rank_of (get_or old k d) ≤ rank_of (get_or old j d))
    × (rank_of way < rank_of (get_or old j d)) × (j ≡ n))
    (full : m ≡ length old → (rank : ℕ) (d : Way) → ((k : ℕ) → k < m → rank_of (get_or old k d) ≤ rank) → rank_of way < rank) where
  abbrev put_number : ℕ → ℕ
  put_number k = if nat_lt k p.at then k else (if nat_lt p.at k then k - 1 else m)

  put_before : (k : ℕ) → k < p.at → put_number k ≡ k
  put_before k lt = ap (λ (t : Bool). if t then k else (if nat_lt p.at k then k - 1 else m)) (lt-ltb k p.at lt)

  put_behind : (k : ℕ) → p.at < k → put_number k ≡ k - 1
  put_behind k lt =
      ap (λ (t : Bool). if t then k else (if nat_lt p.at k then k - 1 else m)) (le-ltb k p.at (omega (arith, lt)))
      ∙ ap (λ (t : Bool). if t then k - 1 else m) (lt-ltb p.at k lt)

  put_here : (k : ℕ) → k ≡ p.at → put_number k ≡ m
  put_here k e =
      ap (λ (t : Bool). if t then k else (if nat_lt p.at k then k - 1 else m)) (le-ltb k p.at (omega (arith, e)))
      ∙ ap (λ (t : Bool). if t then k - 1 else m) (le-ltb p.at k (omega (arith, e)))

  -- a place before the way, its own, or one behind it
  abbrev Place : ℕ → Type 0
  Place k = (k < p.at) ⊎ ((k ≡ p.at) ⊎ ((j : ℕ) × (k ≡ suc j) × (p.at ≤ j)))

  place_of : (k : ℕ) → Place k
  place_of k = by_order (lt_or_le k p.at) (lt_or_le p.at k) where
    by_order : (k < p.at) ⊎ (p.at ≤ k) → (p.at < k) ⊎ (k ≤ p.at) → Place k
    by_order (inl lt) w = inl lt
    by_order (inr le) (inl gt) = inr (inr (k - 1, omega (arith, gt), omega (arith, gt)))
    by_order (inr le) (inr ge) = inr (inl (omega (arith, le, ge)))

  put_within : (k : ℕ) → k < n + 1 → put_number k < m + 1
  put_within k lt = by_place (place_of k) where
    by_place : Place k → put_number k < m + 1
    by_place (inl b) = let e = put_before k b in omega (arith, e, lt, fewer)
    by_place (inr (inl e)) = let h = put_here k e in omega (arith, h)
    by_place (inr (inr (j, e, le))) = let h = put_behind k (omega (arith, e, le)) in omega (arith, h, lt, fewer)

  new_here : (k : ℕ) (d : Way) → k ≡ p.at → get_or new k d ≡ way
  new_here k d e = ap (λ (q : ℕ). get_or new q d) e ∙ p.here d

  new_behind : (k : ℕ) (d : Way) (j : ℕ) → k ≡ suc j → p.at ≤ j → k < n + 1 → get_or new k d ≡ get_or old j d
  new_behind k d j e le lt = ap (λ (q : ℕ). get_or new q d) e ∙ p.behind j d le (omega (arith, e, lt))

  put_stood : (k : ℕ) (d : Way) → k < n + 1 → put_number k < m → get_or new k d ≡ get_or old (put_number k) d
  put_stood k d lt less = by_place (place_of k) where
    by_place : Place k → get_or new k d ≡ get_or old (put_number k) d
    by_place (inl b) = p.before k d b ∙ ap (λ (q : ℕ). get_or old q d) (sym (put_before k b))
    by_place (inr (inl e)) = let h = put_here k e in absurd (omega (arith, h, less))
    by_place (inr (inr (j, e, le))) =
        let h = put_behind k (omega (arith, e, le)) in
        let is : j ≡ put_number k = omega (arith, h, e) in new_behind k d j e le lt ∙ ap (λ (q : ℕ). get_or old q d) is

  put_in_turn : (i j : ℕ) (d : Way) → i < j → j < n + 1 → rank_of (get_or new i d) ≡ rank_of (get_or new j d) → put_number i < put_number j
  put_in_turn i j d ij jn e = by_places (place_of i) (place_of j) where
    by_places : Place i → Place j → put_number i < put_number j
    by_places (inl a) (inl b) = let x = put_before i a in let y = put_before j b in omega (arith, x, y, ij)
    by_places (inl a) (inr (inl b)) = let x = put_before i a in let y = put_here j b in let t = p.there in omega (arith, x, y, a, t, fewer)
    by_places (inl a) (inr (inr (r, b, le))) =
        let x = put_before i a in let y = put_behind j (omega (arith, b, le)) in omega (arith, x, y, a, b, le)
    by_places (inr (inl a)) (inl b) = absurd (omega (arith, a, b, ij))
    by_places (inr (inl a)) (inr (inl b)) = absurd (omega (arith, a, b, ij))
    by_places (inr (inl a)) (inr (inr (r, b, le))) =
        let x : rank_of (get_or new i d) ≡ rank_of way = ap rank_of (new_here i d a) in
        let y : rank_of (get_or new j d) ≡ rank_of (get_or old r d) = ap rank_of (new_behind j d r b le jn) in
        let less = p.after r d le (omega (arith, b, jn)) in absurd (omega (arith, x, y, less, e))
    by_places (inr (inr (q, a, le))) (inl b) = absurd (omega (arith, a, le, b, ij))
    by_places (inr (inr (q, a, le))) (inr (inl b)) = absurd (omega (arith, a, le, b, ij))
    by_places (inr (inr (q, a, le))) (inr (inr (r, b, ge))) =
        let x = put_behind i (omega (arith, a, le)) in let y = put_behind j (omega (arith, b, ge)) in omega (arith, x, y, a, b, ij)

  put_stay : (j : ℕ) (d : Way) → j < m
      → ((k : ℕ) × (k < n + 1) × (put_number k ≡ j)) ⊎ ((n + 1 ≡ length new) × ComeBefore (rank_of (get_or old j d)) j d put_number (n + 1) new)
  put_stay j d lt = by_rest (lt_or_le j n) where
    by_side : j < n → (j < p.at) ⊎ (p.at ≤ j)
        → ((k : ℕ) × (k < n + 1) × (put_number k ≡ j)) ⊎ ((n + 1 ≡ length new) × ComeBefore (rank_of (get_or old j d)) j d put_number (n + 1) new)
    by_side jn (inl b) = inl (j, omega (arith, jn), put_before j b)
    by_side jn (inr le) = let h = put_behind (suc j) (omega (arith, le)) in inl (suc j, omega (arith, jn), omega (arith, h))

    by_place : (k : ℕ) → k < n + 1 → Place k → ((k : ℕ) → k < n + 1 → rank_of (get_or old k d) ≤ rank_of (get_or old j d))
        → rank_of way < rank_of (get_or old j d) → j ≡ n
        → (rank_of (get_or new k d) ≤ rank_of (get_or old j d)) × (rank_of (get_or new k d) ≡ rank_of (get_or old j d) → put_number k < j)
    by_place k kn (inl b) all less is =
        let e : rank_of (get_or new k d) ≡ rank_of (get_or old k d) = ap rank_of (p.before k d b) in
        let h = put_before k b in let most = all k kn in let t = p.there in (omega (arith, e, most), (λ same. omega (arith, h, b, t, is)))
    by_place k kn (inr (inl a)) all less is =
        let e : rank_of (get_or new k d) ≡ rank_of way = ap rank_of (new_here k d a) in
        (omega (arith, e, less), (λ same. absurd (omega (arith, e, less, same))))
    by_place k kn (inr (inr (q, a, le))) all less is =
        let e : rank_of (get_or new k d) ≡ rank_of (get_or old q d) = ap rank_of (new_behind k d q a le kn) in
        let h = put_behind k (omega (arith, a, le)) in let most = all q (omega (arith, a, kn)) in
        (omega (arith, e, most), (λ same. omega (arith, h, a, kn, is)))

    by_rest : (j < n) ⊎ (n ≤ j)
        → ((k : ℕ) × (k < n + 1) × (put_number k ≡ j)) ⊎ ((n + 1 ≡ length new) × ComeBefore (rank_of (get_or old j d)) j d put_number (n + 1) new)
    by_rest (inl jn) = by_side jn (lt_or_le j p.at)
    by_rest (inr nj) = let w = lost j d nj lt in inr (w.0, (λ k kn. by_place k kn (place_of k) w.1 w.2 w.3))

  put_better : (rank : ℕ) (d : Way) → m ≡ length old → ((k : ℕ) → k < m → rank_of (get_or old k d) ≤ rank)
      → (k : ℕ) → k < n + 1 → m ≤ put_number k → rank_of (get_or new k d) < rank
  put_better rank d all_there all k kn le = by_place (place_of k) where
    by_place : Place k → rank_of (get_or new k d) < rank
    by_place (inl b) = let h = put_before k b in let t = p.there in absurd (omega (arith, h, b, t, fewer, le))
    by_place (inr (inl a)) =
        let e : rank_of (get_or new k d) ≡ rank_of way = ap rank_of (new_here k d a) in
        let less = full all_there rank d all in omega (arith, e, less)
    by_place (inr (inr (q, a, ge))) = let h = put_behind k (omega (arith, a, ge)) in absurd (omega (arith, h, a, kn, fewer, le))

  came_put : CameInTurn m old (n + 1) new
  came_put = record {
    number = put_number;
    most = m + 1;
    no_fewer = omega arith;
    within = put_within;
    stood = put_stood;
    in_turn = put_in_turn;
    stay = put_stay;
    better = put_better;
  }

-- A way was put into a room with place for it.
came_more : (way : Way) (n : ℕ) (old new : List Way) → IsPut way n old new → n < length old → CameInTurn n old (n + 1) new
came_more way n old new p room =
    came_put way n n old new p (omega arith) (λ j d le lt. absurd (omega (arith, le, lt))) (λ full rank d all. absurd (omega (arith, full, room)))

-- A way was put into a full room, whose last row comes after it.
module _ (way : Way) (count places : ℕ) (old new : List Way) (last : Way) (some : 0 < places) (all : places ≡ length old)
    (full : places ≤ count) (is_last : (d : Way) → get_or old (places - 1) d ≡ last) (better : rank_of way < rank_of last) where
  whole : places - 1 + 1 ≡ places
  whole = omega (arith, some)

  came_full : IsPut way (places - 1) old new → length new ≡ length old → count ≤ length old → IsSorted count old → CameInTurn count old places new
  came_full p same fits s =
      subst (λ (q : ℕ). CameInTurn count old q new) whole
      (came_put way (places - 1) count old new p (omega (arith, full)) lost_is (λ h rank d most. at_least rank d most)) where
        last_of : (d : Way) (j : ℕ) → j ≡ places - 1 → rank_of (get_or old j d) ≡ rank_of last
        last_of d j e = ap rank_of (ap (λ (q : ℕ). get_or old q d) e ∙ is_last d)

        at_least : (rank : ℕ) (d : Way) → ((k : ℕ) → k < count → rank_of (get_or old k d) ≤ rank) → rank_of way < rank
        at_least rank d most =
            let e = last_of d (places - 1) refl in let b = most (places - 1) (omega (arith, some, full)) in omega (arith, e, b, better)

        up_to : (j : ℕ) (d : Way) → j ≡ places - 1 → (k : ℕ) → (k < j) ⊎ (j ≤ k) → k < places - 1 + 1 → rank_of (get_or old k d) ≤ rank_of (get_or old j d)
        up_to j d is k (inl less) kn = s k j d less (omega (arith, is, some, full))
        up_to j d is k (inr le) kn =
            let e : rank_of (get_or old k d) ≡ rank_of (get_or old j d) =
            ap (λ (q : ℕ). rank_of (get_or old q d)) (let q : k ≡ j = omega (arith, le, kn, is) in q) in omega (arith, e)

        lost_is : (j : ℕ) (d : Way) → places - 1 ≤ j → j < count → (places - 1 + 1 ≡ length new)
            × ((k : ℕ) → k < places - 1 + 1 → rank_of (get_or old k d) ≤ rank_of (get_or old j d)) × (rank_of way < rank_of (get_or old j d)) × (j ≡ places - 1)
        lost_is j d le lt =
            let is : j ≡ places - 1 = omega (arith, le, lt, all, fits) in
            let e = last_of d j is in
            (omega (arith, whole, all, same), (λ k kn. up_to j d is k (lt_or_le k j) kn), omega (arith, e, better), is)

-- None came, and all places are taken.
came_same : (n m : ℕ) (room : List Way) → m ≡ n → CameInTurn n room m room
came_same n m room e = subst (λ (q : ℕ). CameInTurn n room q room) (sym e) (came_none n room)

-- The same in the words of the contracts.
pub in_turn_none : (n : ℕ) (room : List Way) → AreInTurn n room n room
unfolding AreInTurn
in_turn_none n room = came_none n room

pub in_turn_then : (i : ℕ) (x : List Way) (j : ℕ) (y : List Way) (k : ℕ) (z : List Way) → AreInTurn i x j y → AreInTurn j y k z
    → j ≤ k → k ≤ length z → length z ≡ length y → i ≤ j → j ≤ length y → length y ≡ length x → AreInTurn i x k z
unfolding AreInTurn
in_turn_then i x j y k z f g fewer fits same first_fewer first_fits first_same = came_then i x j y k z f g fewer fits same first_fewer first_fits first_same

pub in_turn_placed : (way : Way) (n : ℕ) (old new : List Way) → IsPut way n old new → n < length old → AreInTurn n old (n + 1) new
unfolding AreInTurn
in_turn_placed way n old new p room = came_more way n old new p room

pub in_turn_full : (way : Way) (count places : ℕ) (old new : List Way) (last : Way) → 0 < places → places ≡ length old → places ≤ count
    → ((d : Way) → get_or old (places - 1) d ≡ last) → rank_of way < rank_of last → IsPut way (places - 1) old new → length new ≡ length old
    → count ≤ length old → IsSorted count old → AreInTurn count old places new
unfolding AreInTurn
in_turn_full way count places old new last some all full is_last better p same fits s =
    came_full way count places old new last some all full is_last better p same fits s

pub in_turn_same : (n m : ℕ) (room : List Way) → m ≡ n → AreInTurn n room m room
unfolding AreInTurn
in_turn_same n m room e = came_same n m room e
