-- Lists by length, one length after another: what those up to one length say of the least length of which there is something,
-- and of what there is from there on.
use Rattle.niss_search.proofs.Words.{◌≡◌, arith, length, ◌+◌, ◌<◌, ℕ, ap, ◌∙◌, sym, ◌≤◌, [], List, refl, true, ◌-◌, ◌∷◌, Bool, false}
use Rattle.niss_search.proofs.Words.{cond, range_with_len, ◌++◌, flat_map, None, Option, Some, flat_map-append, last_length, unwrap_or, up_to, find}
use Rattle.niss_search.proofs.Words.{solution_lengths, option_or, then_some, find-append, nat_lt, nat_tests, subst, least_of, from_least}
use Rattle.std.proofs.lemmas.List.{nil_from_length}
use Rattle.niss_search.proofs.ListLemmas.{flat_map-none, in-range, range-push, range-split}
use Rattle.niss_search.proofs.LookLemmas.{first_or-from, first_or-le, first_or-within}

pub last-within : (o : Option ℕ) (n slack : ℕ) → last_length o n slack ≤ n
last-within None n slack = omega arith
last-within (Some least) n slack = omega arith

-- a length within the last one is so still where none is nearer than it
within-or : (n slack d : ℕ) (o p : Option ℕ) → d ≤ unwrap_or p (n + 1) → d ≤ last_length o n slack → d ≤ last_length (option_or o p) n slack
within-or n slack d None None from k = k
within-or n slack d None (Some e) from k = omega (arith, from)
within-or n slack d (Some l) p from k = k

module _ {X : Type 0} (each : ℕ → List X) where
  -- Is there something of this length?
  abbrev pub is_length : ℕ → Bool
  is_length k = nat_lt 0 (length (each k))

  -- the least length of which there is, below d
  abbrev pub least_below : ℕ → Option ℕ
  least_below d = find is_length (range_with_len 0 d)

  -- by what there is of d
  pub least_below-more : (d : ℕ) → least_below (d + 1) ≡ option_or (least_below d) (then_some (is_length d) d)
  least_below-more d =
      ap (find is_length) (range-push d)
      ∙ find-append is_length (range_with_len 0 d) (d ∷ [])
      ∙ ap (option_or (least_below d)) (one (is_length d)) where
        one : (b : Bool) → cond b (Some d) None ≡ then_some b d
        one true = refl
        one false = refl

  -- a length within the last one is so still when it was deepened to
  pub length-next : (n slack d : ℕ) → d ≤ last_length (least_below d) n slack → d ≤ last_length (least_below (d + 1)) n slack
  length-next n slack d h =
      rw (least_below-more d) (within-or n slack d (least_below d) _ (here (is_length d)) h) where
        here : (b : Bool) → d ≤ unwrap_or (then_some b d) (n + 1)
        here true = omega arith
        here false = omega (arith, h, last-within (least_below d) n slack)

  module _ (n : ℕ) where
    from-length : (d : ℕ) → d ≤ n + 1 → least_of each n ≡ option_or (least_below d) (find is_length (range_with_len d (n + 1 - d)))
    from-length d h = ap (find is_length) (range-split d (n + 1) h) ∙ find-append is_length (range_with_len 0 d) (range_with_len d (n + 1 - d))

    pub length-within : (slack d : ℕ) → d ≤ last_length (least_below d) n slack → d ≤ last_length (least_of each n) n slack
    length-within slack d h =
        let small : d ≤ n + 1 = omega (arith, h, last-within (least_below d) n slack) in
        rw (from-length d small) (within-or n slack d (least_below d) _ (first_or-from is_length d (n + 1 - d) (n + 1) (omega (arith, small))) h)

    pub least-is : (slack d : ℕ) → d ≡ last_length (least_below d) n slack + 1 → least_of each n ≡ least_below d
    least-is slack d h = by_least (least_below d) refl h where
      by_least : (o : Option ℕ) → least_below d ≡ o → d ≡ last_length o n slack + 1 → find is_length (range_with_len 0 (n + 1)) ≡ o
      by_least None e k = ap least_below (sym k) ∙ e
      by_least (Some l) e k = from-length d (omega (arith, k)) ∙ ap (λ o. option_or o (find is_length (range_with_len d (n + 1 - d)))) e

    pub least-within : (d : ℕ) → least_of each n ≡ Some d → d ≤ n
    least-within d e =
        let P : Option ℕ → Type 0 = λ o. unwrap_or o n ≤ n in
        subst P e (first_or-within is_length 0 (n + 1) n n (omega arith) (omega arith))

    -- below the least length there is nothing
    nothing-below : (k : ℕ) → k < unwrap_or (least_of each n) (n + 1) → each k ≡ []
    nothing-below k h =
        let within = first_or-within is_length 0 (n + 1) (n + 1) (n + 1) (omega arith) (omega arith) in
        nil_from_length (each k) (grind (arith, nat_tests, h, within, first_or-le is_length 0 (n + 1) (n + 1) k))

    -- so what there is from the least on is all there is up to the last length
    pub from_least-all : (slack : ℕ) → from_least each n slack ≡ flat_map each (up_to (last_length (least_of each n) n slack))
    from_least-all slack = by_least (least_of each n) nothing-below least-within where
      by_least : (o : Option ℕ) → ((k : ℕ) → k < unwrap_or o (n + 1) → each k ≡ []) → ((d : ℕ) → o ≡ Some d → d ≤ n)
          → flat_map each (solution_lengths o n slack) ≡ flat_map each (up_to (last_length o n slack))
      by_least None none within = sym (flat_map-none each (range_with_len 0 (n + 1)) (λ k m. none k (omega (arith, in-range 0 (n + 1) k m))))
      by_least (Some d) none within =
          let end = last_length (Some d) n slack + 1 in
          sym (ap (flat_map each) (range-split d end (omega (arith, within d refl)))
          ∙ flat_map-append each (range_with_len 0 d) (range_with_len d (end - d))
          ∙ ap (λ ps. ps ++ flat_map each (range_with_len d (end - d))) (flat_map-none each (range_with_len 0 d) (λ k m. none k (omega (arith, in-range 0 d k m)))))
