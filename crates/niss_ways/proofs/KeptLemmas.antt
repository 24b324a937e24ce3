-- A way that takes the place of the last one of a full room, which comes after it.
use Rattle.std.proofs.Common.{◌≡◌, ◌⊎◌, inl, inr, ℕ, ◌+◌, ◌-◌, ◌<◌, ◌≤◌, List, length, get_or, sym, ◌∙◌, subst, ap, arith}
use Rattle.std.proofs.Math.Nat.{eq-or-lt_of_le}
use Rattle.niss_ways.specs.Order.{IsSorted, AreWithin, AreKept, rank_of}
use Rattle.niss_ways.specs.Truth.{AreFrom, AreStill}
use Rattle.niss_ways.specs.declared.way.Way.{Way}

module _ (way : Way) (n : ℕ) (old new : List Way) (last : Way) (is_last : (d : Way) → get_or old n d ≡ last) (better : rank_of way < rank_of last)
    (from : AreFrom way n old (n + 1) new) where
  within_now : (rank : ℕ) → AreWithin rank (n + 1) old → AreWithin rank (n + 1) new
  within_now rank h k d lt = by_from (from k d lt) where
    by_from : (get_or new k d ≡ way) ⊎ ((j : ℕ) × (j < n) × (get_or new k d ≡ get_or old j d)) → rank_of (get_or new k d) ≤ rank
    by_from (inl e) =
        let here : rank_of (get_or new k d) ≡ rank_of way = ap rank_of e in
        let most : rank_of last ≤ rank = subst (λ (w : Way). rank_of w ≤ rank) (is_last d) (h n d (omega arith)) in omega arith
    by_from (inr (j, jn, e)) = subst (λ (w : Way). rank_of w ≤ rank) (sym e) (h j d (omega arith))

  up_to_last : IsSorted (n + 1) old → (d : Way) → AreWithin (rank_of (get_or old n d)) (n + 1) old
  up_to_last s d k c kn = by_place (eq-or-lt_of_le (omega (arith, kn))) where
    same : rank_of (get_or old n c) ≡ rank_of (get_or old n d)
    same = ap rank_of (is_last c ∙ sym (is_last d))

    by_place : (k ≡ n) ⊎ (k < n) → rank_of (get_or old k c) ≤ rank_of (get_or old n d)
    by_place (inl e) = let here : rank_of (get_or old k c) ≡ rank_of (get_or old n c) = ap (λ (m : ℕ). rank_of (get_or old m c)) e in omega (arith, here, same)
    by_place (inr less) = let le : rank_of (get_or old k c) ≤ rank_of (get_or old n c) = s k n c less (omega arith) in omega (arith, le, same)

  kept_now : AreStill n old (n + 1) new → n + 1 ≡ length new → IsSorted (n + 1) old → AreKept (n + 1) old (n + 1) new
  kept_now still full s j d lt = by_place (eq-or-lt_of_le (omega (arith, lt))) where
    by_place : (j ≡ n) ⊎ (j < n)
        → ((k : ℕ) × (k < n + 1) × (get_or new k d ≡ get_or old j d)) ⊎ ((n + 1 ≡ length new) × AreWithin (rank_of (get_or old j d)) (n + 1) new)
    by_place (inl e) = inr (full, within_now (rank_of (get_or old j d)) (subst (λ (m : ℕ). AreWithin (rank_of (get_or old m d)) (n + 1) old) (sym e) (up_to_last s d)))
    by_place (inr less) = inl (still j d less)

-- The same by how many stand in the room, which are as many as it has places.
module _ (way : Way) (count places : ℕ) (old new : List Way) (last : Way) (some : 0 < places) (all : places ≡ length old) (full : places ≤ count)
    (is_last : (d : Way) → get_or old (places - 1) d ≡ last) (better : rank_of way < rank_of last)
    (from : AreFrom way (places - 1) old (places - 1 + 1) new) where
  whole : places - 1 + 1 ≡ places
  whole = omega (arith, some)

  pub taken_kept : AreStill (places - 1) old (places - 1 + 1) new → length new ≡ length old → count ≤ length old → IsSorted count old → AreKept count old places new
  taken_kept still same fits s =
      let counted : count ≡ places - 1 + 1 = omega (arith, some, all, full, fits) in
      subst (λ (m : ℕ). AreKept m old places new) (sym counted) (subst (λ (m : ℕ). AreKept (places - 1 + 1) old m new) whole
      (kept_now way (places - 1) old new last is_last better from still (omega (arith, some, all, same)) (subst (λ (m : ℕ). IsSorted m old) counted s)))
