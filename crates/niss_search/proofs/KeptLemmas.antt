-- What a descent keeps, from one meter to another.
use Rattle.niss_search.specs.declared.searching.depth_first.Descent.{Descent}
use Rattle.niss_search.proofs.Words.{arith, ◌≤◌, ℕ, refl, ◌∙◌, Keeps}

module _ {K : Type 0} where
  -- it keeps itself
  pub Keeps-same : (a : Descent K) {m n : ℕ} → m ≤ n → Keeps a a m n
  Keeps-same a le = record { path = refl; same_path = refl; same_sink = refl; counted = omega (arith, le) }

  -- between more looks
  pub Keeps-wider : {a b : Descent K} {m n m' n' : ℕ} → Keeps a b m n → m' ≤ m → n ≤ n' → Keeps a b m' n'
  Keeps-wider kept less more = record {
    path = kept.path;
    same_path = kept.same_path;
    same_sink = kept.same_sink;
    counted = omega (arith, kept.counted, less, more);
  }

  -- by one descent and another after it
  pub Keeps-then : {a b c : Descent K} {m n m' n' : ℕ} → Keeps a b m n → Keeps b c m' n' → n ≤ m' → Keeps a c m n'
  Keeps-then first next le = record {
    path = next.path ∙ first.path;
    same_path = next.same_path ∙ first.same_path;
    same_sink = next.same_sink ∙ first.same_sink;
    counted = omega (arith, first.counted, next.counted, le);
  }
