-- What a search for solutions does to a sink.
use Rattle.std.specs.Prelude.{◌≡◌, ℕ, Bool, true, false, List, Result, Ok}
use Rattle.niss_search.specs.BothSides.{Pair, HandsOut}

-- If the step may not start on the cube, nothing is handed out, by no look, and that is no failure; else these pairs
-- are, by so many looks, up to some bound.
pub record Searched {K T E : Type 0} (took refused : K → Pair → K → Type 0) (starts : Bool) (pairs : List Pair) (looks meter meter_now : ℕ)
    (sink sink_now : K) (is_cut : E → Bool) (count : T → ℕ) (result : Result T E) : Type 0 where
  pub none : starts ≡ false → sink_now ≡ sink
  pub not_looked : starts ≡ false → meter_now ≡ meter
  pub no_failure : starts ≡ false → (solutions : T) × (result ≡ Ok solutions) × (count solutions ≡ 0)
  pub some : starts ≡ true → (bound : ℕ) × HandsOut took refused pairs looks meter meter_now sink sink_now is_cut bound count result
