-- Paths, and how a sink goes through a list of what it is handed.
use Rattle.std.specs.Prelude.{◌≡◌, ◌⊎◌, ℕ, Bool, true, false, List, [], ◌∷◌, ◌++◌}
use Rattle.niss_search.specs.Names.{Turn}

-- What a contract sees of a path.
pub record Path : Type 0 where
  pub limit : ℕ
  pub turns : List Turn

module _ {K : Type 0} where
  -- What a path with the limit and the turns does to the sink, by what a path does.
  abbrev pub at_limit : (K → Path → K → Type 0) → ℕ → K → List Turn → K → Type 0
  at_limit does limit old turns new = does old (record { limit = limit; turns = turns }) new

-- By what one of them does to the sink that it took, or that it refused.
module _ {K X : Type 0} where
  -- It took them one after another: there is none, and it is as it was; or it took the first, and then the rest.
  abbrev pub WentThrough : (took : K → X → K → Type 0) → K → List X → K → Type 0
  WentThrough took old [] new = old ≡ new
  WentThrough took old (x ∷ xs) new = (mid : K) × (took old x mid × WentThrough took mid xs new)

  -- It took some of the first ones, not all of them, and refused the next one.
  abbrev pub StoppedIn : (took refused : K → X → K → Type 0) → K → List X → K → Type 0
  StoppedIn took refused old [] new = ⊥
  StoppedIn took refused old (x ∷ xs) new =
      refused old x new ⊎ ((mid : K) × (took old x mid × StoppedIn took refused mid xs new))

  -- The same, and the number of the one that was refused is known.
  pub record StoppedAt (took refused : K → X → K → Type 0) (number : X → ℕ) (old : K) (all : List X) (new : K) (made : ℕ) : Type 0 where
    pub front : List X
    pub path : X
    pub rest : List X
    pub between : K
    pub listed : all ≡ front ++ path ∷ rest
    pub went : WentThrough took old front between
    pub stopped : refused between path new
    pub at : made ≡ number path

  -- It took some of the first ones, maybe none and maybe all, and none after them.
  abbrev pub WentInto : (took : K → X → K → Type 0) → K → List X → K → Type 0
  WentInto took old [] new = old ≡ new
  WentInto took old (x ∷ xs) new = (old ≡ new) ⊎ ((mid : K) × (took old x mid × WentInto took mid xs new))

  -- How it ended before it was done: it was cut off, or one was refused.
  abbrev pub EndedIn : (took refused : K → X → K → Type 0) → Bool → K → List X → K → Type 0
  EndedIn took refused true = WentInto took
  EndedIn took refused false = StoppedIn took refused
