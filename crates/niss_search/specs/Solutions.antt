-- Solutions, distances and looks in a space of states: the one definition of each. The cubes of a step are such states,
-- and so are its positions.
use Rattle.std.specs.Prelude.{◌≡◌, ℕ, zero, suc, ◌+◌, ◌-◌, nat_le, nat_lt, min, Bool, true, Option, None, Some}
use Rattle.std.specs.Prelude.{unwrap_or}
use Rattle.std.specs.Prelude.{List, [], ◌∷◌, length, take, filter, find, fold, flat_map, sum_by, count_by, Contains}
use Rattle.std.specs.List.{list_any, range_with_len}
use Rattle.niss_search.specs.Names.{Turn}
use Rattle.niss_moves.specs.Canonical.{all_canonical}

-- the numbers from 0 to n
abbrev pub up_to : ℕ → List ℕ
up_to n = range_with_len 0 (n + 1)

-- how many canonical sequences of length k there are
abbrev pub count_of_length : List Turn → ℕ → ℕ
count_of_length turns k = length (all_canonical turns k)

-- how many there are of length at most d, summed for d from 0 to n
unfoldable pub look_bound : List Turn → ℕ → ℕ
look_bound turns n = sum_by (λ d. sum_by (count_of_length turns) (up_to d)) (up_to n)

-- the greatest length of a deepening: `slack` turns more than the least, but at most n; or n if there is no solution
abbrev pub last_length : Option ℕ → (n slack : ℕ) → ℕ
last_length None n slack = n
last_length (Some least) n slack = min n (least + slack)

-- the lengths of the solutions, from the least on
abbrev pub solution_lengths : Option ℕ → (n slack : ℕ) → List ℕ
solution_lengths None n slack = []
solution_lengths (Some least) n slack = range_with_len least (last_length (Some least) n slack + 1 - least)

-- Of lists by length: the least length of which there is something, of at most n; and what there is of that length and of
-- as many more as the slack allows, the shorter ones first.
module _ {X : Type 0} (each : ℕ → List X) where
  abbrev pub least_of : ℕ → Option ℕ
  least_of n = find (λ k. nat_lt 0 (length (each k))) (up_to n)

  abbrev pub from_least : (n slack : ℕ) → List X
  from_least n slack = flat_map each (solution_lengths (least_of n) n slack)

-- A space of states under some turns: the state after a turn, and whether a state is at the goal.
pub record Space (turns : List Turn) (S : Type 0) : Type 0 where
  pub after : S → Turn → S
  pub reached : S → Bool

module _ {turns : List Turn} {S : Type 0} (space : Space turns S) where
  -- the state after a sequence
  abbrev pub after_all : S → List Turn → S
  after_all start s = fold space.after start s

  -- the canonical sequences of length k that lead from a state to the goal, in turn order
  abbrev pub reaching : S → ℕ → List (List Turn)
  reaching start k = filter (λ s. space.reached (after_all start s)) (all_canonical turns k)

  -- the least length of one, of at most n turns
  unfoldable pub least_length : S → ℕ → Option ℕ
  least_length start n = find (λ k. nat_lt 0 (length (reaching start k))) (up_to n)

  -- the solutions: those of the least length, and of as many lengths more as the slack allows, the shorter ones first
  unfoldable pub solutions : S → (n slack : ℕ) → List (List Turn)
  solutions start n slack = flat_map (reaching start) (solution_lengths (least_length start n) n slack)

  -- Does any sequence of k of the turns, canonical or not, lead to the goal?
  unfoldable pub is_reached_in : ℕ → S → Bool
  is_reached_in zero start = space.reached start
  is_reached_in (suc k) start = list_any (λ t. is_reached_in k (space.after start t)) turns

  -- the least length, at most 20, of any sequence that does; else 21
  unfoldable pub distance : S → ℕ
  distance start = unwrap_or (find (λ k. is_reached_in k start) (up_to 20)) 21

  -- How often a search looks, by what a look at a state returns.
  module _ (look : S → ℕ) where
    -- Is there a look after s in the deepening to length d? s is empty, or the look after its turns but the last
    -- returns at most what is left of d there.
    abbrev pub is_looked_at : S → ℕ → List Turn → Bool
    is_looked_at start d [] = true
    is_looked_at start d (t ∷ ts) =
        let front = take (length ts) (t ∷ ts) in nat_le (look (after_all start front)) (d - length front)

    -- the looks of the deepening to length d: the canonical sequences of length at most d after which there is one
    unfoldable pub looks : S → ℕ → ℕ
    looks start d = sum_by (λ k. count_by (is_looked_at start d) (all_canonical turns k)) (up_to d)

    -- the looks of all deepenings, to the last length
    unfoldable pub all_looks : S → (n slack : ℕ) → ℕ
    all_looks start n slack = sum_by (looks start) (up_to (last_length (least_length start n) n slack))

-- The states of one space stand for states of another: those that are related are at the goal together, and each turn
-- leads them to related ones.
pub record Homomorphism
    {turns : List Turn} {S T : Type 0} (IsOf : S → T → Type 0) (from : Space turns S) (to : Space turns T)
    : Type 0 where
  pub goal : (s : S) (x : T) → IsOf s x → from.reached s ≡ to.reached x
  pub after_turn : (s : S) (x : T) (t : Turn) → Contains turns t → IsOf s x → IsOf (from.after s t) (to.after x t)
