-- Two sequences of turns at their ends.
use Rattle.std.specs.Prelude.{◌≡◌, ◌≤◌, List, [], ◌∷◌, ◌++◌, length}
use Rattle.niss_moves.specs.declared.turn.Turn.{Turn}

-- Both begin with the same turn.
pub record BeginSame (one other : List Turn) : Type 0 where
  pub turn : Turn
  pub rest : List Turn
  pub other_rest : List Turn
  pub one_is : one ≡ turn ∷ rest
  pub other_is : other ≡ turn ∷ other_rest

-- Both end with the same turn.
pub record EndSame (one other : List Turn) : Type 0 where
  pub turn : Turn
  pub front : List Turn
  pub other_front : List Turn
  pub one_is : one ≡ front ++ turn ∷ []
  pub other_is : other ≡ other_front ++ turn ∷ []

-- Both are the same after two turns of each at most.
pub record AreNearAtBegin (one other : List Turn) : Type 0 where
  pub own : List Turn
  pub others : List Turn
  pub after : List Turn
  pub one_is : one ≡ own ++ after
  pub other_is : other ≡ others ++ after
  pub few : length own ≤ 2
  pub few_others : length others ≤ 2
