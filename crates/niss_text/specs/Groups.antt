-- The groups of the lines of attempts, and which of them are the solutions.
use Rattle.std.specs.Prelude.{◌≡◌, ℕ, ◌==◌, ◌+◌, ◌<◌, ◌≤◌, ◌⊎◌, ◌&&◌, nat_le, Bool, true, false, if◌then◌else◌, Option, None, Some, List, length, slice_index_or}
use Rattle.std.specs.List.{All}
use Rattle.niss_text.specs.declared.groups.Group.{Group}
use Rattle.niss_text.specs.declared.line.Line.{Line}
use Rattle.niss_text.specs.declared.text_line.TextLine.{TextLine}

-- A line begins a group after another one of its attempt: it is a step or a note, and stands after the scramble as that
-- one does. The other one is blank, or it says itself that the solution follows, or has moves.
pub record BeginsGroup (before line : TextLine) : Type 0 where
  pub after : 3 ≤ line.kind
  pub behind : (before.kind ≡ 0) ⊎ (3 ≤ before.kind)
  pub since : (before.kind ≡ 0) ⊎ ((line.says_solution ≡ 1) ⊎ (line.kind ≡ 3))

-- The group of a line after another: that one's or the next; of another attempt the first, 0.
pub record FollowsInGroup (before line : TextLine) : Type 0 where
  pub same : line.attempt ≡ before.attempt → (line.group ≡ before.group) ⊎ ((line.group ≡ before.group + 1) × BeginsGroup before line)
  pub other : (line.attempt ≡ before.attempt → ⊥) → line.group ≡ 0

-- a step or a note that follows a blank line begins a group, if that line's group has a step
abbrev pub EndsGroup : (step blank line : TextLine) → Type 0
EndsGroup step blank line = step.attempt ≡ line.attempt → blank.attempt ≡ line.attempt → step.kind ≡ 3 → step.group ≡ blank.group →
    blank.kind ≡ 0 → 3 ≤ line.kind → line.group ≡ blank.group + 1

-- in an attempt only steps, notes and blank lines follow a step or a note
abbrev pub StaysBehind : (before line : TextLine) → Type 0
StaysBehind before line = before.attempt ≡ line.attempt → 3 ≤ before.kind → (line.kind ≡ 0) ⊎ (3 ≤ line.kind)

-- what stands before the scramble, and that itself, has the first group
abbrev pub IsInFront : TextLine → Type 0
IsInFront line = (line.kind ≡ 1) ⊎ (line.kind ≡ 2) → line.group ≡ 0

-- a group is the solution
abbrev pub is_that : Option ℕ → ℕ → Bool
is_that None group = false
is_that (Some solution) group = solution == group

-- By the group that is the solution of each attempt, if one is: a line is of it if it is a step or a note of that
-- group.
abbrev pub IsSolved : (ℕ → Option ℕ) → TextLine → Type 0
IsSolved solution line = line.is_solution ≡ (if nat_le 3 line.kind && is_that (solution line.attempt) line.group then 1 else 0)

-- The groups of some lines: each follows that of the line before, and one group of an attempt at most is its solution.
pub record AreGrouped (lines : List TextLine) : Type 0 where
  pub first : (none : TextLine) → 0 < length lines → (slice_index_or lines 0 none).group ≡ 0
  pub next : (k : ℕ) (none : TextLine) → k + 1 < length lines → FollowsInGroup (slice_index_or lines k none) (slice_index_or lines (k + 1) none)
  pub ends : (j k : ℕ) (none : TextLine) → j < k → k + 1 < length lines →
      EndsGroup (slice_index_or lines j none) (slice_index_or lines k none) (slice_index_or lines (k + 1) none)
  pub behind : (j k : ℕ) (none : TextLine) → j < k → k < length lines → StaysBehind (slice_index_or lines j none) (slice_index_or lines k none)
  pub front : All IsInFront lines
  pub solution : ℕ → Option ℕ
  pub solved : All (IsSolved solution) lines

-- the lines are of earlier attempts
abbrev pub AreBelow : ℕ → List TextLine → Type 0
AreBelow number lines = All (λ line. line.attempt < number) lines

-- a group before its first line
pub record IsFresh (group : Group) : Type 0 where
  pub number : group.number ≡ 0
  pub has_moves : group.has_moves ≡ false
  pub is_ended : group.is_ended ≡ false
  pub is_line : group.is_line ≡ false

-- why a line begins a group
abbrev pub IsEndedBy : Group → Line → Type 0
IsEndedBy group line = (group.is_ended ≡ true) ⊎ (((group.has_moves ≡ true) × (line.is_solution ≡ true)) ⊎ ((group.is_line ≡ true) × (line.is_moves ≡ true)))

-- The group after one more line: a blank one leaves it as it is, but ends it if it has moves. Another one goes on with
-- it, or begins the next.
pub record Goes (group after : Group) (line : Line) : Type 0 where
  pub blank : line.is_blank ≡ true → (after.number ≡ group.number) × ((after.has_moves ≡ group.has_moves) × (group.has_moves ≡ true → after.is_ended ≡ true))
  pub filled : line.is_blank ≡ false → (after.is_ended ≡ false) × (line.is_moves ≡ true → after.has_moves ≡ true)
  pub next : line.is_blank ≡ false →
      ((after.number ≡ group.number) × ((group.is_ended ≡ false) × (group.has_moves ≡ true → after.has_moves ≡ true)))
      ⊎ ((after.number ≡ group.number + 1) × IsEndedBy group line)
