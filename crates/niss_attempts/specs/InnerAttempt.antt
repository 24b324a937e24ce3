-- Another attempt that stands within one that isn't solved.
use Rattle.std.specs.Prelude.{◌≡◌, ℕ, ◌+◌, ◌&&◌, Bool, true, false, Option, List, [], ◌∷◌, drop, slice_range}
use Rattle.std.specs.List.{list_any}
use Rattle.niss_text.specs.Moves.{is_wanted}
use Rattle.niss_text.specs.declared.moves.MovesOf.TheVariants.{Solution, EachStep}
use Rattle.niss_text.specs.declared.text_line.TextLine.{TextLine}
use Rattle.niss_attempts.specs.Another.{IsBegun, IsSolvedBy, is_long}
use Rattle.niss_attempts.specs.Doubts.{AreWritten}
use Rattle.niss_attempts.specs.declared.doubts.Doubt.{Doubt}

-- a step, of the solution or not, that is as long as a short scramble
abbrev pub is_long_line : TextLine → Bool
is_long_line line = is_wanted EachStep line && is_long line

-- the line of a number is one
abbrev pub may_be_scramble : List TextLine → ℕ → Bool
may_be_scramble lines k = list_any is_long_line (slice_range lines k (k + 1))

-- The lines of the solution among some lines solve the moves of a line before them, as a scramble, or they don't.
pub record IsUndone (text : List ℕ) (line : TextLine) (rest : List TextLine) (solves : Bool) : Type 0 where
  pub scramble : List ℕ
  pub places : List ℕ
  pub is_scramble : AreWritten text EachStep (line ∷ []) scramble places
  pub is_solved : IsSolvedBy text rest scramble solves

-- They do so if there are any.
abbrev pub IsUndoneIfAny : (has_solution : Bool) → List ℕ → TextLine → List TextLine → (solves : Bool) → Type 0
IsUndoneIfAny true text line rest solves = IsUndone text line rest solves
IsUndoneIfAny false text line rest solves = solves ≡ false

-- Another attempt begins in the first of some lines, and ends in the others.
abbrev pub IsBegunIn : List ℕ → List TextLine → (solves : Bool) → Type 0
IsBegunIn text [] solves = solves ≡ false
IsBegunIn text (line ∷ rest) solves = IsUndoneIfAny (list_any (is_wanted Solution) rest) text line rest solves

-- What isn't solved is in doubt by the first of its long steps in which another attempt begins, or by none.
abbrev pub IsBegunWithin : (text : List ℕ) (lines : List TextLine) (told : Option Doubt) → Type 0
IsBegunWithin text lines told = IsBegun lines (may_be_scramble lines) (λ k solves. IsBegunIn text (drop k lines) solves) told
