-- Lines in which another attempt may begin, and the first of them in which one does.
use Rattle.std.specs.Prelude.{◌≡◌, ℕ, ◌+◌, ◌-◌, ◌<◌, ◌&&◌, nat_le, Bool, true, false, Option, None, Some, List, [], ◌∷◌, length, take, drop, slice_range}
use Rattle.std.specs.List.{filter, list_any, range_with_len}
use Rattle.niss_text.specs.Moves.{is_wanted}
use Rattle.niss_text.specs.declared.moves.MovesOf.TheVariants.{Solution}
use Rattle.niss_text.specs.declared.text_line.TextLine.{TextLine}
use Rattle.niss_attempts.specs.Doubts.{AreWritten, doubt}
use Rattle.niss_lines.specs.LineFacts.{check_of}
use Rattle.niss_attempts.specs.declared.doubts.Doubt.{Doubt}
use Rattle.niss_attempts.specs.declared.doubts.Reason.TheVariants.{AnotherAttempt}

-- The moves of a line have twenty bytes at least, as those of a short scramble.
abbrev pub is_long : TextLine → Bool
is_long line = nat_le 20 (line.comment - line.moves)

-- such a step of the solution, whatever is said after it
abbrev pub is_long_step : TextLine → Bool
is_long_step line = is_wanted Solution line && is_long line

-- Another attempt may begin in the line of a number: it is such a step, and one of the solution stands before it.
abbrev pub may_begin : List TextLine → ℕ → Bool
may_begin lines k = list_any is_long_step (slice_range lines k (k + 1)) && list_any (is_wanted Solution) (take k lines)

-- how many numbers before one are so
abbrev pub count_before : (ℕ → Bool) → ℕ → ℕ
count_before is_so k = length (filter is_so (range_with_len 0 k))

-- how many lines are tried
abbrev pub most_lines_tried : ℕ
most_lines_tried = 12

-- A number is tried: it is one of the first so many that are so.
abbrev pub IsTried : (ℕ → Bool) → ℕ → Type 0
IsTried is_so k = (is_so k ≡ true) × (count_before is_so k < most_lines_tried)

-- Of the numbers below a bound that are tried this is the first that holds, if one does.
abbrev pub IsFirstTried : (bound : ℕ) → (is_so : ℕ → Bool) → (Holds : ℕ → Bool → Type 0) → Option ℕ → Type 0
IsFirstTried bound is_so Holds (Some k) =
    (k < bound) × IsTried is_so k × Holds k true × ((j : ℕ) → j < k → IsTried is_so j → Holds j false)
IsFirstTried bound is_so Holds None = (j : ℕ) → j < bound → IsTried is_so j → Holds j false

-- The lines of the solution among some lines solve a scramble, or they don't.
pub record IsSolvedBy (text : List ℕ) (lines : List TextLine) (scramble : List ℕ) (solves : Bool) : Type 0 where
  pub solution : List ℕ
  pub places : List ℕ
  pub is_solution : AreWritten text Solution lines solution places
  pub solves_is : solves ≡ (check_of scramble solution).solved

-- the doubt that another attempt begins in the first of some lines
abbrev pub begun_in : List TextLine → Option Doubt
begun_in [] = None
begun_in (line ∷ lines) = Some (doubt AnotherAttempt line.moves)

-- the same in the line of a number, if there is one
abbrev pub begun_at : List TextLine → Option ℕ → Option Doubt
begun_at lines None = None
begun_at lines (Some k) = begun_in (drop k lines)

-- The doubt is that another attempt begins in the first of the lines that are tried of which this holds, or there is none.
pub record IsBegun (lines : List TextLine) (may_begin : ℕ → Bool) (Holds : ℕ → Bool → Type 0) (told : Option Doubt) : Type 0 where
  pub first : Option ℕ
  pub is_first : IsFirstTried (length lines) may_begin Holds first
  pub told_is : told ≡ begun_at lines first

-- What is solved is in doubt by the first line in which another attempt may begin, and before which all solves; or by none.
abbrev pub IsBegunAgain : (text : List ℕ) (lines : List TextLine) (scramble : List ℕ) (told : Option Doubt) → Type 0
IsBegunAgain text lines scramble told = IsBegun lines (may_begin lines) (λ k solves. IsSolvedBy text (take k lines) scramble solves) told
