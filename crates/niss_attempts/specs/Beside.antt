-- Steps beside the solution of an attempt that is solved: of another attempt, or the solution with a slip.
use Rattle.std.specs.Prelude.{◌≡◌, ℕ, ◌-◌, ◌≤◌, ◌==◌, ◌&&◌, ◌↔◌, IsTrue, nat_le, nat_lt, if◌then◌else◌, Bool, true, false, not, Option, None, Some, Result, Ok, Err, List, [], ◌∷◌, ◌++◌, length, map}
use Rattle.std.specs.List.{All, filter}
use Rattle.std.specs.Option.{option_or}
use Rattle.niss_moves.specs.Cleaning.{clean_turns}
use Rattle.niss_moves.specs.Line.{Moves, joined_moves}
use Rattle.niss_moves.specs.Reader.{read_line}
use Rattle.niss_moves.specs.Rotations.{faces}
use Rattle.niss_moves.specs.Solving.{solves}
use Rattle.niss_moves.specs.declared.fault.ReadFault.{ReadFault}
use Rattle.niss_moves.specs.declared.turn.Turn.{Turn}
use Rattle.niss_text.specs.Moves.{is_wanted}
use Rattle.niss_text.specs.declared.moves.MovesOf.TheVariants.{Solution, EachStep}
use Rattle.niss_text.specs.declared.text_line.TextLine.{TextLine}
use Rattle.niss_shell.specs.Words.{most_bytes}
use Rattle.niss_attempts.specs.Doubts.{AreWritten, doubt}
use Rattle.niss_lines.specs.LineFacts.{IsReadAs}
use Rattle.niss_attempts.specs.declared.doubts.Doubt.{Doubt}
use Rattle.niss_attempts.specs.declared.doubts.Reason.TheVariants.{AnotherAttempt, SeveralSolutions}
use Rattle.niss_attempts.specs.declared.doubts.beside.Beside.{Beside}
use Rattle.niss_attempts.specs.declared.doubts.beside.Seen.{Seen}

-- a step that isn't of the solution, and is as long as a scramble: its moves have forty bytes at least
abbrev pub is_long_other : TextLine → Bool
is_long_other line = (is_wanted EachStep line && (line.is_solution == 0)) && nat_le 40 (line.comment - line.moves)

-- nothing is said after its moves
abbrev pub is_bare : TextLine → Bool
is_bare line = line.comment == line.end

-- Two sequences are the same but in one place, where each has two turns at most.
pub record AreNear (one other : List Turn) : Type 0 where
  pub before : List Turn
  pub own : List Turn
  pub others : List Turn
  pub after : List Turn
  pub one_is : one ≡ before ++ (own ++ after)
  pub other_is : other ≡ before ++ (others ++ after)
  pub few : length own ≤ 2
  pub few_others : length others ≤ 2

-- the face turns of a line's one sequence, cleaned
abbrev pub turns_of : Moves → List Turn
turns_of line = clean_turns (faces (joined_moves line))

-- A line that can be read solves what these moves scramble.
abbrev pub solves_read : Moves → Result Moves ReadFault → Bool
solves_read scramble (Ok line) = solves scramble line
solves_read scramble (Err fault) = false

abbrev pub undoes : Moves → List ℕ → Bool
undoes scramble line = if nat_lt most_bytes (length line) then false else solves_read scramble (read_line line)

-- A line doesn't solve it, but its turns are those of the solution but in one place.
pub record IsSlip (scramble : Moves) (solution : List Turn) (line : List ℕ) : Type 0 where
  pub moves : Moves
  pub is_read : IsReadAs line moves
  pub unsolving : solves scramble moves ≡ false
  pub are_near : AreNear solution (turns_of moves)

-- What is seen of a step that is long and not of the solution: it stands apart if nothing is said after it and it doesn't
-- solve.
pub record IsLongSeen (text : List ℕ) (line : TextLine) (scramble : Moves) (solution : List Turn) (seen : Seen) : Type 0 where
  pub moves : List ℕ
  pub places : List ℕ
  pub are_moves : AreWritten text EachStep (line ∷ []) moves places
  pub apart : seen.is_apart ≡ (is_bare line && not (undoes scramble moves))
  pub slip : IsTrue seen.is_slip ↔ IsSlip scramble solution moves

-- Of any other step it is nothing.
abbrev pub IsSeen : (is_long : Bool) → List ℕ → TextLine → Moves → List Turn → Seen → Type 0
IsSeen true text line scramble solution seen = IsLongSeen text line scramble solution seen
IsSeen false text line scramble solution seen = (seen.is_apart ≡ false) × (seen.is_slip ≡ false)

-- a step, and what is seen of it
pub record Step : Type 0 where
  pub line : TextLine
  pub seen : Seen

-- the first of some steps stands apart
abbrev pub begins_apart : List Step → Bool
begins_apart [] = false
begins_apart (step ∷ steps) = step.seen.is_apart

-- the doubt that another attempt begins, in the first of two steps one after another that stand apart
abbrev pub first_apart : List Step → Option Doubt
first_apart [] = None
first_apart (step ∷ steps) =
    if step.seen.is_apart && begins_apart steps then Some (doubt AnotherAttempt step.line.moves) else first_apart steps

-- the doubt that there are several solutions, in the first step that is the solution with a slip
abbrev pub first_slip : List Step → Option Doubt
first_slip [] = None
first_slip (step ∷ steps) = if step.seen.is_slip then Some (doubt SeveralSolutions step.line.moves) else first_slip steps

-- What is found in the steps among some lines.
pub record IsFoundBeside (text : List ℕ) (lines : List TextLine) (scramble : Moves) (solution : List Turn) (it : Beside) : Type 0 where
  pub steps : List Step
  pub are_lines : map (λ step. step.line) steps ≡ filter (is_wanted EachStep) lines
  pub are_seen : All (λ step. IsSeen (is_long_other step.line) text step.line scramble solution step.seen) steps
  pub begins : it.begins_apart ≡ begins_apart steps
  pub another : it.another ≡ first_apart steps
  pub slip : it.slip ≡ first_slip steps

-- The doubt is that of another attempt, or else that of a slip.
pub record IsOfSteps (text : List ℕ) (lines : List TextLine) (scramble : Moves) (solution : List Turn) (told : Option Doubt) : Type 0 where
  pub it : Beside
  pub is_found : IsFoundBeside text lines scramble solution it
  pub told_is : told ≡ option_or it.another it.slip

-- It is told by scramble and solution as they are read, which those of an attempt are that is solved. Of what can't be read
-- there is none.
pub record IsOfLong (text : List ℕ) (lines : List TextLine) (scramble : List ℕ) (told : Option Doubt) : Type 0 where
  pub solution : List ℕ
  pub places : List ℕ
  pub is_solution : AreWritten text Solution lines solution places
  pub of_steps : (given moves : Moves) → IsReadAs scramble given → IsReadAs solution moves →
      IsOfSteps text lines given (turns_of moves) told
  pub of_unread : ((given moves : Moves) → IsReadAs scramble given → IsReadAs solution moves → ⊥) → told ≡ None

-- What is solved is in doubt by its steps if one of them is long and not of the solution.
abbrev pub IsDoubtBeside : (has_long : Bool) → (text : List ℕ) (lines : List TextLine) (scramble : List ℕ) (told : Option Doubt) → Type 0
IsDoubtBeside true text lines scramble told = IsOfLong text lines scramble told
IsDoubtBeside false text lines scramble told = told ≡ None
