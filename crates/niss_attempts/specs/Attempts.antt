-- What is told of attempts that were checked.
use Rattle.std.specs.Prelude.{◌≡◌, ℕ, zero, suc, ◌+◌, ◌-◌, ◌<◌, ◌==◌, if◌then◌else◌, nat_lt, Bool, true, false, not, ◌&&◌, ⊤, ◌≤◌, ◌↔◌, IsTrue, Ok, min, Option, None, Some, is_some, Result, List, [], ◌∷◌, find, length, drop, get_or, slice_range}
use Rattle.std.specs.List.{list_any, range_with_len}
use Rattle.std.specs.Option.{option_map, option_or}
use Rattle.niss_text.specs.Moves.{is_wanted}
use Rattle.niss_text.specs.declared.moves.MovesOf.TheVariants.{Scramble, Solution, EachStep}
use Rattle.niss_text.specs.declared.text_line.TextLine.{TextLine}
pub use Rattle.niss_attempts.specs.Doubts.{AreWritten, IsOrElse, OrElse, doubt, no_place, number_if, number_of, place_of}
use Rattle.niss_attempts.specs.Another.{IsBegunAgain}
use Rattle.niss_attempts.specs.Beside.{IsDoubtBeside, is_long_other}
use Rattle.niss_attempts.specs.InnerAttempt.{IsBegunWithin}
use Rattle.niss_lines.specs.LineFacts.{check_of}
use Rattle.niss_attempts.specs.Parts.{IsAnswerTo, TellsPart}
use Rattle.niss_attempts.specs.WholeDoubt.{IsWholeDoubt, TellsWhole}
use Rattle.niss_attempts.specs.declared.attempts.checks.AttemptCheck.{AttemptCheck}
use Rattle.niss_attempts.specs.declared.attempts.judged.Judged.{Judged}
use Rattle.niss_attempts.specs.declared.attempts.Outcome.{Outcome}
use Rattle.niss_attempts.specs.declared.attempts.Outcome.TheVariants.{AtFault, Solved, Unsolved}
use Rattle.niss_attempts.specs.declared.attempts.runs.Placed.{Placed}
use Rattle.niss_attempts.specs.declared.attempts.known_parts.WrittenScramble.{WrittenScramble}
use Rattle.niss_attempts.specs.declared.attempts.known_parts.Solution.{Solution as PartSolution}
use Rattle.niss_text.specs.declared.known.KnownPart.{KnownPart}
use Rattle.niss_moves.specs.Line.{Moves}
use Rattle.niss_moves.specs.Reader.{read_line}
use Rattle.niss_moves.specs.declared.fault.ReadFault.{ReadFault}
use Rattle.niss_shell.specs.Output.{line_text}
use Rattle.niss_shell.specs.Words.{most_bytes}
use Rattle.niss_shell.specs.declared.command.Rewriting.TheVariants.{Print}
use Rattle.niss_lines.specs.LineFacts.{unchecked}
use Rattle.niss_lines.specs.declared.answer.Status.TheVariants.{Done}
use Rattle.niss_attempts.specs.declared.doubts.Doubt.{Doubt}
use Rattle.niss_attempts.specs.declared.doubts.Reason.TheVariants.{OfLine, AnotherScramble, Part, WhichScramble, StepOrScramble, AnotherAttempt}
use Rattle.niss_attempts.specs.declared.attempts.told.Told.{Told}
use Rattle.niss_lines.specs.declared.fact_answers.CheckAnswer.{CheckAnswer}
use Rattle.niss_attempts.specs.declared.steps.parts.PartAnswer.{PartAnswer}
use Rattle.niss_attempts.specs.declared.attempts.runs.Run.{Run}

-- what makes one doubt the first of some lines that is in doubt
abbrev pub first_doubt : List TextLine → Option Doubt
first_doubt lines = option_map (λ line. doubt (OfLine line.doubt) line.doubt_at) (find (λ line. not (line.doubt == 0)) lines)

-- the doubt of the first of them that may be of a scramble
abbrev pub first_stray : List TextLine → Option Doubt
first_stray lines = option_map (λ line. doubt StepOrScramble line.doubt_at) (find (λ line. line.doubt == number_of StepOrScramble) lines)

-- a scramble whose bytes have places in the text is solved by itself
abbrev pub is_solved : (scramble places : List ℕ) → Bool
is_solved scramble places = not (length places == 0) && (check_of scramble []).solved

-- where the fault stands that a check tells of a scramble or a solution, by the places of both
abbrev pub fault_place : CheckAnswer → (scramble_places solution_places : List ℕ) → ℕ
fault_place check scramble_places solution_places =
    if check.column == 0 then no_place
    else get_or (if check.line == 1 then scramble_places else solution_places) (check.column - 1) no_place

-- how a check ended: at a fault, or with a solution that solves, or not
abbrev pub outcome_of : (has_solution : Bool) → CheckAnswer → Outcome
outcome_of has_solution check =
    if not (check.status == 0) then AtFault else (if has_solution && check.solved then Solved else Unsolved)

-- the doubt that a part solves which begins at a byte of the steps, of the place of that
abbrev pub doubt_of_part : PartAnswer → (places : List ℕ) → Option Doubt
doubt_of_part part places = if part.how == 0 then None else Some (doubt Part (get_or places part.begin no_place))

-- A part of steps whose bytes have these places solves, and that is the doubt, or if none does, that a turn was lost, the cube
-- turned, or a step moved.
pub record IsDoubtOfWritten (scramble steps places text : List ℕ) (lines : List TextLine) (told : Option Doubt) : Type 0 where
  pub part : PartAnswer
  pub tells : TellsPart scramble steps part
  pub told_is : IsOrElse (doubt_of_part part places) (λ it. IsWholeDoubt scramble steps text lines it) told

-- The same of a scramble as it is read, and of steps that begin and end at these places.
pub record IsDoubtOfRead (scramble : Result Moves ReadFault) (is_beyond : Bool) (steps bounds places text : List ℕ) (lines : List TextLine) (told : Option Doubt)
    : Type 0 where
  pub part : PartAnswer
  pub answers : IsAnswerTo scramble steps bounds part
  pub told_is : IsOrElse (doubt_of_part part places) (λ it. TellsWhole is_beyond scramble steps bounds text lines it) told

-- The same of the steps among some lines.
pub record IsDoubtOfSteps (text : List ℕ) (lines : List TextLine) (scramble : List ℕ) (told : Option Doubt) : Type 0 where
  pub steps : List ℕ
  pub places : List ℕ
  pub are_steps : AreWritten text EachStep lines steps places
  pub is_doubt : IsDoubtOfWritten scramble steps places text lines told

-- What isn't solved is in doubt by its scramble if that is solved by itself, else by its steps, else by another attempt that
-- stands in these.
abbrev pub IsDoubtOfUnsolved : (is_solved : Bool) → (text : List ℕ) (lines : List TextLine) (scramble places : List ℕ) (told : Option Doubt) → Type 0
IsDoubtOfUnsolved true text lines scramble places told = told ≡ Some (doubt AnotherScramble (get_or places 0 no_place))
IsDoubtOfUnsolved false text lines scramble places told =
    OrElse (λ it. IsDoubtOfSteps text lines scramble it) (λ it. IsBegunWithin text lines it) told

-- What is solved is in doubt if its scramble is by itself, or what stands before another attempt.
abbrev pub IsDoubtOfSolved : (is_solved : Bool) → (text : List ℕ) (lines : List TextLine) (scramble places : List ℕ) (told : Option Doubt) → Type 0
IsDoubtOfSolved true text lines scramble places told = told ≡ Some (doubt AnotherAttempt (get_or places 0 no_place))
IsDoubtOfSolved false text lines scramble places told = IsBegunAgain text lines scramble told

-- The same, or else steps make one doubt it that aren't of its solution.
abbrev pub IsOfRest : (text : List ℕ) (lines : List TextLine) (scramble places : List ℕ) (told : Option Doubt) → Type 0
IsOfRest text lines scramble places told =
    OrElse (λ it. IsDoubtOfSolved (is_solved scramble places) text lines scramble places it)
    (λ it. IsDoubtBeside (list_any is_long_other lines) text lines scramble it) told

-- Of what is solved a line may be of a scramble, or else the same.
abbrev pub IsDoubtThoughSolved : (text : List ℕ) (lines : List TextLine) (scramble places : List ℕ) (told : Option Doubt) → Type 0
IsDoubtThoughSolved text lines scramble places told = IsOrElse (first_stray lines) (λ it. IsOfRest text lines scramble places it) told

-- a doubt, which counts or not
abbrev pub told : Option Doubt → (counts : Bool) → Told
told doubt counts = record { doubt = doubt; counts = counts }

-- What is found of what is solved counts. If nothing is, the doubt is that of its reading.
abbrev pub told_of_solved : (found read : Option Doubt) → Told
told_of_solved found read = told (option_or found read) (is_some found)

-- The doubt is that of the reading, or if there is none, one of what isn't solved; of what is solved one that counts, if
-- there is one. None counts of what is at fault.
abbrev pub IsDoubt : Outcome → (read : Option Doubt) → (text : List ℕ) (lines : List TextLine) (scramble places : List ℕ) (it : Told) → Type 0
IsDoubt AtFault read text lines scramble places it = it ≡ told read false
IsDoubt Solved read text lines scramble places it =
    (found : Option Doubt) × IsDoubtThoughSolved text lines scramble places found × (it ≡ told_of_solved found read)
IsDoubt Unsolved (Some read) text lines scramble places it = it ≡ told (Some read) true
IsDoubt Unsolved None text lines scramble places it =
    (it.counts ≡ is_some it.doubt) × IsDoubtOfUnsolved (is_solved scramble places) text lines scramble places it.doubt

-- What is told of an attempt with these lines and this scramble, of which each byte has its place, and of whose reading
-- this makes one doubt it.
pub record IsChecked (text : List ℕ) (lines : List TextLine) (scramble places : List ℕ) (read : Option Doubt) (it : Judged) : Type 0 where
  pub solution : List ℕ
  pub solution_places : List ℕ
  pub is_solution : AreWritten text Solution lines solution solution_places
  pub check_is : it.check ≡ check_of scramble solution
  pub fault_is : it.fault_at ≡ fault_place it.check places solution_places
  pub checked_is : it.is_checked ≡ list_any (is_wanted Solution) lines
  pub verdict : Told
  pub is_verdict : IsDoubt (outcome_of it.is_checked it.check) read text lines scramble places verdict
  pub doubt_is : it.doubt ≡ number_if verdict.doubt
  pub place_is : it.doubt_at ≡ place_of verdict.doubt
  pub counts : it.is_doubted ≡ verdict.counts

-- The same of an attempt whose scramble stands in its lines.
pub record IsOwn (text : List ℕ) (lines : List TextLine) (it : Judged) : Type 0 where
  pub scramble : List ℕ
  pub places : List ℕ
  pub is_scramble : AreWritten text Scramble lines scramble places
  pub is_checked : IsChecked text lines scramble places (first_doubt lines) it

-- the line before those that belong together, which it does too if it is of the same attempt
abbrev pub with_line : TextLine → List (List TextLine) → List (List TextLine)
with_line line [] = (line ∷ []) ∷ []
with_line line ([] ∷ runs) = (line ∷ []) ∷ runs
with_line line ((other ∷ more) ∷ runs) =
    if line.attempt == other.attempt then (line ∷ other ∷ more) ∷ runs else (line ∷ []) ∷ (other ∷ more) ∷ runs

-- the lines of each attempt, one after another
abbrev pub runs_of : List TextLine → List (List TextLine)
runs_of [] = []
runs_of (line ∷ lines) = with_line line (runs_of lines)

-- those that have a scramble, of which the first line has a number
abbrev pub with_scramble : ℕ → List (List TextLine) → List Run
with_scramble at [] = []
with_scramble at (it ∷ runs) =
    if list_any (is_wanted Scramble) it then record { first = at; end = at + length it } ∷ with_scramble (at + length it) runs
    else with_scramble (at + length it) runs

-- the attempts with a scramble from a line on
abbrev pub attempts_from : ℕ → List TextLine → List Run
attempts_from at lines = with_scramble at (runs_of (drop at lines))

-- This is the check of an attempt among the lines.
abbrev pub IsOfRun : List ℕ → List TextLine → Run → Placed → Type 0
IsOfRun text lines run it = (it.lines ≡ run) × IsOwn text (slice_range lines run.first run.end) it.judged

-- the known scramble of a number, of those that end at these places of their bytes
abbrev pub begin_of : List ℕ → ℕ → ℕ
begin_of ends zero = 0
begin_of ends (suc n) = get_or ends n 0

abbrev pub scramble_of : (scrambles ends : List ℕ) → ℕ → List ℕ
scramble_of scrambles ends n = slice_range scrambles (begin_of ends n) (get_or ends n 0)

-- Both lines are read, and their moves make the same cube, held the same way.
pub record IsSameCube (one other : List ℕ) : Type 0 where
  pub moves : Moves
  pub other_moves : Moves
  pub fits : length one ≤ most_bytes
  pub other_fits : length other ≤ most_bytes
  pub is_read : read_line one ≡ Ok moves
  pub other_is_read : read_line other ≡ Ok other_moves
  pub same : line_text Print moves ≡ line_text Print other_moves

-- The scramble that stands in a part whose scramble is known: whether it makes the same cube, and its first place.
pub record IsWrittenScramble (text : List ℕ) (lines : List TextLine) (scramble : List ℕ) (it : WrittenScramble) : Type 0 where
  pub bytes : List ℕ
  pub places : List ℕ
  pub are_moves : AreWritten text Scramble lines bytes places
  pub same : IsTrue it.is_same ↔ IsSameCube scramble bytes
  pub at_is : it.at ≡ get_or places 0 no_place

-- The lines of the solution of a part, and all up to its end.
abbrev pub lines_of : List TextLine → KnownPart → List TextLine
lines_of lines part = slice_range lines part.first_line part.solution_end

abbrev pub up_to : List TextLine → KnownPart → List TextLine
up_to lines part = slice_range lines 0 part.end_line

-- the attempts of a part that have a scramble of their own
abbrev pub others_of : List TextLine → KnownPart → List Run
others_of lines part = attempts_from (min part.solution_end (length (up_to lines part))) (up_to lines part)

-- The solution solves the known scramble of a number; how many are tried; and it solves one of these.
abbrev pub solves_known : (scrambles ends solution : List ℕ) → ℕ → Bool
solves_known scrambles ends solution n = nat_lt n (length ends) && (check_of (scramble_of scrambles ends n) solution).solved

abbrev pub most_tried : ℕ
most_tried = 64

abbrev pub solves_some : (scrambles ends solution : List ℕ) → Bool
solves_some scrambles ends solution = list_any (solves_known scrambles ends solution) (range_with_len 0 (min most_tried (length ends)))

-- What is asked of a part of a text of solutions: the text, the lines of its solution and which these are, all up to its end, its
-- scramble, all that are known, by their bytes and where each ends, and where it begins.
pub record AskedPart : Type 0 where
  pub text : List ℕ
  pub own : List TextLine
  pub lines : Run
  pub beside : List TextLine
  pub scramble : List ℕ
  pub scrambles : List ℕ
  pub ends : List ℕ
  pub begin : ℕ

abbrev pub asked : PartSolution → AskedPart
asked it = record {
  text = it.text.now;
  own = it.own.now;
  lines = it.lines;
  beside = it.others.now;
  scramble = it.scramble.now;
  scrambles = it.known.scrambles.now;
  ends = it.known.ends.now;
  begin = it.begin;
}

-- Another scramble may be meant: there is a solution, which has no fault and doesn't solve, and no doubt.
abbrev pub is_open : Judged → Bool
is_open it = (it.is_checked && (it.doubt == 0)) && ((it.check.status == 0) && not it.check.solved)

abbrev pub in_doubt : Doubt → Judged → Judged
in_doubt told it = record it { doubt_at = told.at; doubt = number_of told.reason; is_doubted = true }

abbrev pub or_which : (solves : Bool) → ℕ → Judged → Judged
or_which true begin it = in_doubt (doubt WhichScramble begin) it
or_which false begin it = it

-- What was judged is in doubt if the solution solves a known scramble.
pub record IsOfSome (part : AskedPart) (judged it : Judged) : Type 0 where
  pub solution : List ℕ
  pub places : List ℕ
  pub is_solution : AreWritten part.text Solution part.own solution places
  pub it_is : it ≡ or_which (solves_some part.scrambles part.ends solution) part.begin judged

-- The known scrambles are tried if another one may be meant.
abbrev pub IsTriedElsewhere : (is_open : Bool) → AskedPart → (judged it : Judged) → Type 0
IsTriedElsewhere true part judged it = IsOfSome part judged it
IsTriedElsewhere false part judged it = it ≡ judged

-- A scramble is solved, or not, by lines of its own, with this doubt of the reading; or they may solve another one.
pub record IsAlone (part : AskedPart) (read : Option Doubt) (it : Placed) : Type 0 where
  pub judged : Judged
  pub lines_are : it.lines ≡ part.lines
  pub is_checked : IsChecked part.text part.own part.scramble [] read judged
  pub tried : IsTriedElsewhere (is_open judged) part judged it.judged

-- An attempt among other lines is meant, which has the only solution, and the same scramble.
abbrev pub is_meant : (is_only : Bool) → WrittenScramble → (own : List TextLine) → Bool
is_meant is_only written own = is_only && (written.is_same && not (list_any (is_wanted Solution) own))

abbrev pub IsMeant : Bool → AskedPart → Run → WrittenScramble → Placed → Type 0
IsMeant true part run written it = IsOfRun part.text part.beside run it
IsMeant false part run written it = IsAlone part (Some (doubt AnotherScramble written.at)) it

-- What is told of a known scramble by lines of its own, and an attempt among others that has a scramble, the only one or not.
pub record IsBeside (part : AskedPart) (run : Run) (is_only : Bool) (it : Placed) : Type 0 where
  pub written : WrittenScramble
  pub is_written : IsWrittenScramble part.text (slice_range part.beside run.first run.end) part.scramble written
  pub which : IsMeant (is_meant is_only written part.own) part run written it

abbrev pub has_none : List Run → Bool
has_none [] = true
has_none (run ∷ runs) = false

-- The same by all attempts among the others that have a scramble.
abbrev pub IsOfKnown : AskedPart → List Run → Placed → Type 0
IsOfKnown part [] it = IsAlone part (first_doubt part.own) it
IsOfKnown part (run ∷ runs) it = IsBeside part run (has_none runs) it

abbrev pub run_of : KnownPart → Run
run_of part = record { first = part.first_line; end = part.solution_end }

-- Which scramble a part is a solution of can't be told, and nothing is checked.
pub record IsUnseen (part : KnownPart) (it : Placed) : Type 0 where
  pub lines : it.lines ≡ run_of part
  pub nothing : it.judged.check ≡ unchecked Done 0 0 0
  pub no_fault : it.judged.fault_at ≡ no_place
  pub doubted : (it.judged.doubt ≡ number_of WhichScramble) × (it.judged.doubt_at ≡ part.begin)
  pub counts : (it.judged.is_doubted ≡ true) × (it.judged.is_checked ≡ false)

-- the same number if it is below that many
abbrev pub below_or_none : ℕ → ℕ → ℕ
below_or_none count n = if nat_lt n count then n else no_place

-- the solution of a part, of which is asked whether it solves the scramble of its number
abbrev pub asked_of : (text : List ℕ) → List TextLine → (scrambles ends : List ℕ) → KnownPart → AskedPart
asked_of text lines scrambles ends part = record {
  text = text;
  own = lines_of lines part;
  lines = run_of part;
  beside = up_to lines part;
  scramble = scramble_of scrambles ends part.scramble;
  scrambles = scrambles;
  ends = ends;
  begin = part.begin;
}

-- What is told of a part, of a known scramble or of none that can be seen.
pub record IsOfScramble (text : List ℕ) (lines : List TextLine) (scrambles ends : List ℕ) (part : KnownPart) (it : Placed) : Type 0 where
  pub seen : part.scramble < length ends → IsOfKnown (asked_of text lines scrambles ends part) (others_of lines part) it
  pub unseen : length ends ≤ part.scramble → IsUnseen part it

-- This is the check of a part of a text of solutions, of scrambles that are known.
pub record IsOfSolutions (text : List ℕ) (lines : List TextLine) (scrambles ends : List ℕ) (part : KnownPart) (it : AttemptCheck) : Type 0 where
  pub scramble : it.scramble ≡ below_or_none (length ends) part.scramble
  pub name : (it.name_begin ≡ part.name_begin) × (it.name_end ≡ part.name_end)
  pub of_scramble : IsOfScramble text lines scrambles ends part it.placed

-- This is the check of an attempt in a text without known scrambles.
pub record IsOfAttempt (text : List ℕ) (lines : List TextLine) (run : Run) (it : AttemptCheck) : Type 0 where
  pub scramble : it.scramble ≡ no_place
  pub name : (it.name_begin ≡ 0) × (it.name_end ≡ 0)
  pub of_run : IsOfRun text lines run it.placed

-- These are the checks of these, in order.
unfoldable pub Are : {X : Type 0} → (X → AttemptCheck → Type 0) → List X → List AttemptCheck → Type 0
Are P [] [] = ⊤
Are P (x ∷ xs) (it ∷ checks) = P x it × Are P xs checks
Are P [] (it ∷ checks) = ⊥
Are P (x ∷ xs) [] = ⊥

-- What a call tells of the attempts of a text, by its lines, or of its parts if there are any or scrambles are known.
abbrev pub ChecksAttempts : Bool → List ℕ → List TextLine → List KnownPart → (scrambles ends : List ℕ) → List AttemptCheck → Type 0
ChecksAttempts true text lines parts scrambles ends checks = Are (IsOfAttempt text lines) (attempts_from 0 lines) checks
ChecksAttempts false text lines parts scrambles ends checks = Are (IsOfSolutions text lines scrambles ends) parts checks

-- how many attempts these are
abbrev pub number_of_checks : Bool → List TextLine → List KnownPart → ℕ
number_of_checks true lines parts = length (attempts_from 0 lines)
number_of_checks false lines parts = length parts
