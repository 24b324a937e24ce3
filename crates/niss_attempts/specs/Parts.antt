-- The parts of some steps, and the first of them that solves a scramble.
use Rattle.std.specs.Prelude.{◌≡◌, ℕ, zero, suc, ◌+◌, ◌-◌, ◌^◌, ◌<◌, ◌≤◌, ◌⊎◌, ◌==◌, nat_lt, if◌then◌else◌, Bool, true, false, not, ◌&&◌, ◌||◌, min, Option, None, Some, Result, Ok, Err, List, [], ◌∷◌, ◌++◌, length, map, flat_map, take, slice_index, slice_range}
use Rattle.std.specs.Int.{bit_at}
use Rattle.std.specs.List.{filter, range_with_len}
use Rattle.niss_moves.specs.declared.fault.ReadFault.{ReadFault}
use Rattle.niss_moves.specs.Line.{Moves}
use Rattle.niss_moves.specs.Reader.{IsFed, Reader, read_line}
use Rattle.niss_moves.specs.Solving.{solves, move_count}
use Rattle.niss_shell.specs.Words.{most_bytes}
use Rattle.niss_lines.specs.LineCalls.{status_number}
use Rattle.niss_lines.specs.LineFacts.{is_small_letter}
use Rattle.niss_lines.specs.declared.answer.Status.{Status}
use Rattle.niss_lines.specs.declared.answer.Status.TheVariants.{Done, Stopped}
use Rattle.niss_attempts.specs.declared.steps.parts.How.{How}
use Rattle.niss_attempts.specs.declared.steps.parts.How.TheVariants.{Alone, LeftOut, InBrackets}
use Rattle.niss_attempts.specs.declared.steps.reading.Reading.{Reading}
use Rattle.niss_attempts.specs.declared.steps.reading.Reading.TheVariants.{AsWritten, WithoutBrackets, InCapitals}
use Rattle.niss_attempts.specs.declared.steps.parts.Part.{Part}
use Rattle.niss_attempts.specs.declared.steps.parts.Solving.{Solving}
use Rattle.niss_attempts.specs.declared.steps.parts.Solving.TheVariants as solve
use Rattle.niss_attempts.specs.declared.steps.parts.PartAnswer.{PartAnswer}
use Rattle.niss_attempts.specs.declared.steps.sets.StepSet.{StepSet}

-- how many steps are looked at, of how many of them sets are tried, and how many bytes they have at most
abbrev pub most_steps : ℕ
most_steps = 12

abbrev pub most_in_sets : ℕ
most_in_sets = 8

abbrev pub most_step_bytes : ℕ
most_step_bytes = 65536

-- at how many places they begin and end
abbrev pub most_bounds : ℕ
most_bounds = 13

-- whether a bracket is open after a byte, if one was before it or not
abbrev pub is_open_after : Bool → ℕ → Bool
is_open_after before byte = if byte == 40 then true else (if byte == 41 then false else before)

-- a bracket is open after so many bytes of a text
abbrev pub in_bracket : List ℕ → ℕ → Bool
in_bracket text zero = false
in_bracket text (suc n) = is_open_after (in_bracket text n) (slice_index text n)

-- a step ends before this place: a line feed outside brackets does, or the text
abbrev pub is_end : List ℕ → ℕ → Bool
is_end text place = ((slice_index text (place - 1) == 10) && not (in_bracket text place)) || (place == length text)

-- where the first step begins, and where each ends that is looked at
unfoldable pub bounds_of : List ℕ → List ℕ
bounds_of text = 0 ∷ take most_steps (filter (is_end text) (range_with_len 1 (length text)))

-- what a byte of steps is read as: a line feed is a blank
abbrev pub read_byte : Reading → ℕ → ℕ
read_byte AsWritten byte = if byte == 10 then 32 else byte
read_byte WithoutBrackets byte = if (byte == 10) || ((byte == 40) || (byte == 41)) then 32 else byte
read_byte InCapitals byte = if byte == 10 then 32 else (if is_small_letter byte then byte - 32 else byte)

-- nothing was read yet
abbrev pub IsNew : Reader → Type 0
IsNew reader = (reader.fed ≡ 0) × IsFed reader []

abbrev pub part : How → (first end : ℕ) → Part
part how first end = record { how = how; first = first; end = end }

-- the steps from one to another as a line, by the places where steps begin and end
abbrev pub steps_line : (text bounds : List ℕ) (first end : ℕ) → List ℕ
steps_line text bounds first end = map (read_byte AsWritten) (slice_range text (slice_index bounds first) (slice_index bounds end))

-- bytes in brackets of their own, or not
abbrev pub in_brackets_if : Bool → List ℕ → List ℕ
in_brackets_if true bytes = 40 ∷ bytes ++ 41 ∷ []
in_brackets_if false bytes = bytes

-- the line of all steps, in three parts, if this is done with the second one
abbrev pub arranged : How → (before own after : List ℕ) → List ℕ
arranged Alone before own after = own
arranged LeftOut before own after = before ++ after
arranged InBrackets before own after = before ++ in_brackets_if true own ++ after

-- the number of the steps, and where the last one ends
abbrev pub number_of_steps : List ℕ → ℕ
number_of_steps bounds = length bounds - 1

abbrev pub end_of_steps : List ℕ → ℕ
end_of_steps bounds = slice_index bounds (number_of_steps bounds)

-- the line of a part
abbrev pub part_line : List ℕ → List ℕ → Part → List ℕ
part_line text bounds p =
    arranged p.how (steps_line text bounds 0 p.first) (steps_line text bounds p.first p.end) (steps_line text bounds p.end (number_of_steps bounds))

-- A line that is read has moves and solves a scramble that is read. One that has a fault doesn't.
abbrev pub solves_line : Result Moves ReadFault → Result Moves ReadFault → Bool
solves_line (Ok scramble) (Ok line) = solves scramble line && nat_lt 0 (move_count line)
solves_line (Ok scramble) (Err fault) = false
solves_line (Err fault) line = false

abbrev pub solves_part : Result Moves ReadFault → List ℕ → List ℕ → Part → Bool
solves_part scramble text bounds p = solves_line scramble (read_line (part_line text bounds p))

-- all steps solve if they are read so
abbrev pub solves_all : Reading → Result Moves ReadFault → List ℕ → List ℕ → Bool
solves_all reading scramble text bounds =
    solves_line scramble (read_line (map (read_byte reading) (slice_range text 0 (end_of_steps bounds))))

-- A step is one of these. The lowest bit is that of the first step.
abbrev pub has : StepSet → ℕ → Bool
has set step = bit_at set.number step == 1

-- which of the first steps these are
abbrev pub steps_in : StepSet → List ℕ
steps_in set = filter (has set) (range_with_len 0 most_in_sets)

abbrev pub first_in : StepSet → ℕ
first_in set = slice_index (steps_in set) 0

abbrev pub last_in : StepSet → ℕ
last_in set = slice_index (steps_in set) (length (steps_in set) - 1)

-- a step as a line, which stands in brackets if it is one of these
abbrev pub step_with : (text bounds : List ℕ) → StepSet → ℕ → List ℕ
step_with text bounds set step = in_brackets_if (has set step) (steps_line text bounds step (step + 1))

-- the line of all steps in which each of these stands in brackets of its own
abbrev pub line_with : (text bounds : List ℕ) → StepSet → List ℕ
line_with text bounds set = flat_map (step_with text bounds set) (range_with_len 0 (number_of_steps bounds))

abbrev pub solves_with : Result Moves ReadFault → (text bounds : List ℕ) → StepSet → Bool
solves_with scramble text bounds set = solves_line scramble (read_line (line_with text bounds set))

abbrev pub how_number : How → ℕ
how_number Alone = 1
how_number LeftOut = 2
how_number InBrackets = 3

-- some of so many steps
abbrev pub IsPart : ℕ → Part → Type 0
IsPart steps p = (p.first < p.end) × (p.end ≤ steps)

-- a part that is tried before another: one with an earlier first step, of those the one with fewer steps, of those by what is done with them
abbrev pub IsBefore : Part → Part → Type 0
IsBefore p q =
    (p.first < q.first) ⊎ ((p.first ≡ q.first) × ((p.end < q.end) ⊎ ((p.end ≡ q.end) × (how_number p.how < how_number q.how))))

-- of what may be done with steps this is the first that solves, if one does
abbrev pub IsHow : (How → Bool) → Option How → Type 0
IsHow solving (Some how) = (solving how ≡ true) × ((other : How) → how_number other < how_number how → solving other ≡ false)
IsHow solving None = (how : How) → solving how ≡ false

-- of the parts that begin with a step this is the first that solves, if one does
abbrev pub IsFirstFrom : ℕ → (Part → Bool) → ℕ → Option Part → Type 0
IsFirstFrom steps solving first (Some p) =
    (p.first ≡ first) × IsPart steps p × (solving p ≡ true) × ((q : Part) → IsPart steps q → q.first ≡ first → IsBefore q p → solving q ≡ false)
IsFirstFrom steps solving first None = (q : Part) → IsPart steps q → q.first ≡ first → solving q ≡ false

-- of all parts of so many steps this is the first that solves, if one does
abbrev pub IsFirst : ℕ → (Part → Bool) → Option Part → Type 0
IsFirst steps solving (Some p) = IsPart steps p × (solving p ≡ true) × ((q : Part) → IsPart steps q → IsBefore q p → solving q ≡ false)
IsFirst steps solving None = (q : Part) → IsPart steps q → solving q ≡ false

-- a step without its brackets
abbrev pub bare_step : (text bounds : List ℕ) → ℕ → List ℕ
bare_step text bounds step = map (read_byte WithoutBrackets) (slice_range text (slice_index bounds step) (slice_index bounds (step + 1)))

-- bytes twice, or three times
abbrev pub repeated : (thrice : Bool) → List ℕ → List ℕ
repeated false bytes = bytes ++ bytes
repeated true bytes = bytes ++ bytes ++ bytes

-- the line of all steps, of which one is made so often without its brackets
abbrev pub repeated_line : (text bounds : List ℕ) → ℕ → (thrice : Bool) → List ℕ
repeated_line text bounds step thrice =
    steps_line text bounds 0 step ++ repeated thrice (bare_step text bounds step) ++ steps_line text bounds (step + 1) (number_of_steps bounds)

abbrev pub solves_so_often : Result Moves ReadFault → (text bounds : List ℕ) → ℕ → (thrice : Bool) → Bool
solves_so_often scramble text bounds step thrice = solves_line scramble (read_line (repeated_line text bounds step thrice))

-- all steps solve if one is made twice or three times
abbrev pub solves_repeated : Result Moves ReadFault → (text bounds : List ℕ) → ℕ → Bool
solves_repeated scramble text bounds step = solves_so_often scramble text bounds step false || solves_so_often scramble text bounds step true

-- of so many steps this is the first of which something is true, if there is one
abbrev pub IsFirstOf : ℕ → (ℕ → Bool → Type 0) → Option ℕ → Type 0
IsFirstOf steps Is (Some step) = (step < steps) × Is step true × ((k : ℕ) → k < step → Is k false)
IsFirstOf steps Is None = (k : ℕ) → k < steps → Is k false

abbrev pub IsFirstStep : ℕ → (ℕ → Bool) → Option ℕ → Type 0
IsFirstStep steps solving first = IsFirstOf steps (λ step is. solving step ≡ is) first

-- these are some of so many steps, and of the first ones
abbrev pub AreSome : ℕ → StepSet → Type 0
AreSome steps set = (0 < set.number) × (set.number < 2 ^ min steps most_in_sets)

-- of the sets of so many steps this is the one with the lowest number that solves, if one does
abbrev pub IsLeast : ℕ → (StepSet → Bool) → Option StepSet → Type 0
IsLeast steps solving (Some set) =
    AreSome steps set × (solving set ≡ true) × ((other : StepSet) → AreSome steps other → other.number < set.number → solving other ≡ false)
IsLeast steps solving None = (set : StepSet) → AreSome steps set → solving set ≡ false

-- what is found is among so many steps
abbrev pub IsAmongSteps : ℕ → Solving → Type 0
IsAmongSteps steps (solve.Part p) = IsPart steps p
IsAmongSteps steps solve.WithoutBrackets = Unit {0}
IsAmongSteps steps (solve.EachInBrackets set) = AreSome steps set
IsAmongSteps steps (solve.Repeated step) = step < steps
IsAmongSteps steps solve.InCapitals = Unit {0}
IsAmongSteps steps solve.Nothing = Unit {0}

-- what is known of so many steps if no part solves, nor all without their brackets, nor a set, and then nor one made several times
abbrev pub NoneButRepeated : ℕ → (Part → Bool) → (Reading → Bool) → (StepSet → Bool) → Type 0
NoneButRepeated steps solving whole with_set = IsFirst steps solving None × (whole WithoutBrackets ≡ false) × IsLeast steps with_set None

abbrev pub NoneAsWritten : ℕ → (Part → Bool) → (Reading → Bool) → (StepSet → Bool) → (ℕ → Bool) → Type 0
NoneAsWritten steps solving whole with_set several = NoneButRepeated steps solving whole with_set × IsFirstStep steps several None

-- What is found of so many steps, by which parts solve, whether all do if they are read otherwise, which sets solve if each
-- step of theirs is in brackets, and which steps do if they are made several times: the first part that solves, else all
-- without their brackets, else the least set, else the first step, else all in capitals, else nothing.
abbrev pub IsFirstSolving : ℕ → (Part → Bool) → (Reading → Bool) → (StepSet → Bool) → (ℕ → Bool) → Solving → Type 0
IsFirstSolving steps solving whole with_set several (solve.Part p) = IsFirst steps solving (Some p)
IsFirstSolving steps solving whole with_set several solve.WithoutBrackets = IsFirst steps solving None × (whole WithoutBrackets ≡ true)
IsFirstSolving steps solving whole with_set several (solve.EachInBrackets set) =
    IsFirst steps solving None × (whole WithoutBrackets ≡ false) × IsLeast steps with_set (Some set)
IsFirstSolving steps solving whole with_set several (solve.Repeated step) =
    NoneButRepeated steps solving whole with_set × IsFirstStep steps several (Some step)
IsFirstSolving steps solving whole with_set several solve.InCapitals = NoneAsWritten steps solving whole with_set several × (whole InCapitals ≡ true)
IsFirstSolving steps solving whole with_set several solve.Nothing = NoneAsWritten steps solving whole with_set several × (whole InCapitals ≡ false)

abbrev pub no_part : Status → PartAnswer
no_part status = record { status = status_number status; how = 0; first = 0; last = 0; begin = 0 }

-- the answer to steps that begin and end at these places
abbrev pub answer_of : List ℕ → Solving → PartAnswer
answer_of bounds (solve.Part p) =
    record { status = status_number Done; how = how_number p.how; first = p.first; last = p.end - 1; begin = slice_index bounds p.first }
answer_of bounds solve.WithoutBrackets = record { status = status_number Done; how = 4; first = 0; last = number_of_steps bounds - 1; begin = 0 }
answer_of bounds (solve.EachInBrackets set) =
    record { status = status_number Done; how = 5; first = first_in set; last = last_in set; begin = slice_index bounds (first_in set) }
answer_of bounds (solve.Repeated step) =
    record { status = status_number Done; how = 6; first = step; last = step; begin = slice_index bounds step }
answer_of bounds solve.InCapitals = record { status = status_number Done; how = 7; first = 0; last = number_of_steps bounds - 1; begin = 0 }
answer_of bounds solve.Nothing = no_part Done

-- This is the answer to steps that begin and end at these places, after a scramble as it is read.
abbrev pub IsAnswerTo : Result Moves ReadFault → (steps bounds : List ℕ) → PartAnswer → Type 0
IsAnswerTo scramble steps bounds answer =
    (it : Solving) × IsFirstSolving (number_of_steps bounds) (solves_part scramble steps bounds) (λ reading. solves_all reading scramble steps bounds)
    (solves_with scramble steps bounds) (solves_repeated scramble steps bounds) it
    × (answer ≡ answer_of bounds it)

-- What a call tells of a scramble and steps, which begin and end at these places, and of which one is too long or none is.
abbrev pub Tells : Bool → (scramble steps bounds : List ℕ) → PartAnswer → Type 0
Tells true scramble steps bounds answer = answer ≡ no_part Stopped
Tells false scramble steps bounds answer = IsAnswerTo (read_line scramble) steps bounds answer

-- the steps that are looked at
abbrev pub first_steps : List ℕ → List ℕ
first_steps text = take (end_of_steps (bounds_of text)) text

-- A scramble or the steps up to their last end have too many bytes.
abbrev pub are_too_long : (scramble : List ℕ) → (end : ℕ) → Bool
are_too_long scramble end = nat_lt most_bytes (length scramble) || nat_lt most_step_bytes end

abbrev pub TellsPart : (scramble steps : List ℕ) → PartAnswer → Type 0
TellsPart scramble steps answer = let bounds = bounds_of steps in
    Tells (are_too_long scramble (end_of_steps bounds)) scramble (first_steps steps) bounds answer
