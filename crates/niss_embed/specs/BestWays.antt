-- What the calls on a scramble and the moves so far leave and tell: the search for the best ways on, and the line of the cube at which
-- one stands.
use Rattle.std.specs.Prelude.{◌≡◌, ◌⊎◌, ℕ, ◌/◌, ◌%◌, ◌==◌, ◌<◌, ◌≤◌, if◌then◌else◌, false, Result, Ok, Err, List, [], length, min}
use Rattle.niss_moves.specs.Cleaning.{clean_turns}
use Rattle.niss_moves.specs.Text.{with_words, turn_words}
use Rattle.niss_shell.specs.Words.{most_limit}
use Rattle.niss_ways.specs.Rooms.{Grows}
use Rattle.niss_ways.specs.Starts.{AreTooMany}
use Rattle.niss_ways.specs.Truth.{Origin}
use Rattle.niss_ways.specs.declared.way.Way.{Way}
use Rattle.niss_ways.specs.declared.finding.FoundWays.{FoundWays}
use Rattle.niss_ways.specs.declared.finding.Wish.{Wish}
use Rattle.niss_shell.specs.Names.{Turn}
use Rattle.niss_lines.specs.LineCalls.{status_number, Does, outcome_of_text}
use Rattle.niss_embed.specs.Memory.{Memory}
use Rattle.niss_lines.specs.declared.answer.LineAnswer.{LineAnswer}
use Rattle.niss_lines.specs.declared.answer.Status.{Status}
use Rattle.niss_lines.specs.declared.answer.Status.TheVariants.{Done, Usage, Cut}
use Rattle.niss_embed.specs.declared.two_lines.ways_answer.LineAfterAnswer.{LineAfterAnswer}
use Rattle.niss_embed.specs.TwoLines.{Both, Stands, both_of, nowhere_status, nowhere_line, nowhere_fault, nowhere_column}
use Rattle.niss_embed.specs.declared.two_lines.Nowhere.{Nowhere}
use Rattle.niss_embed.specs.declared.two_lines.Nowhere.TheVariants.{TooMany}
use Rattle.niss_embed.specs.declared.two_lines.ways_answer.WaysAnswer.{WaysAnswer}
use Rattle.niss_embed.specs.declared.two_lines.ways_answer.WaysWanted.{WaysWanted}

-- an answer that tells of no search
abbrev pub unfound : Status → (line fault column : ℕ) → WaysAnswer
unfound status line fault column = record {
  status = status_number status;
  fault = fault;
  line = line;
  next = false;
  column = column;
  rows = 0;
  tried = 0;
  nodes = 0;
}

abbrev pub nowhere_answer : Nowhere → WaysAnswer
nowhere_answer why = unfound (nowhere_status why) (nowhere_line why) (nowhere_fault why) (nowhere_column why)

-- the answer of the call that writes a line, if it writes none
abbrev pub unwritten_line : Nowhere → LineAfterAnswer
unwritten_line why = record {
  status = status_number (nowhere_status why);
  fault = nowhere_fault why;
  line = nowhere_line why;
  column = nowhere_column why;
  length = 0;
}

-- what is told of a line that is there to be written
abbrev pub line_told : LineAnswer → LineAfterAnswer
line_told put = record { status = put.status; fault = put.fault; line = 0; column = put.column; length = put.length }

-- The numbers are in their ranges.
pub record IsInRange (w : WaysWanted) : Type 0 where
  pub slack : w.slack ≤ most_limit
  pub axes : w.axes < 8
  pub from : w.from ≤ most_limit
  pub to : w.to ≤ most_limit

-- This is wished by numbers in their ranges. The axes are 1 F and B, 2 R and L, and 4 U and D, added.
pub record IsWish (w : WaysWanted) (wish : Wish) : Type 0 where
  pub numbers : IsInRange w
  pub slack : wish.slack ≡ w.slack
  pub fb : wish.axes.fb ≡ (w.axes % 2 == 1)
  pub rl : wish.axes.rl ≡ (w.axes / 2 % 2 == 1)
  pub ud : wish.axes.ud ≡ (w.axes / 4 == 1)
  pub from : wish.from ≡ w.from
  pub to : wish.to ≡ w.to
  pub most : wish.most_looks ≡ w.most_nodes

-- The numbers are in their ranges, and as many ways as are said to stand in the room have place there.
pub record IsAsked (w : WaysWanted) (room : List Way) : Type 0 where
  pub numbers : IsInRange w
  pub there : w.there ≤ length room

-- What a search from where one stands leaves in the room, and what it tells.
pub record FindsWays (o : Origin) (w : WaysWanted) (room room_now : List Way) (told : WaysAnswer) : Type 0 where
  pub grows : Grows o (min w.there (length room)) room told.rows room_now
  pub looked : told.nodes ≤ w.most_nodes
  pub ended : (told.status ≡ status_number Done) ⊎ (told.status ≡ status_number Cut)
  pub no_fault : told.fault ≡ 0
  pub no_line : told.line ≡ 0
  pub no_column : told.column ≡ 0

-- The room is as it was, and this was returned.
pub record OnlyTells (due : WaysAnswer) (room room_now : List Way) (told : WaysAnswer) : Type 0 where
  pub same : room_now ≡ room
  pub told_is : told ≡ due

-- The same of what was read of both lines. They may have too many moves together.
abbrev pub FindsAfter : Result Both Nowhere → WaysWanted → (room room_now : List Way) → WaysAnswer → Type 0
FindsAfter (Err why) w room room_now told = OnlyTells (nowhere_answer why) room room_now told
FindsAfter (Ok lines) w room room_now told =
    (AreTooMany lines.scramble lines.so_far × OnlyTells (nowhere_answer TooMany) room room_now told)
    ⊎ ((o : Origin) × Stands lines o × FindsWays o w room room_now told)

-- The same of any numbers and any lines.
pub record FindsBest (w : WaysWanted) (scramble so_far : List ℕ) (room room_now : List Way) (told : WaysAnswer) : Type 0 where
  pub beyond : (IsAsked w room → ⊥) → OnlyTells (unfound Usage 0 0 0) room room_now told
  pub finds : IsAsked w room → FindsAfter (both_of scramble so_far) w room room_now told

-- an answer tells what a search found
pub record Tells (found : FoundWays) (told : WaysAnswer) : Type 0 where
  pub rows : told.rows ≡ found.rows
  pub tried : told.tried ≡ found.tried
  pub nodes : told.nodes ≡ found.looks
  pub next : told.next ≡ found.next
  pub status : told.status ≡ (if found.cut then status_number Cut else status_number Done)
  pub no_fault : told.fault ≡ 0
  pub no_line : told.line ≡ 0
  pub no_column : told.column ≡ 0

-- the words of turns, with single spaces
abbrev pub words_of : List Turn → List ℕ
words_of turns = with_words [] (turn_words turns)

-- A line of at most 256 turns is cleaned and written as a text is; a longer one is refused.
pub record WritesTurns (turns : List Turn) (out : Memory) (told : LineAfterAnswer) : Type 0 where
  pub writes : length turns ≤ 256 → (put : LineAnswer) × (told ≡ line_told put)
      × Does (outcome_of_text (length out.before) (words_of (clean_turns turns))) out.before out.after put
  pub refuses : 256 < length turns → (told ≡ unwritten_line TooMany) × (out.after ≡ out.before)

-- What the call does that writes a line that leads to where one stands.
abbrev pub WritesLineAfter : Result Both Nowhere → Memory → LineAfterAnswer → Type 0
WritesLineAfter (Err why) out told = (told ≡ unwritten_line why) × (out.after ≡ out.before)
WritesLineAfter (Ok lines) out told =
    (AreTooMany lines.scramble lines.so_far × (told ≡ unwritten_line TooMany) × (out.after ≡ out.before))
    ⊎ ((o : Origin) × Stands lines o × WritesTurns o.line out told)

-- What the call does by tables that a caller keeps, which may be right or not.
pub record FindsBestWith (AreRight : Type 0) (w : WaysWanted) (scramble so_far : List ℕ) (room room_now : List Way) (told : WaysAnswer)
    : Type 0 where
  pub wrong : (AreRight → ⊥) → OnlyTells (unfound Usage 0 0 0) room room_now told
  pub right : AreRight → FindsBest w scramble so_far room room_now told
