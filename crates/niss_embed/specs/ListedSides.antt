-- What the call leaves and tells that lists the solutions of a step over sides.
use Rattle.std.specs.Prelude.{◌≡◌, ◌⊎◌, ℕ, ◌<◌, ◌≤◌, Bool, true, false, if◌then◌else◌, Result, Ok, Err, List}
use Rattle.niss_cube.specs.Map.{map_of}
use Rattle.niss_cube.specs.Steps.{may_start}
use Rattle.niss_cube.specs.declared.step.Step.{Step}
use Rattle.niss_search.specs.declared.searching.both.Sides.{Sides}
use Rattle.niss_search.specs.declared.searching.both.Sides.TheVariants.{Normal, Inverse, Both}
use Rattle.niss_shell.specs.Words.{most_limit}
use Rattle.niss_ways.specs.Listing.{Lists}
use Rattle.niss_ways.specs.Starts.{AreTooMany}
use Rattle.niss_ways.specs.Truth.{Origin}
use Rattle.niss_ways.specs.declared.listing.FoundSolutions.{FoundSolutions}
use Rattle.niss_ways.specs.declared.listing.Listed.{Listed}
use Rattle.niss_ways.specs.declared.way.Part.{Part}
use Rattle.niss_lines.specs.LineCalls.{status_number}
use Rattle.niss_embed.specs.TwoLines as two
use Rattle.niss_embed.specs.TwoLines.{Stands, both_of, nowhere_status, nowhere_line, nowhere_fault, nowhere_column}
use Rattle.niss_lines.specs.declared.answer.Status.{Status}
use Rattle.niss_lines.specs.declared.answer.Status.TheVariants.{Done, Usage, Cut}
use Rattle.niss_embed.specs.declared.two_lines.sides_answer.SidesAnswer.{SidesAnswer}
use Rattle.niss_embed.specs.declared.two_lines.sides_answer.SidesWanted.{SidesWanted}
use Rattle.niss_embed.specs.declared.two_lines.Nowhere.{Nowhere}
use Rattle.niss_embed.specs.declared.two_lines.Nowhere.TheVariants.{TooMany, NoStart}

-- an answer that tells of no list
abbrev pub unlisted : Status → (line fault column : ℕ) → SidesAnswer
unlisted status line fault column = record {
  status = status_number status;
  fault = fault;
  line = line;
  more = false;
  column = column;
  rows = 0;
  solutions = 0;
  nodes = 0;
}

abbrev pub nowhere_sides : Nowhere → SidesAnswer
nowhere_sides why = unlisted (nowhere_status why) (nowhere_line why) (nowhere_fault why) (nowhere_column why)

-- the sides by their number
abbrev pub number_of_sides : Sides → ℕ
number_of_sides Normal = 1
number_of_sides Inverse = 2
number_of_sides Both = 3

-- What is listed by these numbers.
pub record IsListing (w : SidesWanted) (listed : Listed) : Type 0 where
  pub sides : w.sides ≡ number_of_sides listed.sides
  pub length : w.length ≡ listed.length
  pub within : w.length ≤ most_limit
  pub counts : w.counts ≡ (if listed.counts then 1 else 0)
  pub passed : listed.passed ≡ w.passed
  pub most : listed.most_looks ≡ w.most_nodes

-- A number is out of its range.
abbrev pub NotListing : SidesWanted → Type 0
NotListing w = (w.sides < 1) ⊎ ((3 < w.sides) ⊎ ((most_limit < w.length) ⊎ (1 < w.counts)))

-- an answer tells what a list found
pub record TellsSides (found : FoundSolutions) (told : SidesAnswer) : Type 0 where
  pub rows : told.rows ≡ found.rows
  pub solutions : told.solutions ≡ found.solutions
  pub nodes : told.nodes ≡ found.looks
  pub more : told.more ≡ found.more
  pub status : told.status ≡ (if found.cut then status_number Cut else status_number Done)
  pub no_fault : told.fault ≡ 0
  pub no_line : told.line ≡ 0
  pub no_column : told.column ≡ 0

-- The room is as it was, and this was returned.
pub record OnlySaid (due : SidesAnswer) (room room_now : List Part) (told : SidesAnswer) : Type 0 where
  pub same : room_now ≡ room
  pub told_is : told ≡ due

-- What a list from where one stands leaves in the room, and what it tells, if the step may start there.
pub record ListsFrom (o : Origin) (step : Step) (w : SidesWanted) (room room_now : List Part) (told : SidesAnswer) : Type 0 where
  pub listed : Listed
  pub asked : IsListing w listed
  pub found : FoundSolutions
  pub tells : TellsSides found told
  pub lists : Lists o step listed room room_now found
  pub looked : told.nodes ≤ w.most_nodes

abbrev pub ListsOrNot : Bool → Origin → Step → SidesWanted → (room room_now : List Part) → SidesAnswer → Type 0
ListsOrNot true o step w room room_now told = ListsFrom o step w room room_now told
ListsOrNot false o step w room room_now told = OnlySaid (nowhere_sides NoStart) room room_now told

-- The same of what was read of both lines. They may have too many moves together.
abbrev pub ListsAfter : Result two.Both Nowhere → Step → SidesWanted → (room room_now : List Part) → SidesAnswer → Type 0
ListsAfter (Err why) step w room room_now told = OnlySaid (nowhere_sides why) room room_now told
ListsAfter (Ok lines) step w room room_now told =
    (AreTooMany lines.scramble lines.so_far × OnlySaid (nowhere_sides TooMany) room room_now told)
    ⊎ ((o : Origin) × Stands lines o × ListsOrNot (may_start step (map_of o.cube)) o step w room room_now told)

-- The same of any numbers and any lines.
pub record ListsSides (step : Step) (w : SidesWanted) (scramble so_far : List ℕ) (room room_now : List Part) (told : SidesAnswer)
    : Type 0 where
  pub beyond : NotListing w → OnlySaid (unlisted Usage 0 0 0) room room_now told
  pub lists : (NotListing w → ⊥) → ListsAfter (both_of scramble so_far) step w room room_now told

-- The same by the tables of a step that a caller keeps, or by none.
abbrev pub ListsSidesWith : Bool → Step → SidesWanted → (scramble so_far : List ℕ) → (room room_now : List Part) → SidesAnswer → Type 0
ListsSidesWith false step w scramble so_far room room_now told = OnlySaid (unlisted Usage 0 0 0) room room_now told
ListsSidesWith true step w scramble so_far room room_now told = ListsSides step w scramble so_far room room_now told
