-- The numbers by which C and pages know what a line is, and how a call ended.
use Rattle.std.specs.Prelude.{ℕ}
use Rattle.niss_text.specs.declared.text_line.LineKind.{LineKind}
use Rattle.niss_text.specs.declared.text_line.LineKind.TheVariants.{Blank, Before, Scramble, Step, Note}
use Rattle.niss_text.specs.declared.status.Status.{Status}
use Rattle.niss_text.specs.declared.status.Status.TheVariants.{Done, Usage, NoRoom}

abbrev pub number_of_kind : LineKind → ℕ
number_of_kind Blank = 0
number_of_kind Before = 1
number_of_kind Scramble = 2
number_of_kind Step = 3
number_of_kind Note = 4

abbrev pub number_of_status : Status → ℕ
number_of_status Done = 0
number_of_status Usage = 2
number_of_status NoRoom = 4
