-- The order of steps by their names.
use Rattle.std.specs.Prelude.{ℕ, ◌&&◌, ◌||◌, Bool, false, not}
use Rattle.niss_text.specs.declared.step_order.Called.{Called}
use Rattle.niss_text.specs.declared.step_order.StepName.{StepName}
use Rattle.niss_text.specs.declared.step_order.StepName.TheVariants.{Orientation, Reduction, HalfTurns, Finish}

abbrev pub rank_of : StepName → ℕ
rank_of Orientation = 0
rank_of Reduction = 1
rank_of HalfTurns = 2
rank_of Finish = 3

-- a step of this name comes too late: a later one has its name above, and none has this one
abbrev pub is_late : Called → StepName → Bool
is_late called Orientation = (called.has_reduction || (called.has_half_turns || called.has_finish)) && not called.has_orientation
is_late called Reduction = (called.has_half_turns || called.has_finish) && not called.has_reduction
is_late called HalfTurns = called.has_finish && not called.has_half_turns
is_late called Finish = false
