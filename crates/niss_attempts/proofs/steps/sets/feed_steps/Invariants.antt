use Rattle.std.proofs.Common.{◌*◌, ◌≤◌}
use Rattle.std.specs.Prelude.{flat_map}
use Rattle.std.specs.List.{range_with_len}
use Rattle.niss_moves.specs.Reader.{IsFed}
use Rattle.niss_attempts.specs.Parts.{step_with}
use Rattle.niss_attempts.proofs.steps.sets.feed_steps.Given as goal

abbrev pub invariant-loop-step : goal.invariant-loop-step
invariant-loop-step l = record {
  fed : l.reader.fed ≤ l.step * 65538;
  bytes : IsFed l.reader (flat_map (step_with l.whole.steps.now l.whole.bounds.now l.set) (range_with_len 0 l.step));
}
