use Rattle.niss_shell.proofs.Names.{◌≡◌, ◌*◌, ◌≤◌, take, length, flat_map, steps, step_line}
use Rattle.niss_shell.proofs.shell.set_steps.Given as goal

abbrev pub invariant-loop-step : goal.invariant-loop-step
invariant-loop-step l = record {
  names : l.text.items ≡ flat_map step_line (take l.step-index steps);
  room : length l.text.items ≤ 10 * l.step-index;
  items : l.step-items ≡ steps;
}
