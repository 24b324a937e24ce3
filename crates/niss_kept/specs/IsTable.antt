-- What holds the tables of a step.
use Rattle.std.specs.Prelude.{◌≡◌, true}
use Rattle.niss_cube.specs.declared.step.Step.{Step}
use Rattle.niss_kept.specs.declared.held.Held.{Held}

-- There are tables, and of this step.
abbrev pub IsTable : Held → Step → Type 0
IsTable held step = (held.built ≡ true) × (held.kept.step ≡ step)
