-- Which axes are asked for.
use Rattle.std.specs.Prelude.{Bool}
use Rattle.niss_moves.specs.declared.turn.Axis.{Axis}
use Rattle.niss_moves.specs.declared.turn.Axis.TheVariants.{Ud, Rl, Fb}
use Rattle.niss_ways.specs.declared.finding.Axes.{Axes}

abbrev pub is_among : Axes → Axis → Bool
is_among axes Fb = axes.fb
is_among axes Rl = axes.rl
is_among axes Ud = axes.ud
