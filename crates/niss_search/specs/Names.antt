-- The types that the crate speaks of and their values, so that other files take them by one line.
pub use Rattle.niss_moves.specs.declared.turn.Axis.{Axis}
pub use Rattle.niss_moves.specs.declared.turn.Axis.TheVariants.{Fb}
pub use Rattle.niss_moves.specs.declared.turn.Face.{Face}
pub use Rattle.niss_moves.specs.declared.turn.Face.TheVariants.{U, D, R, L, F, B}
pub use Rattle.niss_moves.specs.declared.turn.Power.{Power}
pub use Rattle.niss_moves.specs.declared.turn.Power.TheVariants.{Quarter}
pub use Rattle.niss_moves.specs.declared.turn.Turn.{Turn}
pub use Rattle.niss_cube.specs.declared.cube.coordinate.Coordinate.{Coordinate}
pub use Rattle.niss_cube.specs.declared.step.Goal.{Goal}
pub use Rattle.niss_cube.specs.declared.step.Goal.TheVariants.{Edges, Domino}
pub use Rattle.niss_cube.specs.declared.step.Step.{Step}
pub use Rattle.niss_search.specs.declared.tables.position.GoalCoordinates.{GoalCoordinates}
pub use Rattle.niss_search.specs.declared.tables.position.GoalCoordinates.TheVariants.{Flip, TwistAndSlice}
pub use Rattle.niss_search.specs.declared.tables.followers.Follower.{Follower}

-- what stands in a list of turns past its end
abbrev pub no_turn : Turn
no_turn = record { face = U; power = Quarter }
