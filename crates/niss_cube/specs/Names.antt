-- Words of the places, turns, axes and the types of the crate with their values, so that other files take them by one line.
pub use Rattle.niss_moves.specs.Effects.{turned, inverse_turn}
pub use Rattle.niss_moves.specs.Facelets.{facelet, places}
pub use Rattle.niss_moves.specs.Places.{Place, SameMap, same_place, is_corner, is_edge, IsPlace}
pub use Rattle.niss_moves.specs.declared.turn.Face.{Face}
pub use Rattle.niss_moves.specs.declared.turn.Face.TheVariants.{U, D, R, L, F, B}
pub use Rattle.niss_moves.specs.declared.turn.Power.{Power}
pub use Rattle.niss_moves.specs.declared.turn.Power.TheVariants.{Quarter, Half, Counter}
pub use Rattle.niss_moves.specs.declared.turn.Turn.{Turn}
pub use Rattle.niss_moves.specs.declared.turn.Axis.{Axis}
pub use Rattle.niss_moves.specs.declared.turn.Axis.TheVariants.{Ud, Rl, Fb}
pub use Rattle.niss_moves.specs.declared.token.Token.{Token}
pub use Rattle.niss_cube.specs.declared.cube.Cube.{Cube}
pub use Rattle.niss_cube.specs.declared.cube.coordinate.Coordinate.{Coordinate}
pub use Rattle.niss_cube.specs.declared.cube.coordinate.Coordinate.TheVariants.{Flip, Twist, Slice}
pub use Rattle.niss_cube.specs.declared.cube.coordinate.renaming.Renaming.{Renaming}
pub use Rattle.niss_cube.specs.declared.cube.coordinate.renaming.Renaming.TheVariants.{XCounter, XQuarter, YQuarter, ZCounter}
pub use Rattle.niss_cube.specs.declared.step.Step.{Step}
pub use Rattle.niss_cube.specs.declared.step.Step.TheVariants.{Eofb, Eorl, Eoud, DrudEofb, DrrlEofb, DrudEorl, DrfbEorl, DrrlEoud, DrfbEoud}
pub use Rattle.niss_cube.specs.declared.step.Step.TheVariants.{Eo, DrEofb, DrEorl, DrEoud}
pub use Rattle.niss_cube.specs.declared.step.Goal.{Goal}
pub use Rattle.niss_cube.specs.declared.step.Goal.TheVariants.{Edges, Domino}
