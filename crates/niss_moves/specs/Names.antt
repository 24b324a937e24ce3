-- The types of the crate and their values, so that other files take them by one line.
pub use Rattle.niss_moves.specs.declared.turn.Face.{Face}
pub use Rattle.niss_moves.specs.declared.turn.Face.TheVariants.{U, D, R, L, F, B}
pub use Rattle.niss_moves.specs.declared.turn.Power.{Power}
pub use Rattle.niss_moves.specs.declared.turn.Power.TheVariants.{Quarter, Half, Counter}
pub use Rattle.niss_moves.specs.declared.turn.Turn.{Turn}
pub use Rattle.niss_moves.specs.declared.turn.Axis.{Axis}
pub use Rattle.niss_moves.specs.declared.turn.Axis.TheVariants.{Ud, Rl, Fb}
pub use Rattle.niss_moves.specs.declared.token.Slice.{Slice}
pub use Rattle.niss_moves.specs.declared.token.Slice.TheVariants.{M, E, S}
pub use Rattle.niss_moves.specs.declared.token.Token.{Token}
pub use Rattle.niss_moves.specs.declared.rotation.Rotation.{Rotation}
pub use Rattle.niss_moves.specs.declared.token.Base.{Base}
pub use Rattle.niss_moves.specs.declared.symbol.Symbol.{Symbol}
pub use Rattle.niss_moves.specs.declared.partial_line.LastMove.{LastMove}
pub use Rattle.niss_moves.specs.declared.fault.ReadFault.{ReadFault}
pub use Rattle.niss_moves.specs.declared.fault.ReadFault.TheVariants.{NotAMove, Nested, Unopened, Unclosed, TooLong}
