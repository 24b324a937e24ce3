-- The types that the crate speaks of and their values, so that other files take them by one line.
pub use Rattle.niss_shell.specs.declared.command.UsageFault.{UsageFault}
pub use Rattle.niss_shell.specs.declared.command.UsageFault.TheVariants.{NoCommand, UnknownCommand, WrongCount, BadNumber, UnknownStep}
pub use Rattle.niss_shell.specs.declared.command.Rewriting.{Rewriting}
pub use Rattle.niss_shell.specs.declared.command.Rewriting.TheVariants.{Invert, Unniss, Cleanup, Print}
pub use Rattle.niss_shell.specs.declared.line_command.LineCommand.{LineCommand}
pub use Rattle.niss_shell.specs.declared.line_command.LineCommand.TheVariants.{Rewrite, Search}
pub use Rattle.niss_shell.specs.declared.line_command.Query.{Query}
pub use Rattle.niss_shell.specs.declared.line_command.Query.TheVariants.{Solutions, Counts}
pub use Rattle.niss_shell.specs.declared.command.Command.{Command}
pub use Rattle.niss_shell.specs.declared.device.DeviceFault.{DeviceFault}
pub use Rattle.niss_shell.specs.declared.stop.LineFault.{LineFault}
pub use Rattle.niss_shell.specs.declared.stop.LineFault.TheVariants.{Unread, NoStart}
pub use Rattle.niss_shell.specs.declared.stop.Stop.{Stop}
pub use Rattle.niss_shell.specs.declared.stop.Stop.TheVariants.{Line, Usage, InputTooLong, CannotRead, CannotWrite, OutOfMemory}
pub use Rattle.niss_shell.specs.declared.output.Output.{Output}
pub use Rattle.niss_shell.specs.declared.lines.Lines.{Lines}
pub use Rattle.niss_cube.specs.declared.step.Step.{Step}
pub use Rattle.niss_moves.specs.declared.fault.ReadFault.{ReadFault}
pub use Rattle.niss_moves.specs.declared.token.Token.{Token}
pub use Rattle.niss_moves.specs.declared.turn.Turn.{Turn}
