-- The types that the crate speaks of and their values, so that other files take them by one line.
pub use Rattle.niss_embed.specs.declared.call.Answer.{Answer}
pub use Rattle.niss_shell.specs.declared.stop.Stop.{Stop}
pub use Rattle.niss_shell.specs.declared.stop.Stop.TheVariants.{Line, Usage, InputTooLong, CannotRead, CannotWrite}
pub use Rattle.niss_shell.specs.declared.stop.Stop.TheVariants.{OutOfMemory}
pub use Rattle.niss_shell.specs.declared.command.UsageFault.{UsageFault}
