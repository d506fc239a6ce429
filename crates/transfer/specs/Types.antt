-- The declared types of the crate and the cases of a phase, in one place for whoever names them.
use Rattle.transfer.specs.declared
pub use declared.{limits.Entry.Entry, limits.Limits.Limits, lines.Lines.Lines, tick.Tick.Tick, phase.Byte.Byte, phase.Phase.Phase}
pub use declared.{decision.Decision.Decision}
pub use declared.limits.Entry.TheVariants.{Plain, Command}
pub use declared.phase.Phase.TheVariants.{Start, FirstHold, Hold, ReadyToSend, ReadyForData, Acknowledgement, Acknowledged, SetUp}
pub use declared.phase.Phase.TheVariants.{Valid, Open, Carried, End, Finished, Decided}
