-- The declared types of the crate and the cases of each, in one place for whoever names them.
use Rattle.recording.specs.declared
pub use declared.{header.Header.Header, step.Step.Step}
