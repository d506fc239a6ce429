-- The declared type of the crate and its cases, in one place for whoever names them.
use Rattle.command.specs.declared
pub use declared.class.Class.{Class}
pub use declared.class.Class.TheVariants.{Listen, Unlisten, Talk, Untalk, Secondary, Close, Open, Other}
