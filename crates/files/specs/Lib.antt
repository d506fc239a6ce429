-- What the programs' text keeps to.
pub mod Printable
