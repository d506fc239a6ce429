-- What a recording's bytes mean, and when a recording is refused.
pub mod Types
pub mod Layout
pub mod Ticks
pub mod Form
pub mod GoodForm
pub mod FileOf
pub mod SampleSteps
pub mod LongFiles
