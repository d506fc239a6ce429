-- What the code that reads a transfer promises: one tick of its state, the ticks one after another, and idle ticks.
pub mod States
pub mod After
pub mod Idle
