-- What one transfer is: the judge's table, the two parties' rules, and what holds of the two.
pub mod Types
pub mod Lines
pub mod Ticks
pub mod Limits
pub mod Phases
pub mod Moves
pub mod Outcome
pub mod Spans
pub mod Parties
pub mod Rules
pub mod Pair
pub mod Shown
pub mod Demand3
pub mod Lost
pub mod Room
pub mod Facts
