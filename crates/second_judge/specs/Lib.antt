-- What the contracts of `second_judge` cite.
pub mod Numbers
pub mod Phases
pub mod Promise
pub mod Recording
