-- A recording judged into lent buffers: what the judge gives, and what holds of it.
pub mod Judged
pub mod Reading
pub mod Demand3
pub mod Promise
pub mod Mission
pub mod LongFiles
