-- The tray: document 02, #102.
pub mod Types
pub mod Seats
pub mod Passing
pub mod Tray
pub mod Counts
pub mod Sealing
pub mod History
pub mod Facts
pub mod Joined
pub mod Samples
