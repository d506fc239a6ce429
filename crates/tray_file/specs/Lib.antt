-- What the program promises of the texts that it reads and writes.
pub mod State
pub mod Reading
pub mod LongFiles
pub mod SeatNumber
pub mod Steps
