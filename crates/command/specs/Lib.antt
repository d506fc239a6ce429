-- The classes of command bytes.
pub mod Types
pub mod Classes
pub mod Words
pub mod Table
pub mod Facts
