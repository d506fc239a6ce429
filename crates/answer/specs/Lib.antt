-- What every entry answers and leaves in lent memory.
pub mod Basics
pub mod Types
pub mod Text
pub mod Numbers
pub mod Answers
pub mod Names
