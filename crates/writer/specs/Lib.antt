-- What the writer puts down, and that the judge reads it back.
pub mod Card
pub mod WrittenSteps
pub mod Written
pub mod ReadBack
pub mod Promise
pub mod Samples
pub mod Put
