-- What crosses the border to programs in C and Rust.
pub mod Border
