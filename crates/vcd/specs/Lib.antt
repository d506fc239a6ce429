-- A recording as a Value Change Dump, and what the entry answers and leaves.
pub mod Text
pub mod Wires
pub mod Dump
pub mod Dumped
pub mod Samples
pub mod Steps
pub mod Put
