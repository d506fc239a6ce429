-- The table of single tick lists holds, by one computation through the definitions.
pub mod Readings
