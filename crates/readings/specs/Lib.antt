-- How document 01 is read where its rows meet.
pub mod Readings
