-- Document 01's sample recordings, as whole files.
pub mod Samples
