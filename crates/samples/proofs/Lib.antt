-- The tables of whole files hold, each by one computation through the definitions.
pub mod Samples
