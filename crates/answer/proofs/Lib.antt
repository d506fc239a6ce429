-- Why it holds. The crates above cite Numbers.
pub mod Numbers
mod NameLaws
mod PassName
mod Told
