-- Why it holds. The crates above cite TickLaws, IdleLaws, Outcomes and Ends.
pub mod TickLaws
pub mod IdleLaws
mod Heeding
pub mod Outcomes
pub mod Ends
