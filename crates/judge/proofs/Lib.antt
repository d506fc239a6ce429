-- Why it holds. Mission and Demand3 have the theorems; the rest are the laws by which the functions go.
pub mod Tests
pub mod LedgerLists
pub mod JudgedLaws
pub mod Demand3
pub mod Mission
pub mod LongFiles
pub mod TickLists
pub mod MarkLaws
pub mod HandedLists
pub mod ReadingLaws
pub mod HoldingLaws
pub mod ReadVerdicts
