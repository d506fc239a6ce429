-- Why it holds. ReadBack and Samples have the theorems; Sent.. show that a pair gives what is put down; the rest are the laws by which
-- the functions go.
pub mod SentPlan
pub mod SentRules
pub mod SentTicks
pub mod SentComplete
pub mod WrittenRecordable
pub mod PieceLaws
pub mod BitLaws
pub mod ByteLaws
pub mod TickLaws
pub mod StringLaws
pub mod ReadBack
pub mod Samples
pub mod WrittenLaws
