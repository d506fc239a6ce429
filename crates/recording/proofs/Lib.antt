-- The laws that the proofs of this crate and of the crates above cite.
pub mod Tests
pub mod SetsLaws
pub mod StepLaws
pub mod FormLaws
pub mod PassedLaws
pub mod GoodFormLaws
pub mod FileOfLaws
pub mod LongFiles
