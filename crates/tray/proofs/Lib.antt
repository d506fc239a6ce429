-- Why it holds. History, NeverPasses, SealingLaws, PassingLaws, CalledLaws and Joined have the theorems; the rest are the laws by which the
-- functions go.
pub mod Tests
pub mod PassingLaws
pub mod ChangedLaws
pub mod CalledLaws
pub mod CountLaws
pub mod SealingLaws
pub mod NeverPasses
pub mod History
pub mod Joined
pub mod Samples
