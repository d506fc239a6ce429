-- Why it holds. The crates above cite Rows, Stages, DecisionTicks, Room, Demand3 and Facts, and the writer's read-back the proofs along
-- a plan.
pub mod Rows
pub mod Stages
pub mod DecisionTicks
pub mod Lost
pub mod Room
pub mod HandoverTicks
pub mod ByteValue
pub mod Forward
pub mod Shapes
pub mod Plans
pub mod Backward
pub mod Shown
pub mod Demand3
pub mod Facts
pub mod Attention
