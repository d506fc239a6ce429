-- Why it holds. Pieces has the theorem, Samples two dumps worked out by hand; the rest are the laws by which the functions go.
pub mod PutLaws
pub mod WindowLaws
pub mod DecimalLaws
pub mod TickLaws
pub mod StepLaws
pub mod LengthLaws
pub mod DumpedLaws
pub mod Pieces
pub mod Samples
