-- The declared types of the crate and the cases of each, in one place for whoever names them.
use Rattle.tray.specs.declared
pub use declared.{seat.SeatState.SeatState, seat.Seat.Seat, seat.Call.Call, counts.Counts.Counts}
pub use declared.seat.SeatState.TheVariants.{Vacant, Unjudged, Passed, Failed}
pub use declared.seat.Call.TheVariants.{Load, Remove, Post}
