-- The declared types of the crate and the cases of each, in one place for whoever names them.
use Rattle.answer.specs.declared
pub use declared.{Answer.Answer, refusal.Refusal.Refusal, refusal.Refused.Refused, verdict.Fault.Fault, verdict.Verdict.Verdict}
pub use declared.refusal.Refusal.TheVariants.{ShortFile, WrongVersion, TooManySteps, WrongOffset, WrongLength, ZeroDuration, StrayBits}
pub use declared.refusal.Refusal.TheVariants.{WrongTotal, ShortBuffers, TooManyBytes, ShortDestination, NoSuchSeat, VacantSeat}
pub use declared.refusal.Refusal.TheVariants.{SeatInUse, NotFortySeats}
pub use declared.verdict.Verdict.TheVariants.{Complete, Cut, Broken}
pub use declared.verdict.Fault.TheVariants.{EmptyStream, Attention, NoReceiver, BadStart, OutOfTurn, EndMarkNotAcknowledged}
pub use declared.verdict.Fault.TheVariants.{AcknowledgementShort, AcknowledgementLong, LateClock, SenderTimeout, ValidTimeShort}
pub use declared.verdict.Fault.TheVariants.{DataMoved, ClockStall, ReceiverTimeout, Hurried, MovedAfterEnd, EndMarkUnderAttention}
pub use declared.verdict.Fault.TheVariants.{AttentionReleased, Overrun}
