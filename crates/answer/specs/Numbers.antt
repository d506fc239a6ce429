-- Document 01's numbers, "Numbers and what they leave", and those of document 02's requests: the one place where they stand.
use Rattle.std.specs.Prelude.{ℕ, ◌≡◌}
use Rattle.answer.specs.Types.{Refusal, ShortFile, WrongVersion, TooManySteps, WrongOffset, WrongLength, ZeroDuration, StrayBits}
use Rattle.answer.specs.Types.{WrongTotal, ShortBuffers, TooManyBytes, ShortDestination, EmptyStream, Attention, NoReceiver, BadStart}
use Rattle.answer.specs.Types.{OutOfTurn, EndMarkNotAcknowledged, AcknowledgementShort, AcknowledgementLong, LateClock, SenderTimeout}
use Rattle.answer.specs.Types.{ValidTimeShort, DataMoved, ClockStall, ReceiverTimeout, Hurried, MovedAfterEnd, EndMarkUnderAttention}
use Rattle.answer.specs.Types.{AttentionReleased, Overrun, Verdict, Complete, Cut, Broken, NoSuchSeat, VacantSeat, SeatInUse}
use Rattle.answer.specs.Types.{NotFortySeats}

-- "Refusals"; the definitions that give them say when.
abbrev pub refusal_number : Refusal → ℕ
refusal_number ShortFile = 1  -- "fewer than 16 bytes"
refusal_number WrongVersion = 2  -- "version is not 1"
refusal_number TooManySteps = 3  -- "n above 16,000"
refusal_number WrongOffset = 4  -- "offset is not 16"
refusal_number WrongLength = 5  -- "length field, or true length, is not 16+4n"
refusal_number ZeroDuration = 6  -- "a step of duration 0"
refusal_number StrayBits = 7  -- as #103 has it: "other line bits or a last byte above 1"
refusal_number WrongTotal = 8  -- "total ticks wrong"
refusal_number ShortBuffers = 9  -- "byte buffer under 1,000 places, or ledger under 2,000"
refusal_number TooManyBytes = 10  -- "writer: more than 799 bytes"
refusal_number ShortDestination = 11  -- "writer: destination under 80n+36 bytes, n the number of bytes given"
-- #102, of the tray
refusal_number NoSuchSeat = 13  -- "seat 40 or above"
refusal_number VacantSeat = 14  -- "posting to or removing from a vacant seat"
refusal_number SeatInUse = 15  -- "loading a seat in use"
refusal_number NotFortySeats = 16  -- "the list isn't forty long"

-- "Verdicts: 20 complete, 21 empty stream, 22 cut, 23 attention, .."
abbrev pub verdict_number : Verdict → ℕ
verdict_number Complete = 20
verdict_number (Broken EmptyStream) = 21
verdict_number Cut = 22
verdict_number (Broken Attention) = 23
verdict_number (Broken NoReceiver) = 24
verdict_number (Broken BadStart) = 25
verdict_number (Broken OutOfTurn) = 26
verdict_number (Broken EndMarkNotAcknowledged) = 27
verdict_number (Broken AcknowledgementShort) = 28
verdict_number (Broken AcknowledgementLong) = 29
verdict_number (Broken LateClock) = 30
verdict_number (Broken SenderTimeout) = 31
verdict_number (Broken ValidTimeShort) = 32
verdict_number (Broken DataMoved) = 33
verdict_number (Broken ClockStall) = 34
verdict_number (Broken ReceiverTimeout) = 35
verdict_number (Broken Hurried) = 36
verdict_number (Broken MovedAfterEnd) = 37
-- #101: "in D, (0,0) at offset 199 gives 38 (end mark under attention)"; "ATN released otherwise .. gives 39".
verdict_number (Broken EndMarkUnderAttention) = 38
verdict_number (Broken AttentionReleased) = 39
-- #103: "The first tick of a marked step gives verdict 40".
verdict_number (Broken Overrun) = 40

-- A number is a verdict's: some verdict has it.
pub record IsVerdict (number : ℕ) : Type 0 where
  pub verdict : Verdict
  pub numbered : verdict_number verdict ≡ number

-- Complete alone has the number 20.
abbrev pub OnlyCompleteIs20 : Type 0
OnlyCompleteIs20 = (v : Verdict) → verdict_number v ≡ 20 → v ≡ Complete

-- And cut alone 22.
abbrev pub OnlyCutIs22 : Type 0
OnlyCutIs22 = (v : Verdict) → verdict_number v ≡ 22 → v ≡ Cut

-- No refusal has a verdict's number.
abbrev pub VerdictsAreNoRefusals : Type 0
VerdictsAreNoRefusals = (v : Verdict) (r : Refusal) → verdict_number v ≡ refusal_number r → ⊥
