-- What a number tells: complete, cut, another verdict or a refusal. Assumes nothing.
use Rattle.std.specs.Prelude.{ℕ, Bool, false, ◌||◌, List, [], ◌∷◌, ◌≡◌, eqb, if◌then◌else◌}
use native.Mathlib.Omega.{arith}
use mathlib.Core.Path.{refl, sym, ap, ◌∙◌}
use Rattle.answer.specs.Numbers.{refusal_number, verdict_number, OnlyCompleteIs20, OnlyCutIs22, VerdictsAreNoRefusals}
use Rattle.answer.specs.Types.{Refusal, ShortFile, WrongVersion, TooManySteps, WrongOffset, WrongLength, ZeroDuration, StrayBits}
use Rattle.answer.specs.Types.{WrongTotal, ShortBuffers, TooManyBytes, ShortDestination, Fault, EmptyStream, Attention, NoReceiver}
use Rattle.answer.specs.Types.{BadStart, OutOfTurn, EndMarkNotAcknowledged, AcknowledgementShort, AcknowledgementLong, LateClock}
use Rattle.answer.specs.Types.{SenderTimeout, ValidTimeShort, DataMoved, ClockStall, ReceiverTimeout, Hurried, MovedAfterEnd}
use Rattle.answer.specs.Types.{EndMarkUnderAttention, AttentionReleased, Overrun, Verdict, Complete, Cut, Broken, NoSuchSeat}
use Rattle.answer.specs.Types.{VacantSeat, SeatInUse, NotFortySeats}

-- Four kinds of numbers, told by a test that computes: a new number is one line of a list below.
abbrev refusals : List Refusal
refusals =
    ShortFile ∷ WrongVersion ∷ TooManySteps ∷ WrongOffset ∷ WrongLength ∷ ZeroDuration ∷ StrayBits ∷ WrongTotal
    ∷ ShortBuffers ∷ TooManyBytes ∷ ShortDestination ∷ NoSuchSeat ∷ VacantSeat ∷ SeatInUse ∷ NotFortySeats ∷ []

abbrev among : ℕ → List Refusal → Bool
among n [] = false
among n (r ∷ rs) = eqb n (refusal_number r) || among n rs

abbrev kind_of : ℕ → ℕ
kind_of n = if eqb n 20 then 0 else if eqb n 22 then 1 else if among n refusals then 3 else 2

abbrev kind : Verdict → ℕ
kind Complete = 0
kind Cut = 1
kind (Broken fault) = 2

fault_kind : (f : Fault) → kind_of (verdict_number (Broken f)) ≡ 2
fault_kind EmptyStream = refl
fault_kind Attention = refl
fault_kind NoReceiver = refl
fault_kind BadStart = refl
fault_kind OutOfTurn = refl
fault_kind EndMarkNotAcknowledged = refl
fault_kind AcknowledgementShort = refl
fault_kind AcknowledgementLong = refl
fault_kind LateClock = refl
fault_kind SenderTimeout = refl
fault_kind ValidTimeShort = refl
fault_kind DataMoved = refl
fault_kind ClockStall = refl
fault_kind ReceiverTimeout = refl
fault_kind Hurried = refl
fault_kind MovedAfterEnd = refl
fault_kind EndMarkUnderAttention = refl
fault_kind AttentionReleased = refl
fault_kind Overrun = refl

verdict_kind : (v : Verdict) → kind_of (verdict_number v) ≡ kind v
verdict_kind Complete = refl
verdict_kind Cut = refl
verdict_kind (Broken f) = fault_kind f

refusal_kind : (r : Refusal) → kind_of (refusal_number r) ≡ 3
refusal_kind ShortFile = refl
refusal_kind WrongVersion = refl
refusal_kind TooManySteps = refl
refusal_kind WrongOffset = refl
refusal_kind WrongLength = refl
refusal_kind ZeroDuration = refl
refusal_kind StrayBits = refl
refusal_kind WrongTotal = refl
refusal_kind ShortBuffers = refl
refusal_kind TooManyBytes = refl
refusal_kind ShortDestination = refl
refusal_kind NoSuchSeat = refl
refusal_kind VacantSeat = refl
refusal_kind SeatInUse = refl
refusal_kind NotFortySeats = refl

is_kind : (v : Verdict) (n : ℕ) → verdict_number v ≡ n → kind v ≡ kind_of n
is_kind v n e = sym (verdict_kind v) ∙ ap kind_of e

pub only_complete_is_20 : OnlyCompleteIs20
only_complete_is_20 v e = by_kind v (is_kind v 20 e)
  where
    by_kind : (v : Verdict) → kind v ≡ 0 → v ≡ Complete
    by_kind Complete k = refl
    by_kind Cut k = absurd (omega arith)
    by_kind (Broken f) k = absurd (omega arith)

pub only_cut_is_22 : OnlyCutIs22
only_cut_is_22 v e = by_kind v (is_kind v 22 e)
  where
    by_kind : (v : Verdict) → kind v ≡ 1 → v ≡ Cut
    by_kind Complete k = absurd (omega arith)
    by_kind Cut k = refl
    by_kind (Broken f) k = absurd (omega arith)

pub verdicts_are_no_refusals : VerdictsAreNoRefusals
verdicts_are_no_refusals v r e = by_kind v (is_kind v (refusal_number r) e ∙ refusal_kind r)
  where
    by_kind : (v : Verdict) → kind v ≡ 3 → ⊥
    by_kind Complete k = omega arith
    by_kind Cut k = omega arith
    by_kind (Broken f) k = omega arith
