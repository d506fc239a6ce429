-- The numbers that a judge may give, from document 01's "Numbers and what they leave" and document 02's #101 and #103. A
-- further number is a further place in a list. Assumes nothing.
use Rattle.std.specs.Prelude.{ℕ, cond, eqb, List, [], ◌∷◌, ◌++◌}
use Rattle.second_judge.specs.declared.entry.Entry.{Entry}
use Rattle.second_judge.specs.declared.entry.Entry.TheVariants.{Plain, Command}
use Rattle.second_judge.specs.declared.numbers.Verdict.{Verdict}
use Rattle.second_judge.specs.declared.numbers.Verdict.TheVariants.{Complete, EmptyStream, Cut, Attention, NoReceiver}
use Rattle.second_judge.specs.declared.numbers.Verdict.TheVariants.{BadStart, OutOfTurn, EndMarkNotAcknowledged}
use Rattle.second_judge.specs.declared.numbers.Verdict.TheVariants.{AcknowledgementShort, AcknowledgementLong, LateClock}
use Rattle.second_judge.specs.declared.numbers.Verdict.TheVariants.{SenderTimeOut, ValidTimeShort, DataMoved, ClockStall}
use Rattle.second_judge.specs.declared.numbers.Verdict.TheVariants.{ReceiverTimeOut, Hurried, MovedAfterTheEnd}
use Rattle.second_judge.specs.declared.numbers.Verdict.TheVariants.{EndMarkUnderAttention, AttentionReleased, Overrun}

-- The number is one of the list's.
abbrev pub Among : List ℕ → ℕ → Type 0
Among [] n = ⊥
Among (one ∷ others) n = cond (eqb n one) Unit (Among others n)

-- "Refusals, tested in this order", but the writer's: 1 fewer than 16 bytes; 2 version is not 1; 3 n above 16,000;
-- 4 offset is not 16; 5 length field, or true length, is not 16+4n; 6 a step of duration 0; 7 a step with other line
-- bits or a last byte above 1 (#103); 8 total ticks wrong; 9 byte buffer under 1,000 places, or ledger under 2,000.
abbrev pub refusals : List ℕ
refusals = 1 ∷ 2 ∷ 3 ∷ 4 ∷ 5 ∷ 6 ∷ 7 ∷ 8 ∷ 9 ∷ []

-- Verdicts of both entries while the recording is read, by what the lines show: 24 no receiver, 25 bad start, 26 out of
-- turn, 32 valid time short, 33 data moved, 34 clock stall, 35 receiver time-out, 36 hurried, 37 moved after the end.
abbrev pub of_both : List ℕ
of_both = 24 ∷ 25 ∷ 26 ∷ 32 ∷ 33 ∷ 34 ∷ 35 ∷ 36 ∷ 37 ∷ []

-- Verdicts of one entry alone. The plain one's: 21 empty stream, 23 attention, 27 end mark not acknowledged,
-- 28 acknowledgement short, 29 acknowledgement long, 30 late clock, 31 sender time-out. #101 goes "without 23 and end
-- mark", and has 38 end mark under attention, 39 attention released out of place.
abbrev pub of_one : Entry → List ℕ
of_one Plain = 21 ∷ 23 ∷ 27 ∷ 28 ∷ 29 ∷ 30 ∷ 31 ∷ []
of_one Command = 38 ∷ 39 ∷ []

abbrev pub while_reading : Entry → List ℕ
while_reading entry = of_both ++ of_one entry

-- Those, and 20 complete and 22 cut: "The recording running out gives 20 in E, 22 anywhere else"; in #101 "Running out
-- gives 20 with the finish tick, or 22 before it." And 40, which the mark of a step gives, whatever the lines show (#103).
abbrev pub verdicts : Entry → List ℕ
verdicts entry = 20 ∷ 22 ∷ 40 ∷ while_reading entry

-- The number of each verdict, as `src/numbers.rt` has it.
abbrev pub number_of : Verdict → ℕ
number_of Complete = 20
number_of EmptyStream = 21
number_of Cut = 22
number_of Attention = 23
number_of NoReceiver = 24
number_of BadStart = 25
number_of OutOfTurn = 26
number_of EndMarkNotAcknowledged = 27
number_of AcknowledgementShort = 28
number_of AcknowledgementLong = 29
number_of LateClock = 30
number_of SenderTimeOut = 31
number_of ValidTimeShort = 32
number_of DataMoved = 33
number_of ClockStall = 34
number_of ReceiverTimeOut = 35
number_of Hurried = 36
number_of MovedAfterTheEnd = 37
number_of EndMarkUnderAttention = 38
number_of AttentionReleased = 39
number_of Overrun = 40

-- The verdict's number is one of the list's.
abbrev pub Gives : List ℕ → Verdict → Type 0
Gives list verdict = Among list (number_of verdict)
