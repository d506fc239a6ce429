-- What a tick does, and what the recording comes to where it runs out.
use Rattle.std.specs.Prelude.{ℕ, ◌+◌, Bool, true, false}
use Rattle.transfer.specs.Phases.{below, Move, Go, Hand, Stop, next}
use Rattle.transfer.specs.Types.{Entry, Plain, Command, Limits, Tick, Byte, Phase, Start, FirstHold, Hold, ReadyToSend}
use Rattle.transfer.specs.Types.{ReadyForData, Acknowledgement}
use Rattle.transfer.specs.Types.{Acknowledged, SetUp, Valid, Open, Carried, End, Finished, Decided, Decision}
use Rattle.answer.specs.Types.{Fault, Attention, AttentionReleased, Overrun, Complete, Cut, Broken}

-- How far a transfer has come, for whatever asks only that: it is running; it is running and holds a byte that was taken, or may have
-- been, and is not yet handed over; the stream is ended; commands are finished; a verdict has fallen.
pub data Stage : Type 0 where
  Running : Stage
  Holding : Byte → Stage
  Ended : (finish : ℕ) → Stage
  Past : (finish : ℕ) → Stage
  Fallen : Fault → Stage

abbrev pub stage : Phase → Stage
stage Start = Running
stage FirstHold = Running
stage (Hold end_mark value take let_go) = Holding (record { value = value; let_go = let_go; take = take })
stage (ReadyToSend some-handed ended) = Running
stage (ReadyForData some-handed since) = Running
stage (Acknowledgement some-handed since ready-tick) = Running
stage (Acknowledged some-handed since ready-tick) = Running
stage (SetUp end_mark value last since bits_left) = Running
stage (Valid end_mark value bit since bits_left) = Running
stage (Open end_mark value since let_go) = Running
stage (Carried end_mark value since) = Holding (record { value = value; let_go = since + 1; take = since + 1 })
stage (End finish) = Ended finish
stage (Finished finish) = Past finish
stage (Decided fault) = Fallen fault

abbrev pub has_fallen : Stage → Bool
has_fallen Running = false
has_fallen (Holding byte) = false
has_fallen (Ended finish) = false
has_fallen (Past finish) = false
has_fallen (Fallen fault) = true

-- A verdict has fallen.
abbrev pub is_decided : Phase → Bool
is_decided phase = has_fallen (stage phase)

-- #101: "The finish is the first tick with ATN released; it must show (1,1), .. and hands the last byte over. ATN released otherwise, too
-- soon .. included, gives 39".
unfoldable pub finishing : (too-soon : Bool) (now : ℕ) → Byte → (clk dat : Bool) → Move
finishing false now byte true true = Hand byte (Finished now)
finishing false now byte true false = Stop AttentionReleased
finishing false now byte false d = Stop AttentionReleased
finishing true now byte c d = Stop AttentionReleased

-- A tick of commands with ATN released. "In B or in a carried handover, 100 or more ticks after the last take": in a carried handover the
-- take is at offset 1. "In B before any byte" it is 39, as elsewhere; "after the finish only a pull of ATN matters". Commands never come to
-- E, and a verdict stands before this is asked: those two clauses meet no tick.
abbrev pub released : Limits → (now : ℕ) → Stage → (clk dat : Bool) → Move
released L now Running c d = Stop AttentionReleased
released L now (Holding byte) c d = finishing (below L.between_bytes byte.take now) now byte c d
released L now (Ended finish) c d = Stop AttentionReleased
released L now (Past finish) c d = Go (Finished finish)
released L now (Fallen fault) c d = Stop AttentionReleased

-- What ATN means, before the phase's rows. A data transfer: "a tick with ATN pulled gives 23 before anything else." Commands: "without 23",
-- and a tick with ATN released is "tested before the phase's rows".
abbrev pub heed : {A : Type 0} → Entry → (atn : Bool) → (attention rows released : A) → A
heed Plain true attention rows released = attention
heed Plain false attention rows released = rows
heed Command true attention rows released = rows
heed Command false attention rows released = released

-- "Stops for good at the deciding tick": a verdict stands, and otherwise the tick does what it does.
abbrev pub unless_fallen : Stage → Move → Move
unless_fallen Running does = does
unless_fallen (Holding byte) does = does
unless_fallen (Ended finish) does = does
unless_fallen (Past finish) does = does
unless_fallen (Fallen fault) does = Stop fault

-- #103: "The first tick of a marked step gives verdict 40, before ATN is looked at, also in E, at tick 0 and after #101's finish."
abbrev pub unless_marked : (marked : Bool) → Move → Move
unless_marked true does = Stop Overrun
unless_marked false does = does

-- What a tick does in a phase, whole: a verdict stands; then whether ticks were lost; then what ATN means; then the phase's rows.
unfoldable pub move : Limits → (now : ℕ) → Phase → Tick → Move
move L now phase tick =
    let lines = tick.lines in
    unless_fallen (stage phase)
    (unless_marked tick.marked
    (heed L.entry lines.atn (Stop Attention) (next L now phase lines.clk lines.«data»)
    (released L now (stage phase) lines.clk lines.«data»)))

abbrev pub no_byte : Byte
no_byte = record { value = 0; let_go = 0; take = 0 }

-- The byte that a tick hands over, read off the phase that it leaves: no state has to keep it.
abbrev pub held_in : Stage → Byte
held_in Running = no_byte
held_in (Holding byte) = byte
held_in (Ended finish) = no_byte
held_in (Past finish) = no_byte
held_in (Fallen fault) = no_byte

abbrev pub held_byte : Phase → Byte
held_byte phase = held_in (stage phase)

-- "A verdict carries the deciding tick .. (20: the finish tick; 22: total ticks ..)."
abbrev pub complete_at : (finish : ℕ) → Decision
complete_at finish = record { verdict = Complete; tick = finish }

abbrev pub cut_at : (total : ℕ) → Decision
cut_at total = record { verdict = Cut; tick = total }

abbrev pub broken_at : Fault → (tick : ℕ) → Decision
broken_at fault tick = record { verdict = Broken fault; tick = tick }

-- "The recording running out gives 20 in E, 22 anywhere else." Commands: "running out gives 20 with the finish tick, or 22 before it."
-- 20 carries the finish tick, 22 the total of ticks, any other verdict the tick that decided.
abbrev pub decision_in : Stage → (tick : ℕ) → Decision
decision_in Running tick = cut_at tick
decision_in (Holding byte) tick = cut_at tick
decision_in (Ended finish) tick = complete_at finish
decision_in (Past finish) tick = complete_at finish
decision_in (Fallen fault) tick = broken_at fault tick

abbrev pub decision_of : Phase → (tick : ℕ) → Decision
decision_of phase tick = decision_in (stage phase) tick
