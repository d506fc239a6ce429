-- "The judge's phases" of document 01: what a tick that ATN leaves to them does in each phase, row by row, in the paper's order.
-- Lines stand as (CLK, DATA), true when pulled; `now` is the tick. A clause below is a row there; where a row has two
-- answers by the time, the clause has an `if`. `L` holds the times.
use Rattle.std.specs.Prelude.{ℕ, zero, suc, ◌+◌, ◌/◌, Bool, true, false, not, eqb, ltb, leb, if◌then◌else◌}
use Rattle.transfer.specs.Types.{Entry, Plain, Command, Limits, Byte, Phase, Start, FirstHold, Hold, ReadyToSend, ReadyForData}
use Rattle.transfer.specs.Types.{Acknowledgement}
use Rattle.transfer.specs.Types.{Acknowledged, SetUp, Valid, Open, Carried, End, Finished, Decided}
use Rattle.answer.specs.Types.{Fault, EmptyStream, NoReceiver, BadStart, OutOfTurn, EndMarkNotAcknowledged, AcknowledgementShort}
use Rattle.answer.specs.Types.{AcknowledgementLong, LateClock, SenderTimeout, ValidTimeShort, DataMoved, ClockStall, ReceiverTimeout}
use Rattle.answer.specs.Types.{Hurried, MovedAfterEnd, EndMarkUnderAttention}

-- What one tick does: go to a phase or stay in it, hand a byte over and go to a phase, or decide.
pub data Move : Type 0 where
  Go : Phase → Move
  Hand : Byte → Phase → Move
  Stop : Fault → Move

-- "Offsets count from a phase's first tick, the one that leads into it, which is offset 0."
-- The offset of `now` from `since` is below n.
unfoldable pub below : (n since now : ℕ) → Bool
below n since now = ltb now (since + n)

-- The offset of `now` from `since` is at most n.
unfoldable pub up_to : (n since now : ℕ) → Bool
up_to n since now = leb now (since + n)

-- Both pulled or both released.
unfoldable pub same : (a b : Bool) → Bool
same true b = b
same false b = not b

-- The bits so far and one more, "least significant first, pulled is one": each comes in at the top of the byte.
unfoldable pub with_bit : ℕ → Bool → ℕ
with_bit value true = value / 2 + 128
with_bit value false = value / 2

-- Handover, offset 0: "the CLK pull after bit 8".
unfoldable pub handover : (end_mark : Bool) (value now : ℕ) (bit dat : Bool) → Move
-- "Bit 8 zero and offset 0 shows (1,1): 26. No receiver reacts in the same tick."
handover end_mark value now false true = Stop OutOfTurn
-- Open from here, or carried.
handover end_mark value now bit false = Go (Open end_mark value now now)
handover end_mark value now true true = Go (Carried end_mark value now)

-- After a bit that `bits_left` more follow: the handover, or the next bit's set-up.
unfoldable pub after_bit : (bits_left : ℕ) → Move → (ℕ → Move) → Move
after_bit zero last more = last
after_bit (suc bits_left) last more = more bits_left

-- D lasted too long: an end mark that nobody acknowledged, or for commands, which have none, "38 (end mark under attention)".
abbrev pub long_silence : Entry → Fault
long_silence Plain = EndMarkNotAcknowledged
long_silence Command = EndMarkUnderAttention

unfoldable pub next : Limits → (now : ℕ) → Phase → (clk dat : Bool) → Move
-- A start. "Tick 0 with CLK released: 25. CLK released later: 26."
next L now Start false d = if eqb now 0 then Stop BadStart else Stop OutOfTurn
-- "(1,1): go to B."
next L now Start true true = Go FirstHold
-- "(1,0): stay; at offset 256 it is 24 instead (000)."
next L now Start true false = if below L.presence 0 now then Go Start else Stop NoReceiver
-- B hold, before any byte. "(1,1): stay. (0,1): go to C; .. DATA released: 26."
next L now FirstHold true true = Go FirstHold
next L now FirstHold false true = Go (ReadyToSend false false)
next L now FirstHold c false = Stop OutOfTurn
-- B hold, after a byte. "(1,1): stay."
next L now (Hold end_mark value take let_go) true true = Go (Hold end_mark value take let_go)
-- "(0,1): go to C; after a byte, only 100 or more ticks after its take (000), otherwise 36."
-- C: "Entering it after a byte hands that byte over."
next L now (Hold end_mark value take let_go) false true =
    if below L.between_bytes take now then Stop Hurried
    else Hand (record { value = value; let_go = let_go; take = take }) (ReadyToSend true end_mark)
-- "DATA released: 26."
next L now (Hold end_mark value take let_go) c false = Stop OutOfTurn
-- C ready to send. "(0,1): stay, no limit (003)."
next L now (ReadyToSend some-handed ended) false true = Go (ReadyToSend some-handed ended)
-- "(0,0): go to D, or to the end E if the byte just handed over had the end mark."
next L now (ReadyToSend some-handed false) false false = Go (ReadyForData some-handed now)
next L now (ReadyToSend some-handed true) false false = Go (End now)
-- "CLK pulled: 26."
next L now (ReadyToSend some-handed ended) true d = Stop OutOfTurn
-- D ready for data. No tick meets it at offset 0, where (0,0) leads in, nor above 290, where (0,0) was 27: the rows need not
-- test that. "CLK pulled at offset 1 to 199: bits, no end mark. CLK pulled later: 26."
next L now (ReadyForData some-handed since) true d =
    if below L.end_mark since now then Go (SetUp false 0 d now 7) else Stop OutOfTurn
-- "(0,1) before offset 200: 26. (0,1) at 200 to 290 (H above 200): go to F, end mark."
next L now (ReadyForData some-handed since) false true =
    if below L.end_mark since now then Stop OutOfTurn else Go (Acknowledgement some-handed now since)
-- "(0,0): stay; at offset 290 it is 27." Commands: "in D, (0,0) at offset 199 gives 38".
next L now (ReadyForData some-handed since) false false =
    if below L.end_mark_latest since now then Go (ReadyForData some-handed since) else Stop (long_silence L.entry)
-- F acknowledgement. "CLK pulled: 26."
next L now (Acknowledgement some-handed since ready-tick) true d = Stop OutOfTurn
-- "(0,1): stay; at offset 150 (H) it is 29."
next L now (Acknowledgement some-handed since ready-tick) false true =
    if below L.acknowledge_most since now then Go (Acknowledgement some-handed since ready-tick) else Stop AcknowledgementLong
-- "(0,0): before offset 60 it is 28, otherwise go to G."
next L now (Acknowledgement some-handed since ready-tick) false false =
    if below L.acknowledge_least since now then Stop AcknowledgementShort else Go (Acknowledged some-handed now ready-tick)
-- G. "(0,1): 26."
next L now (Acknowledged some-handed since ready-tick) false true = Stop OutOfTurn
-- "CLK pulled: at offset up to 60 bits (003), later 30."
next L now (Acknowledged some-handed since ready-tick) true d =
    if up_to L.response since now then Go (SetUp true 0 d now 7) else Stop LateClock
-- "(0,0): stay; at 512 ticks after D's first tick (000) it is 21 if no byte was handed over, otherwise 31."
next L now (Acknowledged some-handed since ready-tick) false false =
    if below L.sender_timeout ready-tick now then Go (Acknowledged some-handed since ready-tick)
    else if some-handed then Stop SenderTimeout else Stop EmptyStream
-- Bits. "Set-up: CLK pulled for 1 to 200 ticks (H), DATA free; a 201st is 34."
next L now (SetUp end_mark value last since bits_left) true d =
    if below L.set_up_most since now then Go (SetUp end_mark value d since bits_left) else Stop ClockStall
-- "Valid: CLK released. Its first tick must show the DATA of the last set-up tick, otherwise 33."
next L now (SetUp end_mark value last since bits_left) false d =
    if same last d then Go (Valid end_mark value d now bits_left) else Stop DataMoved
-- "DATA changing while valid: 33. A 201st valid tick (H): 34."
next L now (Valid end_mark value bit since bits_left) false d =
    if same bit d then if below L.valid_most since now then Go (Valid end_mark value bit since bits_left) else Stop ClockStall
    else Stop DataMoved
-- "CLK pulled after fewer than 20 valid ticks (003): 32."
next L now (Valid end_mark value bit since bits_left) true d =
    if below L.valid_least since now then Stop ValidTimeShort
    else after_bit bits_left (handover end_mark (with_bit value bit) now bit d) (λ n. Go (SetUp end_mark (with_bit value bit) d now n))
-- Handover; its offset 0 is `handover`, above. "CLK released while DATA has been open ..: 26."
next L now (Open end_mark value since let_go) false d = Stop OutOfTurn
-- "Open (DATA has been seen released): (1,0) stays; at offset 1,000 it is 35."
next L now (Open end_mark value since let_go) true false =
    if below L.take_latest since now then Go (Open end_mark value since let_go) else Stop ReceiverTimeout
-- "(1,1): the take; go to B."
next L now (Open end_mark value since let_go) true true = Go (Hold end_mark value now let_go)
-- ".. and DATA released in the same tick as CLK: 26."
next L now (Carried end_mark value since) false false = Stop OutOfTurn
-- "Carried (bit 8 one, DATA pulled without a break): (1,1) stays."
next L now (Carried end_mark value since) true true = Go (Carried end_mark value since)
-- "(1,0) at offset up to 100 (H): open from here; later 26."
next L now (Carried end_mark value since) true false =
    if up_to L.keep_most since now then Go (Open end_mark value since now) else Stop OutOfTurn
-- "(0,1) at offset 101 or more: go to C, take and letting go both at offset 1; sooner 36." The take at offset 1 and the time
-- between bytes make the 101.
next L now (Carried end_mark value since) false true =
    if up_to L.between_bytes since now then Stop Hurried
    else Hand (record { value = value; let_go = since + 1; take = since + 1 }) (ReadyToSend true end_mark)
-- E end. "Its first tick is the finish tick. Any tick other than (0,0): 37."
next L now (End finish) false false = Go (End finish)
next L now (End finish) false true = Stop MovedAfterEnd
next L now (End finish) true d = Stop MovedAfterEnd
-- After the finish of commands "only a pull of ATN matters: 37". `move` leaves no other tick to this row.
next L now (Finished finish) c d = Stop MovedAfterEnd
-- A verdict stands. `move` sees to it before this table is asked.
next L now (Decided fault) c d = Stop fault
