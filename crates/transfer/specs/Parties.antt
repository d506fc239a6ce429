-- "The two parties' own rules" of document 01, and #101's for commands: what a sender and a receiver choose, and the tracks that it makes.
-- Nothing here comes from the judge's phases: the two share the times, what a tick shows and the ledger's record alone.
use Rattle.std.specs.Prelude.{ℕ, zero, suc, ◌+◌, Bool, true, false, List, [], ◌∷◌, ◌++◌, map, length, replicate, ltb, leb, if◌then◌else◌}
use Rattle.transfer.specs.Types.{Entry, Plain, Command, Byte}

-- One tick of both tracks: the sender's CLK and DATA pulls, the receiver's DATA pull. `past` is one from the finish of commands on.
pub data Pulls : Type 0 where
  pulls : (clk sender receiver : Bool) → Pulls
  past : (clk sender receiver : Bool) → Pulls

-- ATN while a transfer goes on: "ATN released throughout"; commands: "ATN is pulled until the finish and released from it on".
abbrev pub under_way : Entry → Bool
under_way Plain = false
under_way Command = true

abbrev pub attention : Entry → Pulls → Bool
attention entry (pulls clk sender receiver) = under_way entry
attention entry (past clk sender receiver) = false

-- The ticks that tracks are made of, beside those of a handover. "No other pulls occur."
-- Nobody pulls; the receiver pulls DATA.
abbrev pub nobody : Pulls
nobody = pulls false false false

abbrev pub held : Pulls
held = pulls false false true

-- The sender pulls CLK; the receiver DATA beside it.
abbrev pub clock : Pulls
clock = pulls true false false

abbrev pub clock_held : Pulls
clock_held = pulls true false true

-- The sender's DATA d in a set-up tick, CLK pulled, and in a valid tick, CLK released.
abbrev pub sets : Bool → Pulls
sets d = pulls true d false

abbrev pub offers : Bool → Pulls
offers d = pulls false d false

-- A bit: the sender's DATA in its set-up ticks, `first` and `others`, free; the bit itself, which is its DATA while valid; and the
-- number of its valid ticks.
pub record Bit : Type 0 where
  pub first : Bool
  pub others : List Bool
  pub bit : Bool
  pub valid : ℕ

-- A byte as it is sent: its bits, then, counted from the CLK pull after bit 8, the offsets of the sender's letting go of DATA (0 where it
-- doesn't pull on), of the receiver's take and of the sender's release of CLK, or of the finish of commands.
pub record Frame : Type 0 where
  pub bits : List Bit
  pub let_go : ℕ
  pub take : ℕ
  pub release : ℕ

-- "What CLK and DATA show after [the finish] binds nobody": each tick there is free.
pub record Free : Type 0 where
  pub clk : Bool
  pub sender : Bool
  pub receiver : Bool

-- From a letting go on: the ticks to the CLK pull, a byte that is not the last, the ticks until the receiver lets go, and what follows;
-- or the last byte: the ticks to the receiver's pull, those of the pull, those to the CLK pull, the byte, the ticks until the receiver
-- lets go, and those from this last letting go on; or the last byte of commands: the ticks to the CLK pull, the byte, and what both pull in
-- each tick after the finish.
pub data Sending : Type 0 where
  more : (gap : ℕ) → Frame → (wait : ℕ) → Sending → Sending
  last : (gap acknowledgement response : ℕ) → Frame → (wait silence : ℕ) → Sending
  last_command : (gap : ℕ) → Frame → (after : List Free) → Sending

-- The receiver takes DATA at tick `found`; the sender releases CLK `hold` ticks later; the receiver lets go `wait` ticks later.
pub record Plan : Type 0 where
  pub found : ℕ
  pub hold : ℕ
  pub wait : ℕ
  pub sending : Sending

-- "The sender sends eight bits ..; the receiver keeps off DATA."
abbrev pub bit_track : Bit → List Pulls → List Pulls
bit_track x rest = sets x.first ∷ (map sets x.others ++ (replicate x.valid (offers x.bit) ++ rest))

abbrev pub bits_track : List Bit → List Pulls → List Pulls
bits_track [] rest = rest
bits_track (x ∷ xs) rest = bit_track x (bits_track xs rest)

-- "After bit 8 the sender pulls CLK." At an offset from that pull on, the sender pulls DATA before its letting go, and the
-- receiver from its take on.
abbrev pub handover_tick : (let_go take offset : ℕ) → Pulls
handover_tick let_go take offset = pulls true (ltb offset let_go) (leb take offset)

-- The n ticks from an offset on.
abbrev pub handover_track : (let_go take offset n : ℕ) → List Pulls
handover_track let_go take offset zero = []
handover_track let_go take offset (suc n) = handover_tick let_go take offset ∷ handover_track let_go take (suc offset) n

abbrev pub frame_track : Frame → List Pulls → List Pulls
frame_track f rest = bits_track f.bits (handover_track f.let_go f.take 0 f.release ++ rest)

-- The finish: "both still hold their lines in that tick".
abbrev pub finish_tick : Pulls
finish_tick = past true false true

abbrev pub free_tick : Free → Pulls
free_tick x = past x.clk x.sender x.receiver

abbrev pub sending_track : Sending → List Pulls
sending_track (more gap f wait rest) = replicate gap nobody ++ frame_track f (replicate wait held ++ sending_track rest)
sending_track (last gap acknowledgement response f wait silence) =
    replicate gap nobody
    ++ (replicate acknowledgement held
    ++ (replicate response nobody
    ++ frame_track f (replicate wait held ++ replicate silence nobody)))
sending_track (last_command gap f after) = replicate gap nobody ++ frame_track f (finish_tick ∷ map free_tick after)

-- Both tracks, from tick 0 on.
abbrev pub track : Plan → List Pulls
track p =
    replicate p.found clock
    ++ (replicate p.hold clock_held
    ++ (replicate p.wait held
    ++ sending_track p.sending))

-- The byte that bits make, least significant first, pulled is one; the first of them weighs `weight`.
abbrev pub value_of : (weight : ℕ) → List Bit → ℕ
value_of weight [] = 0
value_of weight (x ∷ xs) = (if x.bit then weight else 0) + value_of (weight + weight) xs

abbrev pub bits_ticks : List Bit → ℕ
bits_ticks [] = 0
bits_ticks (x ∷ xs) = suc (length x.others + x.valid) + bits_ticks xs

-- "A pair's two ticks for a byte are the sender's letting go of DATA after bit 8 (where that bit is zero, it stands as
-- offset 0) and the receiver's take." `now` is the tick of the CLK pull that begins the bits.
abbrev pub byte_of : (now : ℕ) → Frame → Byte
byte_of now f =
    record {
      value = value_of 1 f.bits;
      let_go = now + bits_ticks f.bits + f.let_go;
      take = now + bits_ticks f.bits + f.take;
    }

-- The tick of the release of CLK that ends a byte, or of the finish.
abbrev pub after_frame : (now : ℕ) → Frame → ℕ
after_frame now f = now + bits_ticks f.bits + f.release

abbrev pub sending_bytes : (now : ℕ) → Sending → List Byte
sending_bytes now (more gap f wait rest) = byte_of (now + gap) f ∷ sending_bytes (after_frame (now + gap) f + wait) rest
sending_bytes now (last gap acknowledgement response f wait silence) = byte_of (now + gap + acknowledgement + response) f ∷ []
sending_bytes now (last_command gap f after) = byte_of (now + gap) f ∷ []

-- The bytes that a plan sends, each with its two ticks.
abbrev pub plan_bytes : Plan → List Byte
plan_bytes p = sending_bytes (p.found + p.hold + p.wait) p.sending
