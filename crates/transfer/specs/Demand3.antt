-- Demand 3 over tick lists.
use Rattle.std.specs.Prelude.{ℕ, suc, ◌+◌, ◌≤◌, ◌<◌, Bool, List, map, ◌≡◌, ◌↔◌}
use Rattle.transfer.specs.{Types.Command, Types.Limits, Types.Lines, Types.Tick, Types.Byte, Limits.standard_limits}
use Rattle.transfer.specs.{Limits.for_commands, Limits.command_limits, Outcome.outcome, Shown.shown, Ticks.lines_in, Ticks.Unmarked}
use Rattle.transfer.specs.Pair.{SenderPulls, sender_pulls, receiver_pulls, attention_track, gives, values, Pair, SameOrLater}
use Rattle.answer.specs.Types.{Complete}

-- What the times have to keep among themselves.
pub record Consistent (L : Limits) : Type 0 where
  -- D: the gap before a byte without an end mark lasts a tick at the least.
  pub end_mark : 2 ≤ L.end_mark
  -- D lasts as long as a byte without an end mark may begin.
  pub end_mark_in_time : L.end_mark ≤ suc L.end_mark_latest
  -- For commands no longer: they have no end mark.
  pub no_end_mark : L.entry ≡ Command → L.end_mark_latest < L.end_mark
  -- D lasts a tick at the least.
  pub ready_for_data : 1 ≤ L.end_mark_latest
  -- F: an acknowledgement lasts a tick at the least, and has time to be long enough.
  pub acknowledge_some : 1 ≤ L.acknowledge_least
  pub acknowledge_room : L.acknowledge_least ≤ L.acknowledge_most
  -- G: the time-out doesn't cut the sender's response off.
  pub timeout : L.end_mark_latest + L.acknowledge_most + L.response ≤ L.sender_timeout
  -- Bits: a set-up and a valid time last a tick at the least, and a bit has time to be valid long enough.
  pub set_up_some : 1 ≤ L.set_up_most
  pub valid_some : 1 ≤ L.valid_least
  pub valid_room : L.valid_least ≤ L.valid_most
  -- Handover: the sender may keep DATA for a tick; it stops before the receiver's time is over, and before CLK is released.
  pub keep_some : 1 ≤ L.keep_most
  pub keep_take : L.keep_most < L.take_latest
  pub keep_release : L.keep_most ≤ L.between_bytes

-- The tracks of "the shown pair": "read off the recording and the ledger".
abbrev pub shown_sender : (ledger : List Byte) → List Lines → List SenderPulls
shown_sender ledger w = map sender_pulls (shown ledger w)

abbrev pub shown_receiver : (ledger : List Byte) → List Lines → List Bool
shown_receiver ledger w = map receiver_pulls (shown ledger w)

module _ (L : Limits) (w : List Lines) where
  -- Two tracks are a pair for the string, dated so, and give these lines.
  pub record Explains (string : List ℕ) (sender : List SenderPulls) (receiver : List Bool) (dated : List Byte) : Type 0 where
    pub pair : Pair L string sender receiver dated
    pub gives_it : gives (attention_track L.entry pair.plan) sender receiver ≡ w

  -- Some rule-keeping sender and receiver could have made these lines.
  pub record Explained (string : List ℕ) : Type 0 where
    pub sender : List SenderPulls
    pub receiver : List Bool
    pub dated : List Byte
    pub explains : Explains string sender receiver dated

  -- Demand 3 of a judgement of ticks that show these lines. It is said of whatever a judgement leaves: `passes` is that it is complete,
  -- `complete` that it is "complete with a string", and `ledger` has that string's bytes, each with its two ticks. `nothing-lost` is that
  -- no ticks were lost: which lines they showed nobody can say, so a pair alone explains nothing.
  pub record Demand3 (nothing-lost passes : Type 0) (complete : List ℕ → Type 0) (ledger : List ℕ → List Byte) : Type 0 where
    -- Complete with a string exactly if a pair for it gives the recording "and no step is marked" (#103).
    pub exactly : (string : List ℕ) → complete string ↔ (Explained string × nothing-lost)
    -- The shown pair "is a pair for the string, it gives the recording, and its two ticks for each byte are the ledger's".
    pub shown_pair : (string : List ℕ) → complete string
        → Explains string (shown_sender (ledger string) w) (shown_receiver (ledger string) w) (ledger string)
    -- "Every other pair that gives the recording has, at each of the two places of each byte, that tick or a later one."
    pub earliest : (string : List ℕ) (sender : List SenderPulls) (receiver : List Bool) (dated : List Byte)
        → Explains string sender receiver dated → nothing-lost → SameOrLater (ledger string) dated
    -- If no pair exists for any string, or ticks were lost, it is never complete.
    pub never : ((string : List ℕ) → Explained string → nothing-lost → ⊥) → passes → ⊥

module _ (L : Limits) (w : List Tick) where
  -- "Complete with a string", of the outcome of the tick list.
  pub record CompleteWith (string : List ℕ) : Type 0 where
    pub verdict : (outcome L w).decision.verdict ≡ Complete
    pub bytes : values (outcome L w).bytes ≡ string

  -- Demand 3 of the outcome.
  abbrev pub OutcomeDemand3 : Type 0
  OutcomeDemand3 =
      Demand3 L (lines_in w) (Unmarked w) ((outcome L w).decision.verdict ≡ Complete) CompleteWith (λ string. (outcome L w).bytes)

-- For every tick list and all times that are consistent, of either entry; and at document 01's own, for data and for commands.
abbrev pub Demand3Law : Type 0
Demand3Law = (L : Limits) → Consistent L → (w : List Tick) → OutcomeDemand3 L w

abbrev pub StandardDemand3 : Type 0
StandardDemand3 = (w : List Tick) → OutcomeDemand3 standard_limits w

abbrev pub CommandDemand3 : Type 0
CommandDemand3 = (w : List Tick) → OutcomeDemand3 command_limits w

-- Times that are consistent are so for commands too.
abbrev pub CommandsConsistent : Type 0
CommandsConsistent = (L : Limits) → Consistent L → Consistent (for_commands L)
