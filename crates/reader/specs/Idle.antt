-- Idle ticks: those that only add one to the tick. A row of the table that goes on leads to a phase that the same lines keep, until the
-- phase's own limit: so the further ticks of a step can be passed over in one move.
use Rattle.std.specs.Prelude.{ℕ, ◌+◌, ◌-◌, ◌≤◌, false, List, ◌++◌, replicate, ◌≡◌, ltb, if◌then◌else◌}
use Rattle.transfer.specs.{Moves.is_decided, Ticks.tick}
use Rattle.transfer.specs.Types.{Limits, Lines, Tick, Phase, Start, FirstHold, Hold, ReadyToSend, ReadyForData, Acknowledgement}
use Rattle.transfer.specs.Types.{Acknowledged, SetUp, Valid, Open, Carried, End, Finished, Decided}
use Rattle.reader.specs.{States.next_state, After.state_after, After.handed_over}
use Rattle.reader.specs.declared.state.State.{State}

-- How many of `most` ticks, the first of them `now`, have an offset from `since` that is below n.
unfoldable pub ticks_below : (n since now most : ℕ) → ℕ
ticks_below n since now most = if ltb (now + most) (since + n) then most else since + n - now

-- How long the row lasts by which a phase stays in the same lines: without end, or while the offset from `since` is below n.
pub data Lasts : Type 0 where
  always : Lasts
  until : (n since : ℕ) → Lasts

abbrev pub lasts : Limits → Phase → Lasts
lasts L Start = until L.presence 0
lasts L FirstHold = always
lasts L (Hold end_mark value take let_go) = always
lasts L (ReadyToSend some-handed ended) = always
lasts L (ReadyForData some-handed since) = until L.end_mark_latest since
lasts L (Acknowledgement some-handed since ready-tick) = until L.acknowledge_most since
lasts L (Acknowledged some-handed since ready-tick) = until L.sender_timeout ready-tick
lasts L (SetUp end_mark value last since bits_left) = until L.set_up_most since
lasts L (Valid end_mark value bit since bits_left) = until L.valid_most since
lasts L (Open end_mark value since let_go) = until L.take_latest since
lasts L (Carried end_mark value since) = always
lasts L (End finish) = always
lasts L (Finished finish) = always
lasts L (Decided fault) = always

-- How many of `most` further ticks are idle, `now` being the first and their lines those of the tick before it.
abbrev pub ticks_in : Lasts → (now most : ℕ) → ℕ
ticks_in always now most = most
ticks_in (until n since) now most = ticks_below n since now most

abbrev pub idle_ticks : Limits → Phase → (now most : ℕ) → ℕ
idle_ticks L phase now most = ticks_in (lasts L phase) now most

-- The same state, so many ticks later.
abbrev pub later : State → (ticks : ℕ) → State
later s ticks = record { phase = s.phase; tick = s.tick + ticks; count = s.count }

-- So many unmarked ticks with these lines are idle: whatever follows is read as from the same state so many ticks later, and they hand
-- nothing over.
pub record Idle (L : Limits) (s : State) (l : Lines) (ticks : ℕ) : Type 0 where
  pub state : (w : List Tick) → state_after L s (replicate ticks (tick false l) ++ w) ≡ state_after L (later s ticks) w
  pub bytes : (w : List Tick) → handed_over L s (replicate ticks (tick false l) ++ w) ≡ handed_over L (later s ticks) w

-- Of ticks that are counted after a tick: they are no more than were asked for, and idle if that tick decided nothing.
pub record Counted (L : Limits) (s : State) (l : Lines) (most ticks : ℕ) : Type 0 where
  pub few : ticks ≤ most
  pub idle : is_decided s.phase ≡ false → Idle L s l ticks

abbrev pub IdleLaw : Type 0
IdleLaw =
    (L : Limits) (s : State) (t : Tick) (most : ℕ)
    → let after = next_state L s t in Counted L after t.lines most (idle_ticks L after.phase after.tick most)
