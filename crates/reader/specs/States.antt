-- "Reading goes from state to state, one tick after another, and stops for good at the deciding tick."
use Rattle.std.specs.Prelude.{◌+◌, ◌^◌, ◌<◌, Bool, true, false}
use Rattle.answer.specs.Types.{Attention}
use Rattle.transfer.specs.Moves.{stage, no_byte, finishing, released, heed, move}
use Rattle.transfer.specs.Phases.{Move, Go, Hand, Stop, next}
use Rattle.transfer.specs.Types.{Entry, Plain, Command, Limits, Lines, Tick, Phase, Start, Decided}
use Rattle.reader.specs.declared.state.State.{State}

-- Before tick 0.
abbrev pub first_state : State
first_state = record { phase = Start; tick = 0; count = 0 }

-- The state after a tick that hands a byte over: it is counted, and stands in the phase that the tick leaves.
abbrev pub handed_on : State → Phase → State
handed_on s phase = record { phase = phase; tick = s.tick + 1; count = s.count + 1 }

-- The state after a move. A deciding tick is not passed: it stays the state's tick.
unfoldable pub follow : State → Move → State
follow s (Go phase) = record { phase = phase; tick = s.tick + 1; count = s.count }
follow s (Hand byte phase) = handed_on s phase
follow s (Stop fault) = record { phase = Decided fault; tick = s.tick; count = s.count }

-- The state after a tick that is read by the rows of a phase. The phase stands beside the state, so that the method of one phase can
-- promise its rows.
abbrev pub read_in : Limits → State → Phase → Lines → State
read_in L s phase lines = follow s (next L s.tick phase lines.clk lines.«data»)

-- The state after a tick of commands with ATN released; and after one that may be the finish: which byte it hands over, the state does
-- not keep.
abbrev pub released_in : Limits → State → Phase → Lines → State
released_in L s phase lines = follow s (released L s.tick (stage phase) lines.clk lines.«data»)

abbrev pub finished_in : State → (too-soon : Bool) → Lines → State
finished_in s too-soon lines = follow s (finishing too-soon s.tick no_byte lines.clk lines.«data»)

-- What ATN means, in two: whether it leaves a tick to the rows, and the state after one that it does not.
abbrev pub is_under_way : Entry → (atn : Bool) → Bool
is_under_way entry atn = heed entry atn false true false

abbrev pub turned_in : Limits → State → Entry → Lines → State
turned_in L s Plain lines = follow s (Stop Attention)
turned_in L s Command lines = released_in L s s.phase lines

-- One tick.
unfoldable pub next_state : Limits → State → Tick → State
next_state L s tick = follow s (move L s.tick s.phase tick)

-- The next tick and the next count are 32-bit numbers.
pub record Countable (s : State) : Type 0 where
  pub tick : s.tick + 1 < 2 ^ 32
  pub count : s.count + 1 < 2 ^ 32
