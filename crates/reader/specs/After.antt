-- A tick list read from a state on.
use Rattle.std.specs.Prelude.{List, [], ◌∷◌, ◌++◌, ◌≡◌, eqb, if◌then◌else◌}
use Rattle.transfer.specs.{Types.Limits, Types.Tick, Types.Byte, Moves.held_byte, Moves.decision_of, Outcome.Outcome, Outcome.outcome}
use Rattle.reader.specs.States.{first_state, next_state}
use Rattle.reader.specs.declared.state.State.{State}

-- The state after the ticks.
unfoldable pub state_after : Limits → State → List Tick → State
state_after L s [] = s
state_after L s (t ∷ w) = state_after L (next_state L s t) w

-- The byte that a tick from s to t handed over, if it did: the count rose, and the byte stood in the phase that the tick left.
abbrev pub handed_in : (s t : State) → List Byte
handed_in s t = if eqb t.count s.count then [] else (held_byte s.phase ∷ [])

-- The bytes that the ticks hand over, in order.
unfoldable pub handed_over : Limits → State → List Tick → List Byte
handed_over L s [] = []
handed_over L s (t ∷ w) = handed_in s (next_state L s t) ++ handed_over L (next_state L s t) w

-- The outcome of the ticks that are read from a state on.
abbrev pub outcome_from : Limits → State → List Tick → Outcome
outcome_from L s w =
    let end = state_after L s w in
    record { decision = decision_of end.phase end.tick; bytes = handed_over L s w }

-- What the states come to from tick 0 on is the outcome of the tick list.
abbrev pub OutcomeLaw : Type 0
OutcomeLaw = (L : Limits) (w : List Tick) → outcome L w ≡ outcome_from L first_state w
