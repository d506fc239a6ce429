-- The reading of a recording as its functions go: what each of them promises to the entry.
use Rattle.std.specs.Prelude.{ℕ, ◌+◌, ◌*◌, ◌^◌, ◌≤◌, ◌<◌, List, length, set, ◌≡◌, eqb, if◌then◌else◌}
use Rattle.answer.specs.{Types.Answer, Answers.◌over◌}
use Rattle.recording.specs.{Types.Step, Ticks.steps_from}
use Rattle.reader.specs.{After.state_after, After.handed_over, States.first_state}
use Rattle.transfer.specs.{Types.Limits, Types.Tick, Pair.values, Moves.held_byte, Moves.decision_of}
use Rattle.reader.specs.declared.state.State.{State}
use Rattle.judge.specs.Judged.{byte_room, ledger_room, ticks_shown, two_ticks, verdict_answer}

-- The byte buffer and the ledger after a tick from s to t: the byte that it handed over, if it did, stands at its place.
abbrev pub with_byte : (bytes : List ℕ) (s t : State) → List ℕ
with_byte bytes s t = if eqb t.count s.count then bytes else set bytes s.count (held_byte s.phase).value

abbrev pub with_ticks : (ledger : List ℕ) (s t : State) → List ℕ
with_ticks ledger s t =
    if eqb t.count s.count then ledger
    else set (set ledger (2 * s.count) (held_byte s.phase).let_go) (2 * s.count + 1) (held_byte s.phase).take

-- That byte has its places, and its ticks are 32-bit numbers.
pub record Storable (bytes ledger : List ℕ) (s t : State) : Type 0 where
  pub byte_place : s.count < length bytes
  pub ledger_place : 2 * s.count + 1 < length ledger
  pub take : (t.count ≡ s.count → ⊥) → (held_byte s.phase).take < 2 ^ 32

-- Enough room is lent.
pub record RoomLent (bytes ledger : List ℕ) : Type 0 where
  pub byte_room_lent : byte_room ≤ length bytes
  pub ledger_room_lent : ledger_room ≤ length ledger

-- What each tick of the n steps from step i on shows.
abbrev pub ticks_from : (file : List ℕ) (i n : ℕ) → List Tick
ticks_from file i n = ticks_shown (steps_from file i n)

-- A state of the reading, and both lent buffers with it.
pub record Reached : Type 0 where
  pub state : State
  pub bytes : List ℕ
  pub ledger : List ℕ

abbrev pub reached : State → (bytes ledger : List ℕ) → Reached
reached s bytes ledger = record { state = s; bytes = bytes; ledger = ledger }

-- A tick list read from tick 0 on into lent buffers.
unfoldable pub read_into : Limits → List Tick → (bytes ledger : List ℕ) → Reached
read_into L w bytes ledger =
    let handed = handed_over L first_state w in
    reached (state_after L first_state w) (values handed over bytes) (two_ticks handed over ledger)

-- The answer where the recording runs out, or a verdict fell, in a state.
abbrev pub state_answer : List Step → State → Answer
state_answer steps s = verdict_answer steps (decision_of s.phase s.tick) s.count
