-- What the code's tests make of a tick, and the finish of commands. Assumes nothing.
use Rattle.std.specs.Prelude.{ℕ, ◌+◌, Bool, ◌≡◌, if◌then◌else◌}
use native.Mathlib.Omega.{arith}
use Rattle.std.proofs.lemmas.Bool.Decides.{nat_tests}
use Rattle.answer.specs.Types.{Overrun}
use Rattle.transfer.specs.Phases.{below, up_to, Stop}
use Rattle.transfer.specs.Moves.{finishing, move, is_decided, no_byte}
use Rattle.transfer.specs.Types.{Limits, Tick, Byte}
use Rattle.reader.specs.States.{follow, read_in, is_under_way, turned_in, next_state}
use Rattle.reader.specs.declared.state.State.{State}

-- The state does not keep which byte the finish hands over.
pub any_byte : (s : State) (too-soon : Bool) (byte : Byte) (c d : Bool)
    → follow s (finishing too-soon s.tick no_byte c d) ≡ follow s (finishing too-soon s.tick byte c d)
unfolding finishing follow
any_byte s too-soon byte c d = grind arith

-- In a carried handover the take is at offset 1.
pub from_offset_1 : (n since now : ℕ) → up_to n since now ≡ below n (since + 1) now
unfolding up_to below
from_offset_1 n since now = grind (arith, nat_tests)

-- A tick by the tests that `State::next` makes, in their order.
pub next_by_tests : (L : Limits) (s : State) (t : Tick) → next_state L s t
    ≡ (if is_decided s.phase then s
    else if t.marked then follow s (Stop Overrun)
    else if is_under_way L.entry t.lines.atn then read_in L s s.phase t.lines
    else turned_in L s L.entry t.lines)
unfolding next_state follow move
next_by_tests L s t = grind arith
