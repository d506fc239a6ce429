-- The text of ticks that are the same from the second on, as those of a step are. Assumes nothing.
use Rattle.std.specs.Prelude.{ℕ, zero, suc, ◌+◌, ◌≤◌, List, [], ◌++◌, replicate, ◌≡◌, ltb, if◌then◌else◌}
use Rattle.answer.specs.Basics.{first_then}
use mathlib.Core.Path.{refl}
use mathlib.Core.List.{append_assoc, append-nil}
use native.Mathlib.{Nat.add-zero, Omega.arith}
use borrow.Author.Tests.{lt-ltb, eq-eqb}
use Rattle.recording.specs.Ticks.{Tick}
use Rattle.vcd.specs.{Wires.shown_in, Wires.value_text, Wires.each_wire}
use Rattle.vcd.specs.Dump.{time_text, tick_text, later_text, ticks_text}

-- Nothing changes in a tick that shows what was shown before it.
same_tick : (tick shown : ℕ) → tick_text shown tick shown ≡ []
unfolding tick_text
same_tick tick shown = rw (eq-eqb shown shown refl)

same_ticks : (n tick : ℕ) (t : Tick) (rest : List Tick)
    → later_text (shown_in t) tick (replicate n t ++ rest) ≡ later_text (shown_in t) (tick + n) rest
unfolding later_text
same_ticks zero tick t rest = rw (add-zero tick)
same_ticks (suc n) tick t rest =
    let place : tick + 1 + n ≡ tick + suc n = omega arith in
    rw (same_tick tick (shown_in t), ← place) (same_ticks n (tick + 1) t rest)

-- So these have changes at the first two at most.
module _ (before tick : ℕ) (t u : Tick) (rest : List Tick) where
  pub two_changes : (n : ℕ) → 1 ≤ n → (let last = if ltb 1 n then shown_in u else shown_in t in
      later_text before tick (first_then n t u ++ rest)
      ≡ (tick_text before tick (shown_in t) ++ tick_text (shown_in t) (tick + 1) last) ++ later_text last (tick + n) rest)
  unfolding later_text
  two_changes zero some = absurd (omega arith)
  two_changes (suc zero) some = rw (same_tick (tick + 1) (shown_in t), append-nil)
  two_changes (suc (suc n)) some =
      let place : tick + 1 + 1 + n ≡ tick + suc (suc n) = omega arith in
      rw (lt-ltb 1 (suc (suc n)) (omega arith), same_ticks n (tick + 1 + 1) u rest, place, append_assoc)

-- The first tick shows every wire, and nothing changes in it.
pub first_values : (n : ℕ) (t u : Tick) (rest : List Tick) → 1 ≤ n → (let all = first_then n t u ++ rest in
    ticks_text all ≡ time_text 0 ++ (each_wire (value_text (shown_in t)) ++ later_text (shown_in t) 0 all))
unfolding ticks_text later_text
first_values zero t u rest some = absurd (omega arith)
first_values (suc n) t u rest some = rw (same_tick 0 (shown_in t))
