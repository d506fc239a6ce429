-- How long a dump can be. Assumes nothing.
use Rattle.std.specs.Prelude.{ℕ, zero, suc, ◌+◌, ◌*◌, ◌/◌, ◌≤◌, Bool, true, false, List, [], ◌∷◌, ◌++◌, length, eqb, ltb}
use Rattle.std.specs.Prelude.{if◌then◌else◌}
use Rattle.answer.specs.Basics.{first_then}
use native.Mathlib.Omega.{arith}
use lib.ListN.{length-append}
use Rattle.recording.specs.{Types.Step, Ticks.Tick, Ticks.ticks, Ticks.total_ticks}
use Rattle.vcd.specs.{Text.decimal_in, Wires.bit_of, Wires.shown_in, Wires.value_text, Wires.change_text}
use Rattle.vcd.specs.Dump.{heading, time_text, tick_text, later_text, ticks_text, dump}
use Rattle.vcd.specs.declared.wires.Wire.{Wire}
use Rattle.vcd.specs.declared.wires.Wire.TheVariants.{Atn, Clk, Data, Srq, Lost}
use Rattle.vcd.proofs.TickLaws.{two_changes}

-- Two texts of which a test chooses.
chosen : (t : Bool) (a b : List ℕ) (most : ℕ) → length a ≤ most → length b ≤ most → length (if t then a else b) ≤ most
chosen true a b most ha hb = ha
chosen false a b most ha hb = hb

decimal_length : (most n : ℕ) → length (decimal_in most n) ≤ most
unfolding decimal_in
decimal_length zero n = omega arith
decimal_length (suc most) n =
    let rest = decimal_length most (n / 10) in
    chosen (ltb n 10) _ _ _ (omega arith) (simp length-append (omega arith))

change_length : (before shown : ℕ) (wire : Wire) → length (change_text before shown wire) ≤ 3
unfolding change_text value_text
change_length before shown wire = chosen (eqb (bit_of wire before) (bit_of wire shown)) _ _ _ (omega arith) (omega arith)

time_length : (tick : ℕ) → length (time_text tick) ≤ 12
unfolding time_text
time_length tick = let digits = decimal_length 10 tick in simp length-append (omega arith)

tick_length : (before tick shown : ℕ) → length (tick_text before tick shown) ≤ 27
unfolding tick_text
tick_length before tick shown =
    let time = time_length tick in
    let short = change_length before shown in
    chosen (eqb before shown) _ _ _ (omega arith)
    (simp length-append (omega (arith, short Atn, short Clk, short Data, short Srq, short Lost)))

-- A step, which has changes at two ticks at most, before the ticks of some more.
step_length : (n before tick : ℕ) (t u : Tick) (rest : List Tick) (more : ℕ)
    → ((before₁ tick₁ : ℕ) → length (later_text before₁ tick₁ rest) ≤ 54 * more)
    → length (later_text before tick (first_then n t u ++ rest)) ≤ 54 * suc more
step_length zero before tick t u rest more bound = omega (arith, bound before tick)
step_length (suc n) before tick t u rest more bound =
    let last = if ltb 1 (suc n) then shown_in u else shown_in t in
    let one = tick_length before tick (shown_in t) in
    let two = tick_length (shown_in t) (tick + 1) last in
    rw (two_changes before tick t u rest (suc n) (omega arith)) (simp length-append (omega (arith, bound last (tick + suc n))))

later_length : (steps : List Step) (before tick : ℕ) → length (later_text before tick (ticks steps)) ≤ 54 * length steps
unfolding later_text ticks
later_length [] before tick = omega arith
later_length (s ∷ steps) before tick = step_length s.duration before tick _ _ (ticks steps) (length steps) (later_length steps)

-- The values of the first tick, and the changes after it.
ticks_length : (all : List Tick) (most : ℕ) → ((before tick : ℕ) → length (later_text before tick all) ≤ most)
    → length (ticks_text all) ≤ 27 + most
unfolding ticks_text later_text value_text
ticks_length [] most bound = omega arith
ticks_length (t ∷ later) most bound =
    let time = time_length 0 in
    let rest = bound (shown_in t) 0 in
    simp length-append (omega (arith, simp length-append at rest))

pub dump_length : (steps : List Step) → length (dump steps) ≤ 54 * length steps + 300
unfolding dump heading
dump_length steps =
    let changes = ticks_length (ticks steps) (54 * length steps) (later_length steps) in
    let time = time_length (total_ticks steps) in
    simp length-append (omega arith)
