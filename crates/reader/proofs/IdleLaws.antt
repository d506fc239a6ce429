-- Idle ticks: after a tick that goes on, the same lines keep the phase until its own limit. Assumes nothing.
use Rattle.std.specs.Prelude.{ℕ, zero, suc, ◌+◌, ◌≤◌, ◌<◌, Bool, true, false, ◌++◌, replicate, ◌≡◌}
use Rattle.std.proofs.lemmas.Bool.Decides.{nat_tests}
use native.Mathlib.Omega.{arith}
use mathlib.Core.Path.{refl, sym, ap, ◌∙◌}
use borrow.Author.Tests.{eq-eqb}
use Rattle.transfer.specs.Moves.{stage, is_decided, released, move}
use Rattle.transfer.specs.Ticks.{tick}
use Rattle.transfer.specs.Phases.{below, Go, next, same}
use Rattle.transfer.specs.Types.{Limits, Lines, Tick, Phase}
use Rattle.reader.specs.{States.follow, States.next_state, After.state_after, After.handed_in, After.handed_over}
use Rattle.reader.specs.Idle.{ticks_below, Lasts, always, until, lasts, ticks_in, idle_ticks, later, Idle, IdleLaw}
use Rattle.reader.specs.declared.state.State.{State}
use Rattle.transfer.proofs.Stages.{undecided, undecided_move}
use Rattle.transfer.proofs.Rows.{climbs, rests, is_past, settled}

-- The ticks below an offset: there are no more than were asked for, and each of them is below it.
few_below : (n since now most : ℕ) → ticks_below n since now most ≤ most
unfolding ticks_below
few_below n since now most = grind (arith, nat_tests)

each_below : (n since now most j : ℕ) → j < ticks_below n since now most → below n since (now + j) ≡ true
unfolding ticks_below below
each_below n since now most j h = grind (arith, nat_tests)

few_idle : (x : Lasts) (now most : ℕ) → ticks_in x now most ≤ most
few_idle always now most = omega arith
few_idle (until n since) now most = few_below n since now most

-- The lines that a phase is settled in keep it at each idle tick.
kept_row : (L : Limits) (p : Phase) (c d : Bool) (now most j : ℕ) → rests p c d ≡ true → j < idle_ticks L p now most
    → next L (now + j) p c d ≡ Go p
unfolding next same
kept_row L p c d now most j e h = grind (arith, each_below)

-- After the finish any lines keep the phase.
kept_past : (L : Limits) (p : Phase) (c d : Bool) (now : ℕ) → is_past (stage p) ≡ true → released L now (stage p) c d ≡ Go p
kept_past L p c d now e = grind arith

kept : (L : Limits) (p : Phase) (l : Lines) (now most j : ℕ) → settled L.entry l p ≡ true → j < idle_ticks L p now most
    → move L (now + j) p (tick false l) ≡ Go p
kept L p l now most j e h =
    undecided_move L (now + j) p l (undecided L.entry p l e)
    ∙ grind (arith, kept_row L p l.clk l.«data» now most j, kept_past L p l.clk l.«data» (now + j))

-- A tick that decided nothing led to a phase that its lines are settled in.
pub led : (L : Limits) (s : State) (t : Tick) → is_decided (next_state L s t).phase ≡ false
    → settled L.entry t.lines (next_state L s t).phase ≡ true
unfolding next_state follow
led L s t u = grind (arith, climbs L s.tick s.phase t)

-- The same state at another tick.
abbrev at_tick : State → ℕ → State
at_tick s n = record { phase = s.phase; tick = n; count = s.count }

-- A tick that keeps the phase.
one_later : (L : Limits) (t : Tick) (s : State) (j : ℕ)
    → move L (s.tick + j) s.phase t ≡ Go s.phase → next_state L (later s j) t ≡ later s (suc j)
unfolding next_state follow
one_later L t s j e = rw e (ap (at_tick s) (omega arith))

-- Ticks that each keep the phase, one after another.
idles : (L : Limits) (l : Lines) (k : ℕ) (s : State)
    → ((j : ℕ) → j < k → next_state L (later s j) (tick false l) ≡ later s (suc j)) → Idle L s l k
unfolding state_after handed_over
idles L l zero s e =
    let none : s ≡ later s 0 = ap (at_tick s) (omega arith) in
    record { state = λ w. ap (λ (t : State). state_after L t w) none; bytes = λ w. ap (λ (t : State). handed_over L t w) none }
idles L l (suc k) s e =
    let none : s.tick + 0 ≡ s.tick = omega arith in
    let first : next_state L s (tick false l) ≡ later s 1 =
    ap (λ n. next_state L (at_tick s n) (tick false l)) (sym none) ∙ e 0 (omega arith) in
    let each : (j : ℕ) → j < k → next_state L (later (later s 1) j) (tick false l) ≡ later (later s 1) (suc j) = λ j h.
    ap (λ n. next_state L (at_tick s n) (tick false l)) (omega arith) ∙ e (suc j) (omega arith) ∙ ap (at_tick s) (omega arith) in
    let rest = idles L l k (later s 1) each in
    let further : later (later s 1) k ≡ later s (suc k) = ap (at_tick s) (omega arith) in
    record {
      state = λ w.
          ap (λ (t : State). state_after L t (replicate k (tick false l) ++ w)) first
          ∙ rest.state w
          ∙ ap (λ (t : State). state_after L t w) further;
      bytes = λ w.
          ap (λ (t : State). handed_in s t ++ handed_over L t (replicate k (tick false l) ++ w)) first
          ∙ rw (eq-eqb s.count s.count refl) (rest.bytes w ∙ ap (λ (t : State). handed_over L t w) further);
    }

pub idle_law : IdleLaw
idle_law L s t most =
    let after = next_state L s t in
    let l = t.lines in
    record {
      few = few_idle (lasts L after.phase) after.tick most;
      idle = λ u.
          let at = led L s t u in
          idles L l _ after (λ j h. one_later L (tick false l) after j (kept L after.phase l after.tick most j at h));
    }
