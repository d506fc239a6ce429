-- Where the tick of a decision lies: at the end for a cut, otherwise inside the recording. Assumes nothing.
use Rattle.std.specs.Prelude.{ℕ, suc, ◌+◌, ◌≤◌, ◌<◌, Bool, true, false, List, [], ◌∷◌, length, ◌≡◌}
use native.Mathlib.Omega.{arith}
use mathlib.Core.Bool.{true≢false}
use mathlib.Core.Path.{refl, sym, ap, ◌∙◌}
use Rattle.transfer.specs.Outcome.{onward, run, outcome}
use Rattle.transfer.specs.Moves.{cut_at, Stage, Running, Holding, Ended, Past, Fallen, stage, has_fallen, is_decided, decision_in}
use Rattle.transfer.specs.Phases.{Move, Go, Hand, Stop}
use Rattle.transfer.specs.Types.{Limits, Tick, Phase, Start, Decision}
use Rattle.answer.specs.Types.{Verdict, Complete, Cut, Broken}
use Rattle.transfer.proofs.Stages.{undecided}
use Rattle.transfer.proofs.Rows.{Climbs, stops, goes, hands, climbs, settled, finished_in, latest_in, finished, latest}

no_later : (g : Stage) (now : ℕ) → finished_in g ≤ now → latest_in g now ≤ suc now
no_later Running now h = omega arith
no_later (Holding byte) now h = omega arith
no_later (Ended finish) now h = omega arith
no_later (Past finish) now h = omega arith
no_later (Fallen fault) now h = omega arith

-- The decision in a state: cut at the next tick, or inside.
record Placed (d : Decision) (n : ℕ) : Type 0 where
  cut : d.verdict ≡ Cut → d.tick ≡ n
  inside : (d.verdict ≡ Cut → ⊥) → d.tick < n

cut_at_lem : (tick n : ℕ) → tick ≡ n → Placed (cut_at tick) n
cut_at_lem tick n e = record { cut = λ v. e; inside = λ h. absurd (h refl) }

-- Whether a verdict is a cut.
abbrev is_cut : Verdict → Bool
is_cut Complete = false
is_cut Cut = true
is_cut (Broken fault) = false

not_cut : (d : Decision) (n : ℕ) → is_cut d.verdict ≡ false → d.tick < n → Placed d n
not_cut d n e h = record { cut = λ v. absurd (true≢false (ap is_cut (sym v) ∙ e)); inside = λ v. h }

decision_in_lem : (g : Stage) (tick n : ℕ) → (has_fallen g ≡ false → tick ≡ n) → (has_fallen g ≡ true → tick < n) → finished_in g ≤ n
    → Placed (decision_in g tick) n
decision_in_lem Running tick n u d f = cut_at_lem tick n (u refl)
decision_in_lem (Holding byte) tick n u d f = cut_at_lem tick n (u refl)
decision_in_lem (Ended finish) tick n u d f = not_cut _ n refl (omega arith)
decision_in_lem (Past finish) tick n u d f = not_cut _ n refl (omega arith)
decision_in_lem (Fallen fault) tick n u d f = not_cut _ n refl (d refl)

-- From a phase that is not decided, and whose finish tick has been read, if it is the end.
module _ (L : Limits) where
  abbrev Lies : List Tick → Type 0
  Lies w = (now : ℕ) (p : Phase) → is_decided p ≡ false → finished p ≤ now → Placed (run L now p w).decision (now + length w)

  -- One more tick.
  module _ (w : List Tick) (ih : Lies w) (t : Tick) (now : ℕ) (p : Phase) (f : finished p ≤ now) where
    beyond : (q : Phase) → is_decided q ≡ false → finished q ≤ latest p now → Placed (run L (suc now) q w).decision (now + suc (length w))
    beyond q u h =
        let z : now + suc (length w) ≡ suc now + length w = omega arith in
        rw z (ih (suc now) q u (omega (arith, no_later (stage p) now f)))

    moved : (x : Move) → Climbs now p (settled L.entry t.lines) x
        → Placed (onward x now (λ (q : Phase). run L (suc now) q w)).decision (now + suc (length w))
    moved (Stop fault) stops = not_cut _ _ refl (omega arith)
    moved (Go q) (goes a h e) = beyond q (undecided L.entry q t.lines e) h
    moved (Hand b q) (hands a h e held taken) = beyond q (undecided L.entry q t.lines e) h

  lies : (w : List Tick) → Lies w
  unfolding run
  lies [] now p u f =
      let z : now + 0 ≡ now = omega arith in
      rw z (decision_in_lem (stage p) now now (λ e. refl) (λ e. absurd (true≢false (sym e ∙ u))) f)
  lies (t ∷ w) now p u f = moved w (lies w) t now p f _ (climbs L now p t)

-- "20: the finish tick; 22: total ticks", any other verdict the deciding tick: all but 22's are ticks that were read.
pub record DecisionTick (L : Limits) (w : List Tick) : Type 0 where
  pub cut : (outcome L w).decision.verdict ≡ Cut → (outcome L w).decision.tick ≡ length w
  pub inside : ((outcome L w).decision.verdict ≡ Cut → ⊥) → (outcome L w).decision.tick < length w

pub decision_tick : (L : Limits) (w : List Tick) → DecisionTick L w
decision_tick L w =
    let z : 0 + length w ≡ length w = omega arith in
    let placed = rw z at (lies L w 0 Start refl (omega arith)) in
    record { cut = placed.cut; inside = placed.inside }
