-- Laws on lent memory that keeps what it held, and on a recording's ticks. Assumes nothing.
use Prim.Native.Nat.{ℕ, zero, suc, ◌+◌, ◌-◌, ◌≤◌}
use native.Mathlib.Nat.{le_of_suc-le-suc, eq-or-lt_of_le}
use native.Mathlib.Numerals.{add-one}
use native.Mathlib.Omega.{arith}
use mathlib.Core.List.{List}
use mathlib.Core.Logic.{⊎_elim}
use mathlib.Core.Path.{◌≡◌, ◌∙◌, refl, ap}
use lib.Seq.{drop-drop}
use Rattle.second_judge.specs.Promise.{Kept}
use Rattle.second_judge.specs.Recording.{duration, ticks}

-- ---- lent memory

pub kept_same : {k : ℕ} {a : List ℕ} → Kept k a a
kept_same = record { as_long = refl; the_same = refl }

pub kept_both : {k : ℕ} {a b c : List ℕ} → Kept k a b → Kept k b c → Kept k a c
kept_both first next =
    record { as_long = next.as_long ∙ first.as_long; the_same = next.the_same ∙ first.the_same }

-- what is kept from one place on is kept from a later place on
pub kept_from : {j k : ℕ} {a b : List ℕ} → j ≤ k → Kept j a b → Kept k a b
kept_from {j} {k} {a} {b} later kept =
    let there : k ≡ j + (k - j) = omega arith in
    record {
      as_long = kept.as_long;
      the_same = rw (there, ← drop-drop (k - j) j b, ← drop-drop (k - j) j a, kept.the_same);
    }

-- ---- a recording's ticks

pub ticks_none : (file : List ℕ) → ticks file 0 ≡ 0
unfolding ticks
ticks_none file = refl

pub ticks_more : (file : List ℕ) (step : ℕ) → ticks file (step + 1) ≡ ticks file step + duration file step
unfolding ticks
ticks_more file step = ap (ticks file) (add-one step)

pub ticks_grow : (file : List ℕ) (step steps : ℕ) → step ≤ steps → ticks file step ≤ ticks file steps
ticks_grow file step zero h =
    let same : step ≡ 0 = omega arith in
    omega (arith, ap (ticks file) same)
ticks_grow file step (suc steps) h =
    let more : ticks file (suc steps) ≡ ticks file steps + duration file steps = unfold ticks in refl in
    ⊎_elim (λ same. omega (arith, ap (ticks file) same))
    (λ sooner. omega (arith, ticks_grow file step steps (le_of_suc-le-suc sooner), more))
    (eq-or-lt_of_le h)
