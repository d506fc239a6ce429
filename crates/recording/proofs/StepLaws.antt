-- How the steps of a recording, and their ticks, go on by one step: for a loop at step i of n. Assumes nothing.
use Rattle.std.specs.Prelude.{ℕ, zero, suc, ◌+◌, ◌-◌, ◌≤◌, ◌<◌, false, List, [], ◌∷◌, ◌++◌, length, replicate, get_or, ◌≡◌}
use Rattle.answer.specs.Basics.{first_then}
use mathlib.Core.Path.{refl, ap}
use native.Mathlib.{Numerals.add-one, Omega.arith}
use lib.ListN.{length-append, length-replicate}
use Rattle.recording.specs.{Types.Step, Layout.step_at, Layout.is_marked}
use Rattle.recording.specs.Ticks.{steps_from, total_ticks, Tick, tick, step_ticks, ticks, FirstTickLaw}

one_less : (i n : ℕ) → i < n → n - i ≡ suc (n - (i + 1))
one_less i n h = omega arith

-- Step i is left; s is what was read there.
pub steps_begin : (file : List ℕ) (i n : ℕ) (s : Step) → s ≡ step_at file i → i < n
    → steps_from file i (n - i) ≡ s ∷ steps_from file (i + 1) (n - (i + 1))
unfolding steps_from
steps_begin file i n s e h = rw (one_less i n h, e, add-one i)

-- No step is left.
pub steps_end : (file : List ℕ) (i n : ℕ) → n ≤ i → steps_from file i (n - i) ≡ []
unfolding steps_from
steps_end file i n h = let z : n - i ≡ 0 = omega arith in rw z

pub steps_count : (file : List ℕ) (n i : ℕ) → length (steps_from file i n) ≡ n
unfolding steps_from
steps_count file zero i = refl
steps_count file (suc n) i = ap suc (steps_count file n (suc i))

pub ticks_begin : (file : List ℕ) (i n : ℕ) (s : Step) → s ≡ step_at file i → i < n
    → ticks (steps_from file i (n - i)) ≡ step_ticks s ++ ticks (steps_from file (i + 1) (n - (i + 1)))
unfolding ticks
ticks_begin file i n s e h = ap ticks (steps_begin file i n s e h)

pub ticks_end : (file : List ℕ) (i n : ℕ) → n ≤ i → ticks (steps_from file i (n - i)) ≡ []
unfolding ticks
ticks_end file i n h = ap ticks (steps_end file i n h)

pub first_then_length : {A : Type 0} (n : ℕ) (first other : A) → length (first_then n first other) ≡ n
first_then_length zero first other = refl
first_then_length (suc n) first other = ap suc (length-replicate n other)

-- The durations count the ticks.
pub total_counts : (steps : List Step) → total_ticks steps ≡ length (ticks steps)
unfolding total_ticks ticks
total_counts [] = refl
total_counts (s ∷ ss) =
    let rest = total_counts ss in
    simp (length-append, first_then_length) (omega arith)

-- Only the first tick of a step has its mark.
same_all : {A : Type 0} (n k : ℕ) (x beyond : A) → k < n → get_or (replicate n x) k beyond ≡ x
same_all zero k x beyond h = absurd (omega arith)
same_all (suc n) zero x beyond h = refl
same_all (suc n) (suc k) x beyond h = same_all n k x beyond (omega arith)

pub first_tick : FirstTickLaw
first_tick s = record { first = first s.duration; later = later s.duration }
  where
    shows : ℕ → List Tick
    shows n = first_then n (tick (is_marked s) s.lines) (tick false s.lines)

    first : (n : ℕ) (beyond : Tick) → 1 ≤ n → (get_or (shows n) 0 beyond).marked ≡ is_marked s
    first zero beyond h = absurd (omega arith)
    first (suc n) beyond h = refl

    later : (n k : ℕ) (beyond : Tick) → suc k < n → (get_or (shows n) (suc k) beyond).marked ≡ false
    later zero k beyond h = absurd (omega arith)
    later (suc n) k beyond h = ap (λ (t : Tick). t.marked) (same_all n k _ beyond (omega arith))

-- Two lists of steps, one after the other.
pub total_append : (xs ys : List Step) → total_ticks (xs ++ ys) ≡ total_ticks xs + total_ticks ys
unfolding total_ticks
total_append [] ys = omega arith
total_append (x ∷ xs) ys = let rest = total_append xs ys in omega arith
