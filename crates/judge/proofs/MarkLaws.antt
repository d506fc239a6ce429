-- No step of a recording of good form is marked exactly if no tick of its tick list is. Assumes nothing.
use Rattle.std.specs.Prelude.{ℕ, zero, suc, ◌+◌, ◌≤◌, ◌<◌, Bool, false, List, [], ◌∷◌, ◌++◌, replicate, ◌≡◌, ◌↔◌}
use Rattle.answer.specs.Basics.{first_then}
use mathlib.Core.Path.{refl, subst, subst⁻¹}
use native.Mathlib.{Nat.zero-add, Omega.arith}
use Rattle.recording.specs.{Layout.step_at, Layout.is_marked, GoodForm.GoodStep, GoodForm.GoodForm}
use Rattle.recording.specs.Ticks.{steps_from, steps_of, ticks, NoStepMarked}
use Rattle.recording.proofs.GoodFormLaws.{each_more}
use Rattle.transfer.specs.{Types.Lines, Types.Tick, Lines.lines_of}
use Rattle.transfer.specs.Ticks.{tick, Unmarked}
use Rattle.transfer.specs.Spans.{span_ticks}
use Rattle.judge.specs.{Judged.tick_list, Reading.ticks_from}
use Rattle.judge.proofs.TickLists.{span, step_shows}

both_unmarked : (v w : List Tick) → Unmarked v → Unmarked w → Unmarked (v ++ w)
both_unmarked [] w a b = b
both_unmarked (t ∷ v) w a b = (a.0, both_unmarked v w a.1 b)

unmarked_both : (v w : List Tick) → Unmarked (v ++ w) → Unmarked v × Unmarked w
unmarked_both [] w u = (tt, u)
unmarked_both (t ∷ v) w u = let rest = unmarked_both v w u.1 in ((u.0, rest.0), rest.1)

-- The ticks of one step.
module _ (l : Lines) where
  others_unmarked : (n : ℕ) → Unmarked (replicate n (tick false l))
  others_unmarked zero = tt
  others_unmarked (suc n) = (refl, others_unmarked n)

  step_unmarked : (n : ℕ) (m : Bool) → m ≡ false → Unmarked (first_then n (tick m l) (tick false l))
  step_unmarked zero m e = tt
  step_unmarked (suc n) m e = (e, others_unmarked n)

  mark_shows : (n : ℕ) (m : Bool) → 1 ≤ n → Unmarked (first_then n (tick m l) (tick false l)) → m ≡ false
  mark_shows zero m h u = absurd (omega arith)
  mark_shows (suc n) m h u = u.0

-- The k steps from step i on.
steps_unmarked : (file : List ℕ) (k i : ℕ) → ((j : ℕ) → i ≤ j → j < i + k → is_marked (step_at file j) ≡ false)
    → Unmarked (ticks_from file i k)
unfolding steps_from ticks
steps_unmarked file zero i none = tt
steps_unmarked file (suc k) i none =
    let later = steps_unmarked file k (suc i) (λ j a b. none j (omega arith) (omega arith)) in
    let s = step_at file i in
    subst⁻¹ Unmarked (step_shows s (ticks (steps_from file (suc i) k)))
    (both_unmarked (span_ticks (span s)) (ticks_from file (suc i) k)
    (step_unmarked (lines_of s.lines) s.duration (is_marked s) (none i (omega arith) (omega arith))) later)

marks_show : (file : List ℕ) (k i : ℕ) → ((j : ℕ) → i ≤ j → j < i + k → GoodStep (step_at file j)) → Unmarked (ticks_from file i k)
    → (j : ℕ) → j < k → is_marked (step_at file (i + j)) ≡ false
unfolding steps_from ticks
marks_show file zero i good u = λ j h. absurd (omega arith)
marks_show file (suc k) i good u =
    let s = step_at file i in
    let parts = unmarked_both (span_ticks (span s)) (ticks_from file (suc i) k)
    (subst Unmarked (step_shows s (ticks (steps_from file (suc i) k))) u) in
    each_more (λ (j : ℕ). is_marked (step_at file j) ≡ false) i k
    (mark_shows (lines_of s.lines) s.duration (is_marked s) (good i (omega arith) (omega arith)).lasts parts.0)
    (marks_show file k (suc i) (λ j a b. good j (omega arith) (omega arith)) parts.1)

pub no_mark : (file : List ℕ) (n : ℕ) → GoodForm file n → NoStepMarked file ↔ Unmarked (tick_list file)
unfolding steps_of
no_mark file n good = (
  λ none. steps_unmarked file _ 0 (λ j a b. none j (omega arith)),
  λ u i h. rw zero-add at (marks_show file _ 0 (λ j a b. good.each j (omega (arith, good.counted))) u i h),
)
