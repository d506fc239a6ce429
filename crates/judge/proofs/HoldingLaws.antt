-- The step that holds a tick: what it is, and the laws by which the search for it goes. Assumes nothing.
use Rattle.std.specs.Prelude.{ℕ, zero, suc, ◌+◌, ◌-◌, ◌≤◌, ◌<◌, Bool, true, false, List, [], ◌∷◌, length, ◌≡◌, ltb, if◌then◌else◌}
use mathlib.Core.Path.{refl, sym, ap, subst, ◌∙◌}
use native.Mathlib.Omega.{arith}
use borrow.Author.Tests.{ltb-true, ltb-false, lt-ltb, le-ltb}
use Rattle.recording.specs.{Types.Step, Layout.header_at, Layout.step_at, GoodForm.GoodForm}
use Rattle.recording.specs.Ticks.{steps_from, steps_of, total_ticks, ticks_of}
use Rattle.recording.proofs.StepLaws.{steps_count, total_counts}
use Rattle.judge.specs.{Judged.step_holding, Mission.Holds}
use Rattle.judge.proofs.JudgedLaws.{good_steps}

-- The first of some steps holds the tick, or it doesn't.
first_holds : (tick : ℕ) (s : Step) (steps : List Step) → tick < s.duration → step_holding tick (s ∷ steps) ≡ 0
unfolding step_holding
first_holds tick s steps h = rw (lt-ltb tick s.duration h)

later_holds : (tick : ℕ) (s : Step) (steps : List Step) → s.duration ≤ tick
    → step_holding tick (s ∷ steps) ≡ suc (step_holding (tick - s.duration) steps)
unfolding step_holding
later_holds tick s steps h = rw (le-ltb tick s.duration h)

-- A tick before the end is held by a step that has begun by then and is not over.
module _ (file : List ℕ) where
  holds_from : (n i tick : ℕ) → tick < total_ticks (steps_from file i n) → (let k = step_holding tick (steps_from file i n) in
      (k < n) × (total_ticks (steps_from file i k) ≤ tick) × (tick < total_ticks (steps_from file i (suc k))))
  unfolding total_ticks steps_from step_holding
  holds_from zero i tick h = absurd (omega arith)
  holds_from (suc n) i tick h = by_test (holds_from n (suc i) (tick - d)) (ltb tick d) refl
    where
      d : ℕ
      d = (step_at file i).duration

      later : ℕ
      later = step_holding (tick - d) (steps_from file (suc i) n)

      by_test : (tick - d < total_ticks (steps_from file (suc i) n)
          → (later < n) × (total_ticks (steps_from file (suc i) later) ≤ tick - d)
          × (tick - d < total_ticks (steps_from file (suc i) (suc later))))
          → (t : Bool) → ltb tick d ≡ t → (let k = if t then 0 else suc later in
          (k < suc n) × (total_ticks (steps_from file i k) ≤ tick) × (tick < total_ticks (steps_from file i (suc k))))
      by_test rest true e = (omega arith, omega arith, omega (arith, ltb-true tick d e))
      by_test rest false e =
          let past = ltb-false tick d e in
          let r = rest (omega arith) in
          (omega (arith, r.0), omega (arith, r.1), omega (arith, r.2))

  pub held_by_step : (tick : ℕ) → tick < total_ticks (steps_of file) → Holds file tick (step_holding tick (steps_of file))
  unfolding steps_of
  held_by_step tick h =
      let r = holds_from (header_at file).steps 0 tick h in
      record { in_file = r.0; begun = r.1; not_over = r.2 }

-- The step is the only one.
module _ (file : List ℕ) where
  one_more : (n i : ℕ) → total_ticks (steps_from file i (suc n)) ≡ total_ticks (steps_from file i n) + (step_at file (i + n)).duration
  unfolding total_ticks steps_from
  one_more zero i = let here : i + 0 ≡ i = omega arith in rw here (omega arith)
  one_more (suc n) i = let there : i + suc n ≡ suc i + n = omega arith in rw there (omega (arith, one_more n (suc i)))

  is_held : (k n i tick : ℕ) → k < n → total_ticks (steps_from file i k) ≤ tick → tick < total_ticks (steps_from file i (suc k))
      → step_holding tick (steps_from file i n) ≡ k
  unfolding total_ticks steps_from
  is_held k zero i tick h a b = absurd (omega arith)
  is_held zero (suc n) i tick h a b = first_holds tick _ _ (omega arith)
  is_held (suc k) (suc n) i tick h a b =
      later_holds tick _ _ (omega arith)
      ∙ ap suc (is_held k n (suc i) (tick - (step_at file i).duration) (omega arith) (omega arith) (omega arith))

-- No step holds the tick at the end, nor a later one.
past_the_end : (tick : ℕ) (steps : List Step) → total_ticks steps ≤ tick → step_holding tick steps ≡ length steps
unfolding total_ticks step_holding
past_the_end tick [] h = refl
past_the_end tick (s ∷ steps) h = later_holds tick s steps (omega arith) ∙ ap suc (past_the_end (tick - s.duration) steps (omega arith))

pub held_at_the_end : (steps : List Step) → step_holding (total_ticks steps) steps ≡ length steps
held_at_the_end steps = past_the_end (total_ticks steps) steps (omega arith)

-- The search, back from the end of the n steps.
module _ (file : List ℕ) (n tick : ℕ) where
  -- i steps are still before it, which end at tick `end`: if the tick is none of theirs, the step that begins there holds it.
  pub record Back (i end : ℕ) : Type 0 where
    pub few : i ≤ n
    pub ends : end ≡ total_ticks (steps_from file 0 i)
    pub held : end ≤ tick → step_holding tick (steps_from file 0 n) ≡ i

  pub all_before : GoodForm file n → (end : ℕ) → end ≡ (header_at file).total → Back n end
  unfolding ticks_of
  all_before good end e =
      let total : end ≡ total_ticks (steps_from file 0 n) =
      e ∙ good.total ∙ sym (total_counts (steps_of file)) ∙ ap total_ticks (good_steps file n good) in
      record { few = omega arith; ends = total; held = λ p. past_the_end tick _ (omega (arith, total)) ∙ steps_count file n 0 }

  -- None is: the first step holds it.
  pub none_before : (i end : ℕ) → Back i end → i ≤ 0 → 0 ≡ step_holding tick (steps_from file 0 n)
  unfolding steps_from total_ticks
  none_before zero end b h = sym (b.held (omega (arith, b.ends)))
  none_before (suc i) end b h = absurd (omega (arith, h))

  -- The last of them, where the tick is before its end.
  pub some_before : (i end : ℕ) → Back i end → tick < end → 1 ≤ i
  unfolding steps_from total_ticks
  some_before zero end b h = absurd (omega (arith, b.ends))
  some_before (suc i) end b h = omega arith

  pub step_before : (i end : ℕ) (s : Step) → Back i end → tick < end → s ≡ step_at file (i - 1)
      → (s.duration ≤ end) × Back (i - 1) (end - s.duration)
  step_before i end s b h e =
      let k = i - 1 in
      let one : suc k ≡ i = omega (arith, some_before i end b h) in
      let here : 0 + k ≡ k = omega arith in
      let last : total_ticks (steps_from file 0 i) ≡ total_ticks (steps_from file 0 k) + s.duration =
      ap (λ (j : ℕ). total_ticks (steps_from file 0 j)) (sym one) ∙ one_more file k 0 ∙ rw (here, e) in
      let over : tick < total_ticks (steps_from file 0 (suc k)) =
      subst (λ (j : ℕ). tick < total_ticks (steps_from file 0 j)) (sym one) (omega (arith, b.ends)) in (
        omega (arith, last, b.ends),
        record {
          few = omega (arith, b.few);
          ends = omega (arith, last, b.ends);
          held = λ p. is_held file k n 0 tick (omega (arith, one, b.few)) (omega (arith, last, b.ends)) over;
        },
      )
