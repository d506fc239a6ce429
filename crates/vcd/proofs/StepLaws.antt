-- The text of a recording's ticks, a step at a time. Assumes nothing.
use Rattle.std.specs.Prelude.{ℕ, Ok, ◌+◌, ◌-◌, ◌≤◌, ◌<◌, List, [], ◌++◌, ◌≡◌}
use mathlib.Core.Path.{sym, ap, ◌∙◌}
use native.Mathlib.{Nat.sub-zero, Omega.arith}
use Rattle.recording.specs.{Types.Step, Form.form_of, GoodForm.GoodStep, Layout.header_at, Layout.step_at, Layout.most_steps}
use Rattle.recording.specs.Ticks.{steps_from, steps_of, total_ticks, ticks, ticks_of}
use Rattle.recording.proofs.{GoodFormLaws.good_form, StepLaws.ticks_begin, StepLaws.ticks_end, StepLaws.total_counts}
use Rattle.vcd.specs.{Wires.value_text, Wires.each_wire, Steps.shown_first, Steps.shown_last, Steps.step_text}
use Rattle.vcd.specs.Dump.{heading, time_text, later_text, ticks_text, dump}
use Rattle.vcd.proofs.TickLaws.{two_changes, first_values}

pub good_step : (file : List ℕ) (n i : ℕ) (s : Step) → form_of file ≡ Ok n → s ≡ step_at file i → i < n → GoodStep s
good_step file n i s good e left = rw e (((good_form file n).0 good).each i left)

pub few_steps : (file : List ℕ) (n : ℕ) → form_of file ≡ Ok n → n ≤ most_steps
few_steps file n good = ((good_form file n).0 good).few

-- The steps after the header are so many.
all_steps : (file : List ℕ) (n : ℕ) → form_of file ≡ Ok n → steps_of file ≡ steps_from file 0 (n - 0)
unfolding steps_of
all_steps file n good = rw (sub-zero n, ((good_form file n).0 good).counted)

-- The steps that are left, for a loop at step i of n.
abbrev pub left_text : (file : List ℕ) (n i before tick : ℕ) → List ℕ
left_text file n i before tick = later_text before tick (ticks (steps_from file i (n - i)))

module _ (file : List ℕ) (n : ℕ) (good : form_of file ≡ Ok n) where
  pub none_before : (first : ℕ) → later_text first 0 (ticks (steps_of file)) ≡ left_text file n 0 first 0
  none_before first = rw (all_steps file n good)

  -- Step i comes first; s is what was read there.
  pub step_goes_on : (i before tick : ℕ) (s : Step) → s ≡ step_at file i → i < n
      → left_text file n i before tick ≡ step_text before tick s ++ left_text file n (i + 1) (shown_last s) (tick + s.duration)
  unfolding step_text shown_first shown_last
  step_goes_on i before tick s e left =
      ap (later_text before tick) (ticks_begin file i n s e left)
      ∙ two_changes before tick _ _ _ s.duration (good_step file n i s good e left).lasts

  -- No step is left.
  pub steps_end : (i before tick : ℕ) → n ≤ i → left_text file n i before tick ≡ []
  unfolding later_text
  steps_end i before tick end = rw (ticks_end file i n end)

  pub no_steps : n ≡ 0 → ticks_text (ticks (steps_of file)) ≡ []
  unfolding ticks_text
  no_steps none = rw (all_steps file n good, ticks_end file 0 n (omega arith))

  pub first_step : (s : Step) → s ≡ step_at file 0 → 0 < n → (let all = ticks (steps_of file) in
      ticks_text all ≡ time_text 0 ++ (each_wire (value_text (shown_first s)) ++ later_text (shown_first s) 0 all))
  unfolding shown_first
  first_step s e some =
      rw (all_steps file n good, ticks_begin file 0 n s e some)
      (first_values s.duration _ _ _ (good_step file n 0 s good e some).lasts)

  -- The dump of a recording of good form.
  pub whole_dump : dump (steps_of file) ≡ heading ++ (ticks_text (ticks (steps_of file)) ++ time_text (header_at file).total)
  unfolding dump ticks_of
  whole_dump =
      let total : (header_at file).total ≡ total_ticks (steps_of file) =
      ((good_form file n).0 good).total ∙ sym (total_counts (steps_of file)) in
      rw total
