-- The loop's invariant: the sum of the durations is that of the steps passed, at most 65,535 for each, and each of these
-- lasts a tick or more. Assumes nothing.
use Rattle.std.proofs.Common.{◌≡◌, ◌*◌, ◌≤◌, ◌<◌, ℕ}
use Rattle.second_judge.specs.Recording.{duration, ticks}
use Rattle.second_judge.proofs.testing.test_steps.Given as goal

abbrev pub invariant-loop-step : goal.invariant-loop-step
invariant-loop-step l =
    (l.total ≤ 65535 * l.step-counter) × (l.total ≡ ticks l.file l.step-counter)
    × ((k : ℕ) → k < l.step-counter → 0 < duration l.file k)
