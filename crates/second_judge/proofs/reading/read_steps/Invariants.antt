-- The loop's invariant: the lent memory is kept from the count on; the tick is the sum of the durations passed, at most 65,535 for each,
-- so that no sum wraps; a phase begins no later than the tick and the step, and E sooner and with the lines at rest since; the reading
-- stands where the entry may; there are at most a bit and at most a byte handed over for each step passed, and none of these is marked.
-- Assumes nothing.
use Rattle.std.proofs.Common.{◌≡◌, ◌<◌, ℕ, ◌+◌, ◌*◌, ◌≤◌}
use Rattle.second_judge.specs.declared.phase.Phase.TheVariants.{End}
use Rattle.second_judge.specs.Phases.{Stands}
use Rattle.second_judge.specs.Promise.{Kept}
use Rattle.second_judge.specs.Recording.{AtRest, lines, ticks, Unmarked}
use Rattle.second_judge.proofs.reading.read_steps.Given as goal

abbrev pub invariant-loop-step : goal.invariant-loop-step
invariant-loop-step l =
    record {
      bytes_kept : Kept l.count l.initial.bytes l.bytes;
      ledger_kept : Kept (2 * l.count) l.initial.ledger l.ledger;
      few_ticks : l.tick ≤ 65535 * l.step;
      passed : l.tick ≡ ticks l.file l.step;
      since : l.place.since ≤ l.tick;
      since_step : l.place.since_step ≤ l.step;
      at_rest : l.place.phase ≡ End → (l.place.since < l.tick) × (l.place.since_step < l.step)
          × ((last : ℕ) → last + 1 ≡ l.step → AtRest l.entry (lines l.file last));
      stands : Stands l.entry l.place.phase;
      few_bits : l.byte.bits ≤ l.step;
      few_bytes : l.count ≤ l.step;
      unmarked : Unmarked l.file l.step;
    }
