-- What is left to decide decides the whole, and the sum fits.
use Rattle.std.proofs.Common.{◌*◌}
use Rattle.std.specs.Prelude.{◌≤◌, ◌≡◌}
use Rattle.recording.specs.{Layout.longest_duration, Ticks.steps_from, Form.body_form}
use Rattle.recording.proofs.FormLaws.{form_from}
use Rattle.recording.proofs.form.check_steps.Given as goal

abbrev pub invariant-loop-index : goal.invariant-loop-index
invariant-loop-index l =
    record {
      fits : l.sum ≤ longest_duration * l.index;
      decides : body_form l.header (steps_from l.file 0 l.header.steps) ≡ form_from l.file l.header l.index l.sum;
    }
