-- The first tick's values, and then the changes.
use Rattle.std.proofs.Common.{rules}
use Rattle.vcd.proofs.PutLaws.{nothing_put, and_then}
use Rattle.vcd.proofs.StepLaws.{good_step, no_steps, first_step}
use Rattle.vcd.proofs.window.Window.put_steps.Goals as goal

pub shown_first-first-requires : goal.shown_first-first-requires
shown_first-first-requires c = (good_step _ _ _ _ c.args.recording.good c.step.ensures c.if-recording-gt0.true).four_bits

pub returns-then-recording-gt0 : goal.returns-then-recording-gt0
returns-then-recording-gt0 c =
    rw (first_step _ _ c.args.recording.good c.step.result c.step.ensures c.if-recording-gt0.true, ← c.shown_first-first.ensures)
    (and_then c.put_time.ensures (and_then c.put_values.ensures c.put_each_step.ensures))

pub returns-else-recording-gt0 : goal.returns-else-recording-gt0
returns-else-recording-gt0 c = rw (no_steps _ _ c.args.recording.good (search rules)) (nothing_put _)
