-- All samples hold, by one computation; S1's file is the one that document 01 prints. Assumes nothing.
use mathlib.Core.Path.{refl}
use Rattle.recording.specs.FileOf.{header_bytes, step_bytes, steps_bytes, file_of}
use Rattle.recording.specs.Form.{header_test, step_test, steps_form, body_form, form_of}
use Rattle.recording.specs.Ticks.{steps_from, steps_of, total_ticks, ticks}
use Rattle.transfer.specs.{Moves.finishing, Moves.move, Outcome.run}
use Rattle.transfer.specs.Phases.{below, up_to, next, same, with_bit, handover, after_bit}
use Rattle.judge.specs.Judged.{step_holding, two_ticks, judged_in_form, judged}
use Rattle.samples.specs.Samples.{SamplesHold, S1Printed, S1Ticks}

pub samples_hold : SamplesHold
unfolding below up_to next same with_bit handover after_bit finishing move run
    header_bytes step_bytes steps_bytes file_of header_test step_test steps_form body_form form_of
    steps_from steps_of total_ticks ticks step_holding two_ticks judged_in_form judged
samples_hold = record { plain = refl; command = refl }

pub s1_printed : S1Printed
unfolding header_bytes step_bytes steps_bytes file_of total_ticks
s1_printed = refl

pub s1_ticks : S1Ticks
unfolding ticks
s1_ticks = refl
