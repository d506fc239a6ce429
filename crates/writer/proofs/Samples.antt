-- The writer's samples hold, by computation. Assumes nothing.
use mathlib.Core.Path.{refl}
use Rattle.recording.specs.Ticks.{total_ticks}
use Rattle.recording.specs.FileOf.{header_bytes, step_bytes, steps_bytes, file_of}
use Rattle.writer.specs.{Samples.WritesTwoBytes, Samples.WritingsHold, Written.recording_of, Written.written}
use Rattle.writer.specs.WrittenSteps.{bit_steps, byte_steps, sent_steps, written_steps}

pub writes_two_bytes : WritesTwoBytes
unfolding recording_of bit_steps byte_steps sent_steps written_steps
writes_two_bytes = refl

pub writings_hold : WritingsHold
unfolding header_bytes step_bytes steps_bytes file_of total_ticks recording_of bit_steps byte_steps sent_steps written_steps written
writings_hold = refl
