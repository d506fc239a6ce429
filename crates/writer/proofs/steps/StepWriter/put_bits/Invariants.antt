-- The bits up to here are put down.
use Rattle.writer.specs.{WrittenSteps.bit_steps, Put.Put}
use Rattle.writer.proofs.steps.StepWriter.put_bits.Given as goal

abbrev pub invariant-loop-bit : goal.invariant-loop-bit
invariant-loop-bit l = Put (bit_steps l.initial.self.card l.bit l.value) l.initial.self l.self
