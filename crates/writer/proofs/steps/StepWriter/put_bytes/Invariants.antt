-- The bytes up to here are put down.
use Rattle.std.proofs.Common.{take}
use Rattle.std.specs.List.{flat_map}
use Rattle.writer.specs.{WrittenSteps.byte_steps, WrittenSteps.plain_gap, Put.Put}
use Rattle.writer.proofs.steps.StepWriter.put_bytes.Given as goal

abbrev pub invariant-loop-byte : goal.invariant-loop-byte
invariant-loop-byte l =
    let card = l.initial.self.card in
    Put (flat_map (byte_steps card (plain_gap card)) (take l.byte-index l.others)) l.initial.self l.self
