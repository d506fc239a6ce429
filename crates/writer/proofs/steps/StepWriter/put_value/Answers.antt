-- The wait for the take stands after the bits.
use Rattle.std.specs.Prelude.{[], ◌∷◌}
use Rattle.std.proofs.Common.{arith}
use Rattle.writer.specs.WrittenSteps.{shows}
use Rattle.writer.proofs.{BitLaws.bits_count, PieceLaws.and_then}
use Rattle.writer.proofs.steps.StepWriter.put_value.Goals as goal

pub put_lines-requires : goal.put_lines-requires
put_lines-requires c = (omega arith, omega arith, omega (arith, bits_count c.args.self.now.card 8 c.args.value))

pub returns : goal.returns
returns c = and_then (λ card. shows 1 0 card.take ∷ []) c.put_bits.ensures c.put_lines.ensures
