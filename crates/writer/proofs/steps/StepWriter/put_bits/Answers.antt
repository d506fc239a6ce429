-- No bit is put down at first, and then one more each time.
use Rattle.std.proofs.Common.{◌≡◌, arith}
use Rattle.writer.specs.WrittenSteps.{bit_steps}
use Rattle.writer.proofs.{BitLaws.bits_count, BitLaws.bit_put, PieceLaws.nothing_put}
use Rattle.writer.proofs.steps.StepWriter.put_bits.Goals as goal

pub loop-bit-init : goal.loop-bit-init
unfolding bit_steps
loop-bit-init c = nothing_put _

pub put_lines-requires : goal.put_lines-requires
put_lines-requires c =
    (omega arith, omega arith, omega (arith, bits_count c.args.self.now.card c.loop-bit.bit c.args.value))

pub put_lines-requires-in-loop-bit : goal.put_lines-requires-in-loop-bit
put_lines-requires-in-loop-bit c =
    (omega arith, omega arith, omega (arith, bits_count c.args.self.now.card c.loop-bit.bit c.args.value))

pub loop-bit-preserved : goal.loop-bit-preserved
loop-bit-preserved c = bit_put c.loop-bit.bit _ c.loop-bit.invariant c.put_lines.ensures c.put_lines-in-loop-bit.ensures

pub returns : goal.returns
returns c = let all : 8 ≡ c.loop-bit.bit = omega arith in rw all c.loop-bit.invariant
