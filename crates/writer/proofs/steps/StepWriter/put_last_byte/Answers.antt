-- Its pieces stand one after the other.
use Rattle.std.proofs.Common.{arith}
use Rattle.writer.specs.WrittenSteps.{byte_steps, end_gap, value_steps, sent_steps, closing}
use Rattle.writer.proofs.{PieceLaws.and_then, ByteLaws.value_count}
use Rattle.writer.proofs.steps.StepWriter.put_last_byte.Goals as goal

pub put_closing-requires : goal.put_closing-requires
put_closing-requires c = omega (arith, value_count c.put_acknowledged.new.self.card c.args.value)

pub returns : goal.returns
unfolding byte_steps sent_steps
returns c =
    let front = and_then end_gap c.put_opening.ensures c.put_acknowledged.ensures in
    let byte = and_then (λ card. value_steps card c.args.value) front c.put_value.ensures in
    and_then closing byte c.put_closing.ensures
