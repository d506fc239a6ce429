-- Its pieces stand one after the other.
use Rattle.writer.specs.WrittenSteps.{byte_steps, plain_gap, value_steps}
use Rattle.writer.proofs.PieceLaws.{and_then}
use Rattle.writer.proofs.steps.StepWriter.put_byte.Goals as goal

pub returns : goal.returns
unfolding byte_steps
returns c =
    let front = and_then plain_gap c.put_opening.ensures c.put_lines.ensures in
    and_then (λ card. value_steps card c.args.value) front c.put_value.ensures
