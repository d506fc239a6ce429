-- The acknowledgement stands after the opening.
use Rattle.writer.specs.WrittenSteps.{acknowledged}
use Rattle.writer.proofs.PieceLaws.{and_then}
use Rattle.writer.proofs.steps.StepWriter.put_no_bytes.Goals as goal

pub returns : goal.returns
returns c = and_then (λ card. acknowledged card card.no_response) c.put_opening.ensures c.put_acknowledged.ensures
