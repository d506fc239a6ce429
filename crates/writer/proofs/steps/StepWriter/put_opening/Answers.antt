-- Its two steps stand one after the other.
use Rattle.std.specs.Prelude.{[], ◌∷◌}
use Rattle.writer.specs.WrittenSteps.{shows}
use Rattle.writer.proofs.PieceLaws.{and_then}
use Rattle.writer.proofs.steps.StepWriter.put_opening.Goals as goal

pub returns : goal.returns
returns c = and_then (λ card. shows 0 1 card.ready_to_send ∷ []) c.put_lines.ensures c.put_lines-2.ensures
