-- The silence stands after the opening.
use Rattle.std.specs.Prelude.{[], ◌∷◌}
use Rattle.writer.specs.WrittenSteps.{shows}
use Rattle.writer.proofs.PieceLaws.{and_then}
use Rattle.writer.proofs.steps.StepWriter.put_closing.Goals as goal

pub returns : goal.returns
returns c = and_then (λ card. shows 0 0 card.silence ∷ []) c.put_opening.ensures c.put_lines.ensures
