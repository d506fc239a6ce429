-- Its three steps stand one after the other.
use Rattle.std.specs.Prelude.{[], ◌∷◌}
use Rattle.writer.specs.WrittenSteps.{shows}
use Rattle.writer.proofs.PieceLaws.{and_then}
use Rattle.writer.proofs.steps.StepWriter.put_acknowledged.Goals as goal

pub returns : goal.returns
returns c =
    let two = and_then (λ card. shows 0 1 card.acknowledgement ∷ []) c.put_lines.ensures c.put_lines-2.ensures in
    and_then (λ card. shows 0 0 c.args.after ∷ []) two c.put_lines-3.ensures
