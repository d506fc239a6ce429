-- It is one step.
use Rattle.std.proofs.Common.{refl}
use Rattle.writer.proofs.PieceLaws.{one_step}
use Rattle.writer.proofs.steps.StepWriter.put_lines.Goals as goal

pub returns : goal.returns
returns c = one_step _ _ c.write.ensures refl refl refl
