-- The steps before the loop's place tell where the tick is, or that it is here.
use Rattle.judge.proofs.HoldingLaws.{Back}
use Rattle.judge.proofs.answers.step_holding.Given as goal

abbrev pub invariant-loop-index : goal.invariant-loop-index
invariant-loop-index l = Back l.recording.file.now l.recording.steps l.tick l.index l.begin
