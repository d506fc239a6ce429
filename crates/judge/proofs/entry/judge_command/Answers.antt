-- The first clause is that of `judge_by`, the second follows from it.
use Rattle.judge.proofs.Demand3.{command_promised}
use Rattle.judge.proofs.entry.judge_command.Goals as goal

pub returns : goal.returns
returns c = command_promised _ _ _ _ _ c.command.ensures c.judge_by.ensures
