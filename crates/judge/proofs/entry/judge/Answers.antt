-- The first clause is that of `judge_by`, the second follows from it.
use Rattle.judge.proofs.Demand3.{standard_promised}
use Rattle.judge.proofs.entry.judge.Goals as goal

pub returns : goal.returns
returns c = standard_promised _ _ _ _ _ c.standard.ensures c.judge_by.ensures
