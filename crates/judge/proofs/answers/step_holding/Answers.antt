use Rattle.std.proofs.Common.{arith}
use Rattle.recording.proofs.GoodFormLaws.{good_form}
use Rattle.judge.proofs.HoldingLaws.{all_before, none_before, step_before}
use Rattle.judge.proofs.answers.step_holding.Goals as goal

pub loop-index-init : goal.loop-index-init
loop-index-init c = all_before _ _ _ ((good_form _ _).0 c.args.recording.good) _ c.total-begin.ensures

pub overflow_cast-result : goal.overflow_cast-result
overflow_cast-result c =
    let good = (good_form _ _).0 c.args.recording.good in
    omega (arith, c.loop-index.invariant.few, good.few)

pub overflow_add-result : goal.overflow_add-result
overflow_add-result c =
    let good = (good_form _ _).0 c.args.recording.good in
    omega (arith, c.loop-index.invariant.few, good.few)

pub overflow_sub-begin : goal.overflow_sub-begin
overflow_sub-begin c = (step_before _ _ _ _ _ c.step.result c.loop-index.invariant c.if-begin-tick.false c.step.ensures).0

pub loop-index-preserved : goal.loop-index-preserved
loop-index-preserved c = (step_before _ _ _ _ _ c.step.result c.loop-index.invariant c.if-begin-tick.false c.step.ensures).1

pub returns : goal.returns
returns c = none_before _ _ _ _ _ c.loop-index.invariant c.loop-index-test.false
