-- A step goes on; no step is left at the end.
use Rattle.std.proofs.Common.{rules, arith}
use Rattle.vcd.proofs.PutLaws.{all_left, goes_on, none_left}
use Rattle.vcd.proofs.StepLaws.{few_steps, good_step, none_before, step_goes_on, steps_end}
use Rattle.vcd.proofs.window.Window.put_each_step.Goals as goal

pub loop-index-init : goal.loop-index-init
loop-index-init c = record { fits = search rules; left = rw (none_before _ _ c.args.recording.good) (all_left _ _) }

pub overflow_add-end : goal.overflow_add-end
overflow_add-end c = omega (arith, few_steps _ _ c.args.recording.good)

pub put_step-requires : goal.put_step-requires
put_step-requires c =
    let good = c.args.recording.good in
    (good_step _ _ _ _ good c.step-step.ensures c.loop-index-test.true, omega (arith, few_steps _ _ good))

pub shown_last-before-requires : goal.shown_last-before-requires
shown_last-before-requires c =
    (good_step _ _ _ _ c.args.recording.good c.step-step.ensures c.loop-index-test.true).four_bits

pub loop-index-preserved : goal.loop-index-preserved
loop-index-preserved c =
    let k = c.loop-index in
    let on = step_goes_on _ _ c.args.recording.good k.index k.before k.end c.step-step.result c.step-step.ensures c.loop-index-test.true in
    record { fits = omega arith; left = rw c.shown_last-before.ensures (goes_on (rw on at k.invariant.left) c.put_step.ensures) }

pub returns : goal.returns
returns c =
    let k = c.loop-index in
    none_left (rw (steps_end _ _ c.args.recording.good k.index k.before k.end (search rules)) at k.invariant.left)
