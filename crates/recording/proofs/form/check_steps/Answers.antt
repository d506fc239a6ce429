-- The laws of the form, a step at a time.
use Rattle.std.proofs.Common.{sym, ◌∙◌, arith, rules}
use borrow.Author.Tests.{eq-eqb, ne_eqb}
use Rattle.recording.proofs.FormLaws.{steps_start, step_passes, step_refuses, steps_done}
use Rattle.recording.proofs.form.check_steps.Goals as goal

pub loop-index-init : goal.loop-index-init
loop-index-init c = record { fits = omega arith; decides = steps_start _ _ }

pub returns-in-Err : goal.returns-in-Err
returns-in-Err c =
    let s = c.read-step in
    let t = c.test in
    let refused = step_refuses _ _ _ _ s.result t.result s.ensures t.ensures c.loop-index-test.true _ c.in-Err.is in
    sym (c.loop-index.invariant.decides ∙ refused)

pub loop-index-preserved : goal.loop-index-preserved
loop-index-preserved c =
    let s = c.read-step in
    let t = c.test in
    let passed = step_passes _ _ _ _ s.result t.result s.ensures t.ensures c.loop-index-test.true c.in_default.is in
    record { fits = search rules; decides = c.loop-index.invariant.decides ∙ passed }

pub returns-then-header-sum : goal.returns-then-header-sum
returns-then-header-sum c =
    rw c.into.ensures
    (sym (c.loop-index.invariant.decides ∙ steps_done _ _ _ _ c.loop-index-test.false ∙ rw (ne_eqb _ _ c.if-header-sum.true)))

pub returns : goal.returns
returns c =
    sym (c.loop-index.invariant.decides ∙ steps_done _ _ _ _ c.loop-index-test.false ∙ rw (eq-eqb _ _ c.if-header-sum.false))
