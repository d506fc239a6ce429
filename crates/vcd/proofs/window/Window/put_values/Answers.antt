-- No wire's text is put down at first, and then one more each time.
use Rattle.vcd.proofs.PutLaws.{nothing_put, one_more}
use Rattle.vcd.proofs.window.Window.put_values.Goals as goal

pub loop-wire-init : goal.loop-wire-init
loop-wire-init c = nothing_put _

pub loop-wire-preserved : goal.loop-wire-preserved
loop-wire-preserved c = one_more _ _ _ _ c.loop-wire-test.true c.loop-wire.invariant c.put_value.ensures
