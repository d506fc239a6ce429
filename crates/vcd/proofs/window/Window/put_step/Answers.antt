-- Its two ticks' texts stand one after another.
use Rattle.vcd.specs.Steps.{step_text}
use Rattle.vcd.proofs.PutLaws.{and_then}
use Rattle.vcd.proofs.window.Window.put_step.Goals as goal

pub returns : goal.returns
unfolding step_text
returns c = rw (← c.shown_first-first.ensures, ← c.shown_last.ensures) (and_then c.put_tick.ensures c.put_tick-2.ensures)
