-- Each return is a row of the definition.
use borrow.Author.Tests.{eq-eqb, ne_eqb}
use Rattle.vcd.specs.Dump.{tick_text}
use Rattle.vcd.proofs.PutLaws.{nothing_put, and_then}
use Rattle.vcd.proofs.window.Window.put_tick.Goals as goal

pub returns-then-before-shown : goal.returns-then-before-shown
unfolding tick_text
returns-then-before-shown c = rw (ne_eqb _ _ c.if-before-shown.true) (and_then c.put_time.ensures c.put_changes.ensures)

pub returns-else-before-shown : goal.returns-else-before-shown
unfolding tick_text
returns-else-before-shown c = rw (eq-eqb _ _ c.if-before-shown.false) (nothing_put _)
