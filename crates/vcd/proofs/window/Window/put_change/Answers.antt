-- Each return is a row of the definition.
use borrow.Author.Tests.{eq-eqb, ne_eqb}
use Rattle.vcd.specs.Wires.{change_text}
use Rattle.vcd.proofs.PutLaws.{nothing_put}
use Rattle.vcd.proofs.window.Window.put_change.Goals as goal

pub returns-then-bit : goal.returns-then-bit
unfolding change_text
returns-then-bit c = rw (← c.bit.ensures, ← c.bit-2.ensures, ne_eqb _ _ c.if-bit.true) c.put_value.ensures

pub returns-else-bit : goal.returns-else-bit
unfolding change_text
returns-else-bit c = rw (← c.bit.ensures, ← c.bit-2.ensures, eq-eqb _ _ c.if-bit.false) (nothing_put _)
