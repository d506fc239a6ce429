-- Its three bytes stand one after another.
use Rattle.vcd.specs.Wires.{value_text}
use Rattle.vcd.proofs.PutLaws.{and_then}
use Rattle.vcd.proofs.window.Window.put_value.Goals as goal

pub returns : goal.returns
unfolding value_text
returns c =
    rw (← c.level.ensures, ← c.identifier.ensures)
    (and_then c.put_byte.ensures (and_then c.put_byte-2.ensures c.put_byte-3.ensures))
