-- Its three parts stand one after another.
use Rattle.vcd.specs.Dump.{time_text}
use Rattle.vcd.proofs.PutLaws.{and_then}
use Rattle.vcd.proofs.window.Window.put_time.Goals as goal

pub returns : goal.returns
unfolding time_text
returns c = and_then c.put_byte.ensures (and_then c.put_decimal.ensures c.put_byte-2.ensures)
