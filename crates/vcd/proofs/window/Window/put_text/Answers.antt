-- Nothing is put down at first, and then a byte more each time.
use Rattle.std.proofs.lemmas.List.{take_more}
use Rattle.vcd.proofs.PutLaws.{nothing_put, and_then}
use Rattle.vcd.proofs.window.Window.put_text.Goals as goal

pub loop-byte-init : goal.loop-byte-init
loop-byte-init c = nothing_put _

pub loop-byte-preserved : goal.loop-byte-preserved
loop-byte-preserved c =
    rw (take_more c.args.text.now c.loop-byte.byte-index 0 c.loop-byte-test.true) (and_then c.loop-byte.invariant c.put_byte.ensures)
