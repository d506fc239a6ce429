-- The text up to here is put down.
use Rattle.std.specs.Prelude.{take}
use Rattle.vcd.specs.Put.{Puts}
use Rattle.vcd.proofs.window.Window.put_text.Given as goal

abbrev pub invariant-loop-byte : goal.invariant-loop-byte
invariant-loop-byte l = Puts (take l.byte-index l.text) l.initial.self l.self
