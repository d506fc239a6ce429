-- The texts of the wires up to here are put down.
use Rattle.std.specs.Prelude.{take}
use Rattle.std.specs.List.{flat_map}
use Rattle.vcd.specs.{Wires.change_text, Put.Puts}
use Rattle.vcd.proofs.window.Window.put_changes.Given as goal

abbrev pub invariant-loop-wire : goal.invariant-loop-wire
invariant-loop-wire l = Puts (flat_map (change_text l.before l.shown) (take l.wire-index l.wire-items)) l.initial.self l.self
