use Rattle.std.specs.Prelude.{◌≡◌, ◌++◌, map, take, drop}
use Rattle.files.specs.Printable.{printable}
use Rattle.files.proofs.paths.hide_controls.Given as goal

abbrev pub invariant-loop-byte : goal.invariant-loop-byte
invariant-loop-byte l = l.byte-items ≡ map printable (take l.byte-index l.fn.name) ++ drop l.byte-index l.fn.name
