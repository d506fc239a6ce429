use Rattle.std.specs.Prelude.{◌-◌, length, ◌≡◌}
use Rattle.vcd_file.proofs.pieces.print_pieces.Given as goal

abbrev pub invariant-loop-count : goal.invariant-loop-count
invariant-loop-count g l = length l.text ≡ 65536

abbrev pub decreases-loop-count : goal.decreases-loop-count
decreases-loop-count g l = 4294967296 - l.offset
