use Rattle.std.specs.Prelude.{◌-◌, ◌≤◌, length}
use Rattle.files.proofs.input.read_input.Given as goal

abbrev pub invariant-loop-length : goal.invariant-loop-length
invariant-loop-length g l = l.length ≤ length l.room

abbrev pub decreases-loop-length : goal.decreases-loop-length
decreases-loop-length g l = length l.initial.room - l.length
