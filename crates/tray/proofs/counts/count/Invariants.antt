-- The counts are those of the seats that were passed.
use Rattle.std.specs.Prelude.{◌≡◌, take}
use Rattle.tray.specs.Counts.{counts_of}
use Rattle.tray.proofs.counts.count.Given as goal

abbrev pub invariant-loop-seat : goal.invariant-loop-seat
invariant-loop-seat l = l.counts ≡ counts_of (take l.seat-index l.tray)
