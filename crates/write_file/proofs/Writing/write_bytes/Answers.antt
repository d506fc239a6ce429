use Rattle.std.proofs.Common.{sym}
use lib.Seq.{length-take-le}
use Rattle.write_file.proofs.Within.{count_within}
use Rattle.write_file.proofs.Writing.write_bytes.Goals as goal

pub slice_bounds-destination-end : goal.slice_bounds-destination-end
slice_bounds-destination-end g c = count_within _ _ _ _ (rw c.in-Ok.is at c.write-written.ensures.given) c.write-written.auto.destination

pub slice_bounds-recording-end : goal.slice_bounds-recording-end
slice_bounds-recording-end g c =
    sym (length-take-le _ _ (count_within _ _ _ _ (rw c.in-Ok.is at c.write-written.ensures.given) c.write-written.auto.destination))
