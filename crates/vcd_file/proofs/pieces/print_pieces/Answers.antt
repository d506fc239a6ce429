use Rattle.std.proofs.Common.{sym}
use lib.Seq.{length-take-le}
use Rattle.vcd_file.proofs.Onward.{onward}
use Rattle.vcd_file.proofs.pieces.print_pieces.Goals as goal

pub slice_bounds-text-end : goal.slice_bounds-text-end
slice_bounds-text-end g c = (onward _ _ _ _ _ (rw c.in_ok-count.was at c.part.ensures) c.part.auto.destination).within

pub slice_bounds-write_all-end : goal.slice_bounds-write_all-end
slice_bounds-write_all-end g c =
    sym (length-take-le _ _ (onward _ _ _ _ _ (rw c.in_ok-count.was at c.part.ensures) c.part.auto.destination).within)

pub overflow_add-offset : goal.overflow_add-offset
overflow_add-offset g c =
    record { fits = (onward _ _ _ _ _ (rw c.in_ok-count.was at c.part.ensures) c.part.auto.destination).next c.if-count-eq0.false }
