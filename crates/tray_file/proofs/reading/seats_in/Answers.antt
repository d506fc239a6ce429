use Rattle.std.proofs.Common.{rules}
use Rattle.std.specs.Prelude.{get_or}
use Rattle.tray.specs.Tray.{vacant_seat}
use Rattle.tray_file.specs.Steps.{telling_place, seat_told_by}
use Rattle.tray_file.proofs.MadeLaws.{made_each}
use Rattle.tray_file.proofs.reading.seats_in.Goals as goal

pub returns : goal.returns
returns c =
    record {
      of_forty = c.from_fn.ensures.items.long;
      each = λ k h.
          made_each _ _ 40 (λ i. seat_told_by (get_or c.args.file.now (telling_place i) 0)) (λ i y q h call. search rules) _
          c.from_fn.ensures.items k vacant_seat h;
    }
