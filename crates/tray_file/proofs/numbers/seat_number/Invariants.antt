use Rattle.tray_file.proofs.NumberLaws.{Kept}
use Rattle.tray_file.proofs.numbers.seat_number.Given as goal

abbrev pub invariant-loop-digit : goal.invariant-loop-digit
invariant-loop-digit l = Kept l.digits l.number l.digit-index
