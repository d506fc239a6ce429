use Rattle.tray_file.proofs.NumberLaws.{kept_next, kept_all}
use Rattle.tray_file.proofs.numbers.seat_number.Goals as goal

pub loop-digit-preserved : goal.loop-digit-preserved
loop-digit-preserved c = kept_next _ _ _ _ c.loop-digit.invariant c.loop-digit-test.true c.with_digit-number.ensures

pub returns : goal.returns
returns c = kept_all _ _ _ c.loop-digit.invariant c.loop-digit-test.false
