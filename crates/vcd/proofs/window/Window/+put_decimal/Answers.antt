-- The digits of a tenth, if there are any, and then the last digit.
use Rattle.std.proofs.Common.{arith}
use Rattle.vcd.proofs.{DecimalLaws.one_digit, DecimalLaws.more_digits, PutLaws.and_then}
use Rattle.vcd.proofs.window.Window.+put_decimal.Goals as goal
use Rattle.vcd.proofs.window.Window.+put_decimal.Goals.{then-n-ge10, else-n-ge10}

pub returns : goal.returns
returns t c =
    elim c.if-n-ge10.branch [
      | then-n-ge10 w ↦
          rw (more_digits _ w.if-n-ge10.true (omega arith)) (and_then w.put_decimal.ensures (rw w.self-is at c.put_byte.ensures))
      | else-n-ge10 w ↦ rw (one_digit _ w.if-n-ge10.false) (rw w.self-is at c.put_byte.ensures)
    ]
