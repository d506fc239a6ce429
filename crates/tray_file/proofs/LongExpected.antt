-- More bytes than the judge's buffer has places are expected in vain. Assumes nothing.
use Rattle.std.specs.Prelude.{ℕ, ◌<◌, Bool, true, false, List, length, ◌≡◌}
use native.Mathlib.Omega.{arith}
use mathlib.Core.Path.{refl, ap}
use lib.{ListN.length-take, Seq.length-take-le}
use Rattle.answer.specs.{Types.Answer, Answers.first}
use Rattle.tray.specs.Passing.{passing}
use Rattle.tray.proofs.PassingLaws.{passing_law}
use Rattle.tray_file.specs.LongFiles.{LongExpectedLaw}

passes_not : (answer : Answer) (buffer expected : List ℕ) → length buffer < length expected → passing answer buffer expected ≡ false
passes_not answer buffer expected h = by_test (passing answer buffer expected) refl
  where
    by_test : (t : Bool) → passing answer buffer expected ≡ t → passing answer buffer expected ≡ false
    by_test true e =
        let begins = ap length ((passing_law answer buffer expected).0 e).begins in
        absurd (omega (arith, length-take (length expected) buffer))
    by_test false e = e

pub long_expected : LongExpectedLaw
long_expected answer buffer expected room more fits =
    let long = length-take-le room expected fits in
    (passes_not answer buffer (first room expected) (omega arith), passes_not answer buffer expected (omega arith))
