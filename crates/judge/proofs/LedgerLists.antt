-- Bytes handed over, as the values and the ticks that the lent buffers begin with. Assumes nothing.
use Rattle.std.specs.Prelude.{ℕ, ◌*◌, List, [], ◌∷◌, ◌++◌, length, ◌≡◌}
use mathlib.Core.Path.{refl, ap}
use native.Mathlib.Omega.{arith}
use lib.ListN.{length-map}
use Rattle.transfer.specs.{Types.Byte, Pair.values}
use Rattle.judge.specs.{Judged.two_ticks, Demand3.dated}

-- The bytes handed over are read off the byte buffer and the ledger.
pub reads_ledger : (h : List Byte) (rest : List ℕ) → dated (values h) (two_ticks h ++ rest) ≡ h
unfolding two_ticks
reads_ledger [] rest = refl
reads_ledger (b ∷ h) rest = ap (λ (l : List Byte). b ∷ l) (reads_ledger h rest)

pub length-values : (h : List Byte) → length (values h) ≡ length h
length-values h = length-map h (λ (b : Byte). b.value)

pub length-two_ticks : (h : List Byte) → length (two_ticks h) ≡ 2 * length h
unfolding two_ticks
length-two_ticks [] = refl
length-two_ticks (b ∷ h) = let rest = length-two_ticks h in omega arith
