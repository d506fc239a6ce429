-- The number of a fault or a verdict that a match was told. With as many faults as there are, no search finds it. Assumes nothing.
use Rattle.std.specs.Prelude.{◌≡◌}
use mathlib.Core.Path.{sym, ap}
use Rattle.answer.specs.{Numbers.verdict_number, Types.Fault, Types.Verdict, Types.Broken}

pub verdict_told : {v told : Verdict} → v ≡ told → verdict_number told ≡ verdict_number v
verdict_told e = sym (ap verdict_number e)

pub fault_told : {f told : Fault} → f ≡ told → verdict_number (Broken told) ≡ verdict_number (Broken f)
fault_told e = verdict_told (ap Broken e)
