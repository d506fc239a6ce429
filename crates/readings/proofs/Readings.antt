-- The readings hold, by one computation. Assumes nothing.
use mathlib.Core.Path.{refl}
use Rattle.transfer.specs.{Moves.finishing, Moves.move, Outcome.run}
use Rattle.transfer.specs.Phases.{below, up_to, next, same, with_bit, handover, after_bit}
use Rattle.readings.specs.Readings.{ReadingsHold}

pub readings_hold : ReadingsHold
unfolding below up_to next same with_bit handover after_bit finishing move run
readings_hold = record { plain = refl; command = refl }
