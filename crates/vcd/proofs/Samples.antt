-- The samples' dumps, computed. Assumes nothing.
use mathlib.Core.Path.{refl}
use Rattle.recording.specs.Ticks.{ticks, total_ticks}
use Rattle.vcd.specs.{Samples.SampleLaw, Samples.MarkedLaw, Text.decimal_in, Wires.value_text, Wires.change_text}
use Rattle.vcd.specs.Dump.{heading, time_text, tick_text, later_text, ticks_text, dump}

pub sample : SampleLaw
unfolding ticks total_ticks dump heading ticks_text later_text tick_text time_text decimal_in value_text change_text
sample = refl

pub marked_sample : MarkedLaw
unfolding ticks total_ticks dump heading ticks_text later_text tick_text time_text decimal_in value_text change_text
marked_sample = refl
