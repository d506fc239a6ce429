-- The text of a Value Change Dump (IEEE 1364) of a recording's steps, by the ticks that they mean. One tick is 1 µs.
use Prim.Native.Char.{code}
use Rattle.std.specs.Prelude.{ℕ, ◌+◌, List, [], ◌∷◌, ◌++◌, eqb, if◌then◌else◌}
use Rattle.recording.specs.{Types.Step, Ticks.Tick, Ticks.ticks, Ticks.total_ticks}
use Rattle.answer.specs.Text.{newline}
use Rattle.vcd.specs.{Text.in_lines, Text.decimal, Wires.shown_in, Wires.value_text, Wires.change_text, Wires.each_wire}

-- The declarations: the timescale, and each wire, of one bit, with its identifier.
unfoldable pub heading : List ℕ
heading =
    in_lines
    ("$timescale 1 us $end"
    ∷ "$scope module iec $end"
    ∷ "$var wire 1 A ATN $end"
    ∷ "$var wire 1 C CLK $end"
    ∷ "$var wire 1 D DATA $end"
    ∷ "$var wire 1 S SRQ $end"
    ∷ "$var wire 1 L LOST $end"
    ∷ "$upscope $end"
    ∷ "$enddefinitions $end"
    ∷ [])

-- The time of what follows: #T.
unfoldable pub time_text : (tick : ℕ) → List ℕ
time_text tick = code "#" ∷ (decimal tick ++ (newline ∷ []))

-- A tick after one that showed `before`: its time, and each wire that differs; nothing where none does.
unfoldable pub tick_text : (before tick shown : ℕ) → List ℕ
tick_text before tick shown = if eqb before shown then [] else time_text tick ++ each_wire (change_text before shown)

-- Ticks one after another, of which the first is number `tick` and comes after one that showed `before`.
unfoldable pub later_text : (before tick : ℕ) → List Tick → List ℕ
later_text before tick [] = []
later_text before tick (t ∷ ts) = tick_text before tick (shown_in t) ++ later_text (shown_in t) (tick + 1) ts

-- All ticks. The first shows all five wires.
unfoldable pub ticks_text : List Tick → List ℕ
ticks_text [] = []
ticks_text (t ∷ ts) = time_text 0 ++ (each_wire (value_text (shown_in t)) ++ later_text (shown_in t) 1 ts)

-- The dump: the declarations, the changes, and the time at which the recording ends.
unfoldable pub dump : List Step → List ℕ
dump steps = heading ++ (ticks_text (ticks steps) ++ time_text (total_ticks steps))
