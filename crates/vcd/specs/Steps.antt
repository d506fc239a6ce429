-- How the code makes the text: step by step, and not tick by tick. A step shows one thing in its first tick, which alone has its mark,
-- and from its second on the lines alone; so it has changes at these two at most. The functions below the entry promise this to one
-- another; the dump itself is in specs/Dump.antt.
use Rattle.std.specs.Prelude.{ℕ, ◌+◌, List, ◌++◌, ltb, if◌then◌else◌}
use Rattle.recording.specs.{Types.Step, Layout.is_marked, Ticks.tick}
use Rattle.vcd.specs.{Dump.tick_text, Wires.shown_in}

-- What is shown in the first tick of a step.
unfoldable pub shown_first : Step → ℕ
shown_first s = shown_in (tick (is_marked s) s.lines)

-- What is shown in its last: the lines alone, unless that is the first too.
unfoldable pub shown_last : Step → ℕ
shown_last s = if ltb 1 s.duration then s.lines else shown_first s

-- A step that begins at a tick, after one that showed `before`.
unfoldable pub step_text : (before tick : ℕ) → Step → List ℕ
step_text before tick s = tick_text before tick (shown_first s) ++ tick_text (shown_first s) (tick + 1) (shown_last s)
