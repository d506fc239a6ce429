-- Both loops keep that the reading, from where it stands, comes to the whole.
use Rattle.std.specs.Prelude.{◌+◌, ◌-◌, ◌*◌, ◌≤◌, ◌<◌, ◌++◌}
use Rattle.recording.specs.Layout.{longest_duration}
use Rattle.judge.specs.Reading.{ticks_from}
use Rattle.judge.proofs.{TickLists.left_of, ReadingLaws.comes_to, ReadingLaws.Keeps}
use Rattle.judge.proofs.reading.read.Given as goal

abbrev pub invariant-loop-left : goal.invariant-loop-left
invariant-loop-left l =
    let rest = ticks_from l.recording.file.now (l.index + 1) (l.recording.steps - (l.index + 1)) in
    (l.left ≤ longest_duration)
    × (l.index < l.recording.steps)
    × Keeps l.limits (comes_to l.limits l.initial.state l.initial.bytes l.initial.ledger (left_of l.tick l.initial.left ++ rest))
    l.initial.bytes l.initial.ledger (longest_duration * l.index + (longest_duration - l.left)) (left_of l.tick l.left ++ rest)
    l.state l.bytes l.ledger

abbrev pub decreases-loop-left : goal.decreases-loop-left
decreases-loop-left l = l.left

abbrev pub invariant-steps : goal.invariant-steps
invariant-steps l =
    let r = l.recording in
    Keeps l.limits (comes_to l.limits l.initial.state l.initial.bytes l.initial.ledger (ticks_from r.file.now 0 r.steps))
    l.initial.bytes l.initial.ledger (longest_duration * l.index) (ticks_from r.file.now l.index (r.steps - l.index))
    l.state l.bytes l.ledger
