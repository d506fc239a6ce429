-- The duration and the two stores after it are one run.
use Rattle.recording.specs.{FileOf.two_bytes, FileOf.step_bytes, Layout.step_place}
use Rattle.recording.proofs.SetsLaws.{two_more}
use Rattle.recording.proofs.step.Step.write.Goals as goal

pub returns : goal.returns
unfolding step_bytes
returns c =
    let s = c.args.self in
    rw (c.put.ensures, c.to_le_bytes.ensures)
    (two_more c.args.destination.now (step_place c.args.index) (two_bytes s.duration) s.lines s.last)
