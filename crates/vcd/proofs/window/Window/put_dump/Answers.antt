-- Its three parts stand one after another.
use Rattle.vcd.proofs.{PutLaws.and_then, StepLaws.whole_dump}
use Rattle.vcd.proofs.window.Window.put_dump.Goals as goal

pub returns : goal.returns
returns c =
    rw (whole_dump _ _ c.args.recording.good, ← c.total.ensures)
    (and_then c.put_heading.ensures (and_then c.put_steps.ensures c.put_time.ensures))
