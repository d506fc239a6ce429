-- The steps that are left are still to be put down.
use Rattle.std.specs.Prelude.{◌*◌, ◌≤◌}
use Rattle.recording.specs.{Layout.longest_duration, Ticks.steps_of, Ticks.ticks}
use Rattle.vcd.specs.Dump.{later_text}
use Rattle.vcd.proofs.{PutLaws.Left, StepLaws.left_text}
use Rattle.vcd.proofs.window.Window.put_each_step.Given as goal

abbrev pub invariant-loop-index : goal.invariant-loop-index
invariant-loop-index l =
    let file = l.recording.file.now in
    record {
      fits : l.end ≤ longest_duration * l.index;
      left : Left (later_text l.first 0 (ticks (steps_of file))) (left_text file l.recording.steps l.index l.before l.end)
          l.initial.self l.self;
    }
