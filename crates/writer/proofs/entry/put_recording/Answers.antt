-- The header and the steps after it are the recording.
use Rattle.std.proofs.Common.{rules}
use Rattle.writer.specs.WrittenSteps.{written_steps}
use Rattle.writer.proofs.{PieceLaws.all_put, WrittenLaws.recording_put}
use Rattle.writer.proofs.entry.put_recording.Goals as goal

pub returns : goal.returns
returns c =
    recording_put _ _ _ _ _ _ _ _ (search rules) c.step_count-steps.ensures c.total_ticks-total.ensures c.of_steps-header.ensures
    c.write.ensures (all_put (λ card. written_steps card c.args.bytes.now) _ c.new.ensures c.put_bytes.ensures (search rules))
