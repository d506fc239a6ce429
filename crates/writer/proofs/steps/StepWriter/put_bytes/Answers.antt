-- No byte is put down at first, and then one more each time; the last one makes the whole.
use Rattle.std.proofs.Common.{[], arith, rules}
use Rattle.std.proofs.lemmas.List.{take_all}
use Rattle.writer.specs.WrittenSteps.{byte_steps, plain_gap, sent_steps}
use Rattle.writer.proofs.PieceLaws.{nothing_put, one_more, and_then}
use Rattle.writer.proofs.StringLaws.{no_bytes, last_after, bytes_next}
use Rattle.writer.proofs.steps.StepWriter.put_bytes.Goals as goal

pub returns-in-None : goal.returns-in-None
returns-in-None c = rw (no_bytes _ _ c.in-None.ensures.cases) c.put_no_bytes.ensures

pub loop-byte-init : goal.loop-byte-init
loop-byte-init c = nothing_put _

pub put_byte-requires : goal.put_byte-requires
put_byte-requires c =
    let k = c.loop-byte in
    omega (arith, bytes_next _ k.byte-index (search rules) k.invariant, c.in-Some.ensures.cases.1)

pub loop-byte-preserved : goal.loop-byte-preserved
loop-byte-preserved c =
    one_more (λ card. byte_steps card (plain_gap card)) _ _ _ c.loop-byte-test.true c.loop-byte.invariant c.put_byte.ensures

pub put_last_byte-requires : goal.put_last_byte-requires
put_last_byte-requires c =
    let k = c.loop-byte in
    omega (arith, bytes_next _ k.byte-index (search rules) k.invariant, c.in-Some.ensures.cases.1)

pub returns-after-loop-byte : goal.returns-after-loop-byte
returns-after-loop-byte c =
    let all = rw (take_all c.loop-byte.byte-index c.in-Some.others.now (search rules)) at c.loop-byte.invariant in
    rw (c.in-Some.ensures.cases.0, last_after)
    (and_then (λ card. sent_steps card c.in-Some.last.now []) all c.put_last_byte.ensures)
