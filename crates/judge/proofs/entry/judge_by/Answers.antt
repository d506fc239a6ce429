-- Case by case.
use Rattle.std.proofs.Common.{sym, ap, ◌∙◌}
use Rattle.judge.specs.Judged.{leaves, judged}
use Rattle.judge.proofs.{JudgedLaws.is_refused, JudgedLaws.few_room, ReadVerdicts.is_read}
use Rattle.judge.proofs.entry.judge_by.Goals as goal

pub returns-in-Err : goal.returns-in-Err
returns-in-Err c =
    ap (λ r. leaves r c.args.bytes.now c.args.ledger.now) c.from.ensures ∙ sym (is_refused _ _ _ _ c.in-Err.refused c.in-Err.ensures)

pub returns-then-bytes-lt-BYTE_ROOM : goal.returns-then-bytes-lt-BYTE_ROOM
returns-then-bytes-lt-BYTE_ROOM c =
    ap (λ r. leaves r c.args.bytes.now c.args.ledger.now) c.refused.ensures
    ∙ sym (few_room _ _ _ _ _ c.in-Ok.ensures.1 c.then-bytes-lt-BYTE_ROOM.either)

pub returns-else-ledger-lt-LEDGER_ROOM : goal.returns-else-ledger-lt-LEDGER_ROOM
returns-else-ledger-lt-LEDGER_ROOM c =
    is_read _ _ _ _ _ c.in-Ok.recording.good c.if-bytes-lt-BYTE_ROOM.false c.if-ledger-lt-LEDGER_ROOM.false c.read-state.result
    _ _ _ c.read-state.ensures c.state_answer.ensures
    ∙ ap (λ file. judged c.args.limits file c.args.bytes.now c.args.ledger.now) c.in-Ok.ensures.0
