-- A refusal is what the form's test gives; otherwise the dump is put down through a window.
use Rattle.std.proofs.Common.{arith, rules}
use Rattle.std.proofs.lemmas.Result.{err_from_is_err_and}
use Rattle.vcd.proofs.DumpedLaws.{is_refused, count_fits, piece_put}
use Rattle.vcd.proofs.entry.part.Goals as goal

pub returns-in_err-recording : goal.returns-in_err-recording
returns-in_err-recording c =
    let p = err_from_is_err_and c.from_residual.result c.from_residual.ensures.1 in
    rw (p.1, p.2) (is_refused _ _ _ _ c.in_err-recording.ensures)

pub overflow_cast-result : goal.overflow_cast-result
overflow_cast-result c =
    omega (arith, count_fits _ _ _ _ c.in_ok-recording.recording.good c.at-window.ensures c.put_dump.ensures)

pub returns : goal.returns
returns c =
    rw (← c.in_ok-recording.ensures.0)
    (piece_put _ _ _ _ c.in_ok-recording.recording.good c.at-window.ensures c.put_dump.ensures (search rules))
