use Rattle.tray_file.proofs.ReadingLaws.{reads_whole, reads_part}
use Rattle.tray_file.proofs.reading.read_state.Goals.{else-place-eq-TEXT_LENGTH-via-then-place-eq-TEXT_LENGTH+else-file-eq-TEXT_LENGTH}
use Rattle.tray_file.proofs.reading.read_state.Goals.{else-place-eq-TEXT_LENGTH-via-else-place-eq-TEXT_LENGTH}
use Rattle.tray_file.proofs.reading.read_state.Goals as goal

pub returns-then-file-eq-TEXT_LENGTH : goal.returns-then-file-eq-TEXT_LENGTH
returns-then-file-eq-TEXT_LENGTH c =
    reads_whole _ _ c.seats_in-seats.ensures _ _ c.state_text-text.ensures c.same_until-place.ensures
    c.if-place-eq-TEXT_LENGTH.true c.if-file-eq-TEXT_LENGTH.true

pub returns-else-place-eq-TEXT_LENGTH : goal.returns-else-place-eq-TEXT_LENGTH
returns-else-place-eq-TEXT_LENGTH c =
    reads_part _ _ c.seats_in-seats.ensures _ _ c.state_text-text.ensures c.same_until-place.ensures
    (λ place file.
    elim c.else-place-eq-TEXT_LENGTH.branch [
      | else-place-eq-TEXT_LENGTH-via-then-place-eq-TEXT_LENGTH+else-file-eq-TEXT_LENGTH w ↦ w.if-file-eq-TEXT_LENGTH.false file
      | else-place-eq-TEXT_LENGTH-via-else-place-eq-TEXT_LENGTH w ↦ w.if-place-eq-TEXT_LENGTH.false place
    ])
    _ c.line_of.ensures
