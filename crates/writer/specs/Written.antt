-- What the writer answers and leaves, for any bytes and any destination.
use Rattle.std.specs.Prelude.{ℕ, ◌+◌, ◌*◌, List, length, replicate, ◌≡◌, ltb, if◌then◌else◌}
use Rattle.answer.specs.{Types.Answer, Types.TooManyBytes, Types.ShortDestination, Answers.refused, Answers.accepted, Answers.◌over◌}
use Rattle.recording.specs.{FileOf.file_of, Ticks.total_ticks}
use Rattle.writer.specs.WrittenSteps.{written_steps}
use Rattle.writer.specs.declared.card.Card.{Card}

abbrev pub most_bytes : ℕ
most_bytes = 799

-- "Steps 20n+5, bytes 80n+36."
abbrev pub written_step_count : (n : ℕ) → ℕ
written_step_count n = 20 * n + 5

abbrev pub written_length : (n : ℕ) → ℕ
written_length n = 80 * n + 36

-- The recording of a string.
unfoldable pub recording_of : Card → (string : List ℕ) → List ℕ
recording_of card string = file_of (written_steps card string)

-- The ticks of a recording of so many bytes, whatever they are.
abbrev pub written_ticks : Card → (count : ℕ) → ℕ
written_ticks card count = total_ticks (written_steps card (replicate count 0))

-- So many steps, so many bytes and so many ticks, with any card.
pub record Counted (card : Card) (string : List ℕ) : Type 0 where
  pub steps : length (written_steps card string) ≡ written_step_count (length string)
  pub bytes : length (recording_of card string) ≡ written_length (length string)
  pub ticks : total_ticks (written_steps card string) ≡ written_ticks card (length string)

abbrev pub CountedLaw : Type 0
CountedLaw = (card : Card) (string : List ℕ) → Counted card string

-- What the writer leaves: an answer, and the destination.
pub record Written : Type 0 where
  pub answer : Answer
  pub destination : List ℕ

abbrev pub leaves : Answer → List ℕ → Written
leaves answer destination = record { answer = answer; destination = destination }

-- "The writer tests 10, then 11." "No lent byte .. changes" at a refusal; otherwise the destination begins with the recording, and
-- "bytes of the destination beyond these don't change". "It answers number 0, tick 0, step 0, and the length as count": the recording's.
unfoldable pub written : Card → (bytes destination : List ℕ) → Written
written card bytes destination =
    -- 10: "more than 799 bytes"
    if ltb most_bytes (length bytes) then leaves (refused TooManyBytes 0) destination else
    -- 11: "destination under 80n+36 bytes, n the number of bytes given"
    if ltb (length destination) (written_length (length bytes)) then leaves (refused ShortDestination 0) destination else
    leaves (accepted (written_length (length bytes))) (recording_of card bytes over destination)
