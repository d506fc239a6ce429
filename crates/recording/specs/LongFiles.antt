-- A file longer than any recording: however it goes on, its beginning decides for what it is refused. So a reader may leave off after
-- one byte more than the longest recording has.
use Rattle.std.specs.Prelude.{ℕ, ◌<◌, List, ◌++◌, length, ◌≡◌, ltb, if◌then◌else◌}
use Rattle.answer.specs.Basics.{differs}
use Rattle.recording.specs.{Types.Header, Form.form_of, Form.refused_at}
use Rattle.recording.specs.Layout.{header_at, header_size, good_version, most_steps, file_length}
use Rattle.answer.specs.Types.{Refusal, WrongVersion, TooManySteps, WrongOffset, WrongLength}

-- 16+4n for the largest n: 64,016 bytes.
abbrev pub longest_recording : ℕ
longest_recording = file_length most_steps

-- What such a file is refused for: 2, 3 or 4 by its header, and otherwise 5, for its length is not 16+4n.
unfoldable pub long_refusal : Header → Refusal
long_refusal h =
    if differs h.version good_version then WrongVersion else
    if ltb most_steps h.steps then TooManySteps else
    if differs h.offset header_size then WrongOffset else
    WrongLength

abbrev pub LongFormLaw : Type 0
LongFormLaw = (beginning rest : List ℕ) → longest_recording < length beginning
    → form_of (beginning ++ rest) ≡ refused_at (long_refusal (header_at beginning)) 0
