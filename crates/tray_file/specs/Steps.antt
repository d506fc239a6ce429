-- How a state file is read: what the functions promise one another. What the reading promises is in specs/Reading.antt.
use Prim.Native.Char.{code}
use Rattle.std.specs.Prelude.{ℕ, ◌+◌, ◌-◌, ◌*◌, ◌/◌, ◌≤◌, ◌<◌, List, length, get_or, eqb, ltb, ◌≡◌, if◌then◌else◌}
use Rattle.tray.specs.Types.{SeatState, Vacant, Unjudged, Passed, Failed, Seat}
use Rattle.tray.specs.Tray.{seats as forty, seat_at}
use Rattle.tray_file.specs.State.{heading_length, line_length, text_length}

-- The place of the byte by which the four words differ: the sixth of the seat's line.
abbrev pub telling_place : (number : ℕ) → ℕ
telling_place number = heading_length + number * line_length + 5

-- The state that this byte tells, if it is one of the four.
unfoldable pub state_told_by : (byte : ℕ) → SeatState
state_told_by byte =
    if eqb byte (code "j") then Unjudged else
    if eqb byte (code "p") then Passed else
    if eqb byte (code "f") then Failed else Vacant

abbrev pub seat_told_by : (byte : ℕ) → Seat
seat_told_by byte = record { state = state_told_by byte }

-- The seats that these bytes tell.
pub record SeatsTold (file : List ℕ) (seats : List Seat) : Type 0 where
  pub of_forty : length seats ≡ forty
  pub each : (number : ℕ) → number < forty → seat_at seats number ≡ seat_told_by (get_or file (telling_place number) 0)

-- Up to this place, and no further, the file and a state file's text are the same.
pub record SameUntil (file text : List ℕ) (place : ℕ) : Type 0 where
  pub in_file : place ≤ length file
  pub in_text : place ≤ text_length
  pub same : (k : ℕ) → k < place → get_or file k 0 ≡ get_or text k 0
  pub other : place < text_length → place < length file → get_or file place 0 ≡ get_or text place 0 → ⊥

-- The line that a place is in, counted from 1.
unfoldable pub line_of : (place : ℕ) → ℕ
line_of place = if ltb place heading_length then 1 else (place - heading_length) / line_length + 2
