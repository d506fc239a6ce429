-- Files that are longer than the room that the program reads them into: what it says of the beginning holds of the whole file.
use Rattle.std.specs.Prelude.{ℕ, ◌≤◌, ◌<◌, false, List, length, ◌≡◌, Result}
use Rattle.answer.specs.{Types.Answer, Answers.first}
use Rattle.tray.specs.{Passing.passing, Types.Seat}
use Rattle.tray_file.specs.{State.text_length, Reading.ReadAs}

-- A state file, in a room that is longer than any.
abbrev pub LongStateLaw : Type 0
LongStateLaw =
    (file : List ℕ) (room : ℕ) (read : Result (List Seat) ℕ) → text_length < room → room ≤ length file
    → ReadAs (first room file) read → ReadAs file read

-- Expected bytes, in a room that is longer than the judge's buffer: neither what is read nor the whole passes, whatever the answer.
abbrev pub LongExpectedLaw : Type 0
LongExpectedLaw =
    (answer : Answer) (buffer expected : List ℕ) (room : ℕ) → length buffer < room → room ≤ length expected
    → (passing answer buffer (first room expected) ≡ false) × (passing answer buffer expected ≡ false)
