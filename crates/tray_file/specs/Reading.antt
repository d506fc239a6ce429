-- What is read from a file that should be a tray's state file.
use Rattle.std.specs.Prelude.{ℕ, zero, suc, ◌+◌, ◌*◌, List, length, ◌≡◌, Result, Ok, Err}
use Rattle.answer.specs.Answers.{first}
use Rattle.tray.specs.{Types.Seat, Tray.seats as forty}
use Rattle.tray_file.specs.{State.heading_length, State.line_length, State.state_text}

-- How many bytes the first lines have, so many of them.
abbrev pub bytes_in : (lines : ℕ) → ℕ
bytes_in zero = 0
bytes_in (suc lines) = heading_length + line_length * lines

-- The file begins with so many lines of the state file of these seats.
abbrev pub BeginsAs : (lines : ℕ) (file : List ℕ) → List Seat → Type 0
BeginsAs lines file seats = first (bytes_in lines) file ≡ first (bytes_in lines) (state_text seats)

-- The seats, where the file is their state file. Otherwise the first line that is wrong, counted from 1: the lines before it are those of
-- some seats, and with it they are those of none. So a file that ends early is wrong in the line that is not whole, and one that goes on
-- after the last line, in the next.
pub record ReadAs (file : List ℕ) (read : Result (List Seat) ℕ) : Type 0 where
  pub right : (seats : List Seat) → read ≡ Ok seats → (length seats ≡ forty) × (file ≡ state_text seats)
  pub all_right : (seats : List Seat) → length seats ≡ forty → file ≡ state_text seats → read ≡ Ok seats
  pub some_line : read ≡ Err 0 → ⊥
  pub before : (line : ℕ) → read ≡ Err (suc line) → (seats : List Seat) × (length seats ≡ forty) × BeginsAs line file seats
  pub wrong : (line : ℕ) → read ≡ Err (suc line) → (seats : List Seat) → length seats ≡ forty → BeginsAs (suc line) file seats → ⊥
