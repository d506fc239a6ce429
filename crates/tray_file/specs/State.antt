-- The text of a tray's state file: a heading, and a line for each seat in order.
use Prim.Native.String.{String}
use Rattle.std.specs.Prelude.{ℕ, suc, ◌/◌, ◌%◌, List, [], ◌∷◌, ◌++◌}
use Rattle.answer.specs.Text.{ascii, space, newline, digit}
use Rattle.tray.specs.Types.{SeatState, Vacant, Unjudged, Passed, Failed, Seat}

-- A state's word, to the right in eight characters.
abbrev pub state_word : SeatState → String
state_word Vacant = "  vacant"
state_word Unjudged = "unjudged"
state_word Passed = "  passed"
state_word Failed = "  failed"

-- A seat's line: its number in two digits, a space, its state, and the line's end.
unfoldable pub seat_line : (number : ℕ) → Seat → List ℕ
seat_line number seat = digit (number / 10) ∷ digit (number % 10) ∷ space ∷ (ascii (state_word seat.state) ++ (newline ∷ []))

-- The lines of seats, of which the first has this number.
unfoldable pub lines_from : (number : ℕ) → List Seat → List ℕ
lines_from number [] = []
lines_from number (seat ∷ seats) = seat_line number seat ++ lines_from (suc number) seats

-- How many bytes the heading has, a seat's line, and all of the text of forty seats, each with its line ends.
abbrev pub heading_length : ℕ
heading_length = 13

abbrev pub line_length : ℕ
line_length = 12

abbrev pub text_length : ℕ
text_length = 493

unfoldable pub state_text : List Seat → List ℕ
state_text seats = ascii "station tray" ++ (newline ∷ lines_from 0 seats)
