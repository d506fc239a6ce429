-- Sealing a tray.
use Rattle.std.specs.Prelude.{ℕ, Bool, true, false, not, ◌&&◌, ◌||◌, List, length, eqb, if◌then◌else◌, Result, Ok, Err}
use Rattle.std.specs.List.{list_any, list_all}
use Rattle.answer.specs.Basics.{differs}
use Rattle.answer.specs.{Types.Refusal, Types.NotFortySeats, Numbers.refusal_number}
use Rattle.tray.specs.{Types.Seat, Types.Counts, Seats.in_use, Tray.seats}
use Rattle.tray.specs.Types.{SeatState, Vacant, Unjudged, Passed, Failed}

abbrev pub has_passed : SeatState → Bool
has_passed Vacant = false
has_passed Unjudged = false
has_passed Passed = true
has_passed Failed = false

-- "Some seat is in use."
abbrev pub some_in_use : List Seat → Bool
some_in_use tray = list_any in_use tray

-- "And all in use have passed."
abbrev pub all_passed : List Seat → Bool
all_passed tray = list_all (λ seat. not (in_use seat) || has_passed seat.state) tray

-- "16 the list isn't forty long (sealing too)"; otherwise whether some seat is in use and all in use have passed.
unfoldable pub sealed : List Seat → Result Bool Refusal
sealed tray =
    if differs (length tray) seats then Err NotFortySeats else
    Ok (some_in_use tray && all_passed tray)

-- "Sealing changes nothing and answers 1 exactly if some seat is in use and all in use have passed, otherwise 0."
abbrev pub sealing_number : Result Bool Refusal → ℕ
sealing_number (Ok true) = 1
sealing_number (Ok false) = 0
sealing_number (Err refusal) = refusal_number refusal

abbrev pub sealing : List Seat → ℕ
sealing tray = sealing_number (sealed tray)

-- The same by the counts.
abbrev pub only_passed : Counts → Bool
only_passed c = not (eqb c.passed 0) && (eqb c.failed 0 && eqb c.unjudged 0)

unfoldable pub sealing_by : (length : ℕ) → Counts → Result Bool Refusal
sealing_by length c = if differs length seats then Err NotFortySeats else Ok (only_passed c)
