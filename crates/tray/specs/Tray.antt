-- The calls that change a tray, over the whole list.
use Rattle.std.specs.Prelude.{ℕ, List, length, set, get_or, leb, if◌then◌else◌, Result, Ok, Err}
use Rattle.std.specs.Result.{result_and}
use Rattle.answer.specs.Basics.{differs}
use Rattle.answer.specs.{Types.Refusal, Types.NoSuchSeat, Types.NotFortySeats, Numbers.refusal_number}
use Rattle.tray.specs.{Types.Vacant, Types.Seat, Types.Call, Seats.changed}

-- "A lent list of forty seat records."
abbrev pub seats : ℕ
seats = 40

abbrev pub vacant_seat : Seat
vacant_seat = record { state = Vacant }

abbrev pub seat_at : List Seat → (seat : ℕ) → Seat
seat_at tray seat = get_or tray seat vacant_seat

-- What a call leaves: its answer, and the tray.
pub record Called : Type 0 where
  pub answer : ℕ
  pub tray : List Seat

abbrev pub leaves : (answer : ℕ) (tray : List Seat) → Called
leaves answer tray = record { answer = answer; tray = tray }

-- The number of an answer: "load, post and remove answer 0 where accepted".
abbrev pub answer_of : Result (Unit {0}) Refusal → ℕ
answer_of (Ok _) = 0
answer_of (Err refusal) = refusal_number refusal

-- The refusals that are given whatever the seat holds: "in order: 16 the list isn't forty long .., 13 seat 40 or above".
unfoldable pub outside : (length seat : ℕ) → Result (Unit {0}) Refusal
outside length seat =
    if differs length seats then Err NotFortySeats else
    if leb seats seat then Err NoSuchSeat else Ok tt

-- The seat is changed, and no other; a refusal leaves the tray.
abbrev pub changed_at : List Seat → (seat : ℕ) → Result Seat Refusal → Called
changed_at tray seat (Ok new) = leaves 0 (set tray seat new)
changed_at tray seat (Err refusal) = leaves (refusal_number refusal) tray

-- What a call leaves of a tray. "A refusal changes nothing; any call touches one seat at most."
unfoldable pub called : (tray : List Seat) (seat : ℕ) → Call → Called
called tray seat call = changed_at tray seat (result_and (outside (length tray) seat) (changed (seat_at tray seat) call))
