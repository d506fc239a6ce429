-- The rule of one seat.
use Rattle.std.specs.Prelude.{Bool, true, false, Result, Ok, Err}
use Rattle.answer.specs.Types.{Refusal, VacantSeat, SeatInUse}
use Rattle.tray.specs.Types.{SeatState, Vacant, Unjudged, Passed, Failed, Seat, Call, Load, Remove, Post}

-- "A seat is vacant, unjudged, passed or failed": in use where it is not vacant.
abbrev pub is_used : SeatState → Bool
is_used Vacant = false
is_used Unjudged = true
is_used Passed = true
is_used Failed = true

abbrev pub in_use : Seat → Bool
in_use seat = is_used seat.state

-- "Load, post and remove answer 0 where accepted."
abbrev pub becomes : SeatState → Result Seat Refusal
becomes state = Ok (record { state = state })

-- A post that passes, and one that does not. "A later post replaces the earlier."
abbrev pub posted : (passes : Bool) → SeatState
posted true = Passed
posted false = Failed

-- What a call makes of a seat, by whether it is in use.
abbrev pub changed_in : (used : Bool) → Seat → Call → Result Seat Refusal
-- "Load makes a vacant seat unjudged"; "15 loading a seat in use".
changed_in false seat Load = becomes Unjudged
changed_in true seat Load = Err SeatInUse
-- "Remove makes a seat vacant, and post .. makes it passed or failed"; "14 posting to or removing from a vacant seat".
changed_in true seat Remove = becomes Vacant
changed_in true seat (Post passes) = becomes (posted passes)
changed_in false seat Remove = Err VacantSeat
changed_in false seat (Post passes) = Err VacantSeat

unfoldable pub changed : Seat → Call → Result Seat Refusal
changed seat call = changed_in (in_use seat) seat call
