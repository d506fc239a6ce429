-- What a call makes of a seat, a case each. Assumes nothing.
use Rattle.std.specs.Prelude.{Bool, true, false, Result, Err, ◌≡◌}
use mathlib.Core.Path.{refl}
use native.Mathlib.Omega.{arith}
use Rattle.answer.specs.{Types.Refusal, Types.VacantSeat, Types.SeatInUse, Numbers.refusal_number}
use Rattle.tray.specs.Types.{Vacant, Unjudged, Seat, Call, Load, Remove, Post}
use Rattle.tray.specs.Seats.{in_use, becomes, posted, changed_in, changed}

pub data Change (seat : Seat) : Call → Result Seat Refusal → Type 0 where
  loads : in_use seat ≡ false → Change seat Load (becomes Unjudged)
  removes : in_use seat ≡ true → Change seat Remove (becomes Vacant)
  posts : {passes : Bool} → in_use seat ≡ true → Change seat (Post passes) (becomes (posted passes))
  refuses : {call : Call} (refusal : Refusal) → (refusal_number refusal ≡ 0 → ⊥) → Change seat call (Err refusal)

change_in : (seat : Seat) (used : Bool) → in_use seat ≡ used → (call : Call) → Change seat call (changed_in used seat call)
change_in seat false e Load = loads e
change_in seat true e Load = refuses SeatInUse (omega arith)
change_in seat true e Remove = removes e
change_in seat true e (Post passes) = posts e
change_in seat false e Remove = refuses VacantSeat (omega arith)
change_in seat false e (Post passes) = refuses VacantSeat (omega arith)

pub change : (seat : Seat) (call : Call) → Change seat call (changed seat call)
unfolding changed
change seat call = change_in seat (in_use seat) refl call

pub is_refused : {seat : Seat} {call : Call} {refusal : Refusal} → Change seat call (Err refusal) → refusal_number refusal ≡ 0 → ⊥
is_refused (refuses _ some) = some
