-- What a call leaves of a tray: one seat changed at most, and none where it is refused. Assumes nothing.
use Rattle.std.specs.Prelude.{ℕ, ◌<◌, List, length, Result, Ok, Err, ◌≡◌, leb}
use Rattle.std.specs.Result.{result_and}
use Rattle.answer.specs.Basics.{differs}
use Rattle.answer.specs.{Types.Refusal, Types.NoSuchSeat, Types.NotFortySeats, Numbers.refusal_number}
use mathlib.Core.Path.{refl, subst⁻¹}
use native.Mathlib.Omega.{arith}
use lib.{ListN.length-set, Seq.get_or-set_same, Seq.get_or-set_other}
use borrow.Author.Tests.{eqb-true, leb-false, not-false}
use Rattle.tray.specs.{Types.Seat, Types.Call, Seats.changed, Facts.OneSeatLaw, Facts.RefusalsLaw}
use Rattle.tray.specs.Tray.{seats, vacant_seat, seat_at, Called, leaves, outside, changed_at, called}
use Rattle.tray.proofs.Tests.{of_test}
use Rattle.tray.proofs.ChangedLaws.{Change, is_refused, change}

-- Whatever the seat holds, a call is refused, or the seat is one of the tray.
pub of_outside : (P : Result (Unit {0}) Refusal → Type 0) (size seat : ℕ) → (seat < size → P (Ok tt))
    → ((refusal : Refusal) → (refusal_number refusal ≡ 0 → ⊥) → P (Err refusal)) → P (outside size seat)
unfolding outside
of_outside P size seat inside refused =
    of_test P (differs size seats) (λ other. refused NotFortySeats (omega arith))
    (λ same. of_test P (leb seats seat) (λ above. refused NoSuchSeat (omega arith))
    (λ below. inside (omega (arith, eqb-true size seats (not-false _ same), leb-false seats seat below))))

module _ (tray : List Seat) (seat : ℕ) (call : Call) where
  -- What holds of a tray that an accepted call leaves, and of one that a refusal leaves, holds of what a call leaves.
  pub of_called : (P : Called → Type 0)
      → ((new : Seat) → seat < length tray → Change (seat_at tray seat) call (Ok new) → P (changed_at tray seat (Ok new)))
      → ((refusal : Refusal) → (refusal_number refusal ≡ 0 → ⊥) → P (leaves (refusal_number refusal) tray)) → P (called tray seat call)
  unfolding called
  of_called P accepted refused =
      of_outside (λ (r : Result (Unit {0}) Refusal). P (changed_at tray seat (result_and r (changed (seat_at tray seat) call))))
      (length tray) seat (λ inside. by_change _ inside (change (seat_at tray seat) call)) refused
    where
      by_change : (r : Result Seat Refusal) → seat < length tray → Change (seat_at tray seat) call r → P (changed_at tray seat r)
      by_change (Ok new) inside c = accepted new inside c
      by_change (Err refusal) inside c = refused refusal (is_refused c)

pub one_seat : OneSeatLaw
one_seat tray seat call =
    record {
      others = λ other h.
          of_called tray seat call (λ (c : Called). seat_at c.tray other ≡ seat_at tray other)
          (λ new inside c. get_or-set_other tray seat other new vacant_seat h) (λ refusal some. refl);
      as_many = of_called tray seat call (λ (c : Called). length c.tray ≡ length tray)
          (λ new inside c. length-set tray seat new) (λ refusal some. refl);
    }

pub refusals_change_nothing : RefusalsLaw
refusals_change_nothing tray seat call =
    of_called tray seat call (λ (c : Called). (c.answer ≡ 0 → ⊥) → c.tray ≡ tray) (λ new inside c h. absurd (h refl))
    (λ refusal some h. refl)

-- Where a call is accepted, its seat is as the call makes it.
pub of_accepted : (tray : List Seat) (seat : ℕ) (call : Call) (P : Seat → Type 0)
    → ((new : Seat) → Change (seat_at tray seat) call (Ok new) → P new)
    → (called tray seat call).answer ≡ 0 → P (seat_at (called tray seat call).tray seat)
of_accepted tray seat call P h =
    of_called tray seat call (λ (c : Called). c.answer ≡ 0 → P (seat_at c.tray seat))
    (λ new inside c e. subst⁻¹ P (get_or-set_same tray seat new vacant_seat inside) (h new c)) (λ refusal some e. absurd (some e))
