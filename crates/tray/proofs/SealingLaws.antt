-- What a tray has that is sealed, and sealing by the counts of the seats. Assumes nothing.
use Rattle.std.specs.Prelude.{ℕ, zero, suc, Bool, true, false, not, ◌&&◌, ◌||◌, List, [], ◌∷◌, length, Ok, Err, ◌≡◌, eqb, ◌↔◌}
use Rattle.std.specs.Prelude.{if◌then◌else◌, ltb, ◌+◌}
use Rattle.answer.specs.Basics.{differs}
use mathlib.Core.Bool.{false≢true, and-eq-true_iff, or-true}
use mathlib.Core.Path.{refl, sym, ap, ap₂, ◌∙◌}
use native.Mathlib.Nat.{zero-add}
use native.Mathlib.Omega.{arith}
use borrow.Author.Tests.{lt-ltb, eq-eqb, ne_eqb, eqb-true, not-false}
use Rattle.answer.specs.Types.{NotFortySeats}
use Rattle.tray.specs.Types.{SeatState, Vacant, Unjudged, Passed, Failed, Seat, Counts}
use Rattle.tray.specs.{Seats.is_used, Seats.in_use, Tray.seats, Tray.seat_at}
use Rattle.tray.specs.{Counts.counts_of, History.used_in, History.seats_in_use, Facts.SealingLaw}
use Rattle.tray.specs.Sealing.{has_passed, some_in_use, all_passed, sealed, sealing_number, only_passed, sealing_by}
use Rattle.tray.proofs.{Tests.tests, CountLaws.one_if, CountLaws.not_passed, CountLaws.used_more, CountLaws.lost_more}

abbrev passes : Seat → Bool
passes seat = not (in_use seat) || has_passed seat.state

-- A seat in use has passed, as the test of it says.
used_passed : (state : SeatState) → (not (is_used state) || has_passed state ≡ true) ↔ (is_used state ≡ true → state ≡ Passed)
used_passed Vacant = (λ e u. absurd (false≢true u), λ h. refl)
used_passed Unjudged = (λ e u. absurd (false≢true e), λ h. ap has_passed (h refl))
used_passed Passed = (λ e u. refl, λ h. refl)
used_passed Failed = (λ e u. absurd (false≢true e), λ h. ap has_passed (h refl))

abbrev OnlyPassed : List Seat → Type 0
OnlyPassed tray = (seat : ℕ) → in_use (seat_at tray seat) ≡ true → (seat_at tray seat).state ≡ Passed

all_used_passed : (tray : List Seat) → all_passed tray ≡ true → OnlyPassed tray
all_used_passed [] e seat u = absurd (false≢true u)
all_used_passed (first ∷ tray) e zero u = (used_passed first.state).0 ((and-eq-true_iff (passes first) (all_passed tray)).0 e).0 u
all_used_passed (first ∷ tray) e (suc seat) u = all_used_passed tray ((and-eq-true_iff (passes first) (all_passed tray)).0 e).1 seat u

all_pass : (tray : List Seat) → OnlyPassed tray → all_passed tray ≡ true
all_pass [] h = refl
all_pass (first ∷ tray) h =
    (and-eq-true_iff (passes first) (all_passed tray)).1
    ((used_passed first.state).1 (h 0), all_pass tray (λ seat. h (suc seat)))

-- The same by the counts: some seat is in use, and none that is has not passed.
some_by_counts : (tray : List Seat) → some_in_use tray ≡ ltb 0 (seats_in_use tray)
some_by_counts [] = refl
some_by_counts (seat ∷ tray) =
    one_more (in_use seat) (some_in_use tray) (seats_in_use tray) (some_by_counts tray) ∙ ap (ltb 0) (sym (used_more seat tray))
  where
    one_more : (used some : Bool) (n : ℕ) → some ≡ ltb 0 n → used || some ≡ ltb 0 (one_if used + n)
    one_more true some n e = sym (lt-ltb 0 (1 + n) (omega arith))
    one_more false some n e = e ∙ ap (ltb 0) (sym (zero-add n))

all_by_counts : (tray : List Seat) → all_passed tray ≡ eqb (not_passed (counts_of tray)) 0
all_by_counts [] = refl
all_by_counts (seat ∷ tray) =
    one_more (passes seat) (all_passed tray) (not_passed (counts_of tray)) (all_by_counts tray)
    ∙ ap (λ (n : ℕ). eqb n 0) (sym (lost_more seat tray))
  where
    one_more : (passed all : Bool) (n : ℕ) → all ≡ eqb n 0 → passed && all ≡ eqb (one_if (not passed) + n) 0
    one_more true all n e = e ∙ ap (λ (m : ℕ). eqb m 0) (sym (zero-add n))
    one_more false all n e = sym (ne_eqb (1 + n) 0 (omega arith))

by_counts : (c : Counts) → ltb 0 (used_in c) && eqb (not_passed c) 0 ≡ only_passed c
by_counts c = grind (arith, tests)

pub sealing_by_counts : (tray : List Seat) → sealed tray ≡ sealing_by (length tray) (counts_of tray)
unfolding sealed sealing_by
sealing_by_counts tray =
    ap (λ (b : Bool). if differs (length tray) seats then Err NotFortySeats else Ok b)
    (ap₂ ◌&&◌ (some_by_counts tray) (all_by_counts tray) ∙ by_counts (counts_of tray))

-- Some seat is in use.
record SomeUsed (tray : List Seat) : Type 0 where
  place : ℕ
  used : in_use (seat_at tray place) ≡ true

some_used : (tray : List Seat) → some_in_use tray ≡ true → SomeUsed tray
some_used [] e = absurd (false≢true e)
some_used (first ∷ tray) e = by_test (in_use first) refl e (some_used tray)
  where
    by_test : (t : Bool) → in_use first ≡ t → t || some_in_use tray ≡ true → (some_in_use tray ≡ true → SomeUsed tray)
        → SomeUsed (first ∷ tray)
    by_test true u e later = record { place = 0; used = u }
    by_test false u e later = let some = later e in record { place = suc some.place; used = some.used }

is_used_lem : (tray : List Seat) (place : ℕ) → in_use (seat_at tray place) ≡ true → some_in_use tray ≡ true
is_used_lem [] place u = u
is_used_lem (first ∷ tray) zero u = ap (λ (b : Bool). b || some_in_use tray) u
is_used_lem (first ∷ tray) (suc place) u = ap (λ (b : Bool). in_use first || b) (is_used_lem tray place u) ∙ or-true (in_use first)

-- What a sealing of 1 has passed, and what gives it.
sealed_so : (d s a : Bool) → sealing_number (if d then Err NotFortySeats else Ok (s && a)) ≡ 1 → (d ≡ false) × (s ≡ true) × (a ≡ true)
sealed_so true s a e = absurd (omega arith)
sealed_so false true true e = (refl, refl, refl)
sealed_so false true false e = absurd (omega arith)
sealed_so false false a e = absurd (omega arith)

pub sealing_law : SealingLaw
unfolding sealed
sealing_law tray = (
  λ e.
      let so = sealed_so (differs (length tray) seats) (some_in_use tray) (all_passed tray) e in
      let some = some_used tray so.1 in
      record {
        forty = eqb-true (length tray) seats (not-false (eqb (length tray) seats) so.0);
        used = some.place;
        some_used = some.used;
        all_used_passed = all_used_passed tray so.2;
      },
  λ s. rw (eq-eqb (length tray) seats s.forty, is_used_lem tray s.used s.some_used, all_pass tray s.all_used_passed),
)
