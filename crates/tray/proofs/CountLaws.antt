-- What one seat more adds to the counts: each seat is counted once. Assumes nothing.
use Rattle.std.specs.Prelude.{ℕ, ◌+◌, ◌≤◌, ◌<◌, Bool, true, false, not, ◌||◌, ◌≡◌, if◌then◌else◌}
use Rattle.std.specs.Prelude.{List, [], ◌∷◌, length, take, get_or, count_by}
use Rattle.std.proofs.lemmas.List.Sums.{sum_by-cons, count_by_more_yes, count_by_more_no, count_by-le-length}
use lib.ListN.{length-take}
use mathlib.Core.Path.{refl, ap, ◌∙◌}
use native.Mathlib.Omega.{arith}
use Rattle.tray.specs.Types.{SeatState, Vacant, Unjudged, Passed, Failed, Seat, Counts}
use Rattle.tray.specs.{Seats.is_used, Seats.in_use, Sealing.has_passed}
use Rattle.tray.specs.{Counts.is_in, Counts.counts_of, History.used_in, History.seats_in_use}

abbrev pub one_if : Bool → ℕ
one_if t = if t then 1 else 0

count_more : (state : SeatState) (seat : Seat) (tray : List Seat)
    → count_by (is_in state) (seat ∷ tray) ≡ one_if (is_in state seat) + count_by (is_in state) tray
count_more state = sum_by-cons (λ (seat : Seat). one_if (is_in state seat))

abbrev pub total : Counts → ℕ
total c = c.passed + c.failed + c.unjudged + c.vacant

-- The counts of seats in use that have not passed.
abbrev pub not_passed : Counts → ℕ
not_passed c = c.failed + c.unjudged

record Once (state : SeatState) : Type 0 where
  used : used_in (counts_of (record { state = state } ∷ [])) ≡ one_if (is_used state)
  lost : not_passed (counts_of (record { state = state } ∷ [])) ≡ one_if (not (not (is_used state) || has_passed state))
  all : total (counts_of (record { state = state } ∷ [])) ≡ 1

once : (state : SeatState) → Once state
once Vacant = record { used = refl; lost = refl; all = refl }
once Unjudged = record { used = refl; lost = refl; all = refl }
once Passed = record { used = refl; lost = refl; all = refl }
once Failed = record { used = refl; lost = refl; all = refl }

pub used_more : (seat : Seat) (tray : List Seat) → seats_in_use (seat ∷ tray) ≡ one_if (in_use seat) + seats_in_use tray
used_more seat tray =
    omega (arith, once seat.state, count_more Passed seat tray, count_more Failed seat tray, count_more Unjudged seat tray)

pub lost_more : (seat : Seat) (tray : List Seat)
    → not_passed (counts_of (seat ∷ tray)) ≡ one_if (not (not (in_use seat) || has_passed seat.state)) + not_passed (counts_of tray)
lost_more seat tray = omega (arith, once seat.state, count_more Failed seat tray, count_more Unjudged seat tray)

pub all_counted : (tray : List Seat) → total (counts_of tray) ≡ length tray
all_counted [] = refl
all_counted (seat ∷ tray) =
    omega (
      arith,
      all_counted tray,
      once seat.state,
      count_more Passed seat tray,
      count_more Failed seat tray,
      count_more Unjudged seat tray,
      count_more Vacant seat tray,
    )

-- One seat more in this state.
abbrev pub with_state : Counts → SeatState → Counts
with_state c state =
    record {
      passed = if is_in Passed (record { state = state }) then c.passed + 1 else c.passed;
      failed = if is_in Failed (record { state = state }) then c.failed + 1 else c.failed;
      unjudged = if is_in Unjudged (record { state = state }) then c.unjudged + 1 else c.unjudged;
      vacant = if is_in Vacant (record { state = state }) then c.vacant + 1 else c.vacant;
    }

one_more : (p : Seat → Bool) (tray : List Seat) (n : ℕ) (d : Seat) → n < length tray → (b : Bool) → p (get_or tray n d) ≡ b
    → count_by p (take (n + 1) tray) ≡ (if b then count_by p (take n tray) + 1 else count_by p (take n tray))
one_more p tray n d h true is = count_by_more_yes p tray n d h is
one_more p tray n d h false is = count_by_more_no p tray n d h is

same_counts : (a b : Counts) → a.passed ≡ b.passed → a.failed ≡ b.failed → a.unjudged ≡ b.unjudged → a.vacant ≡ b.vacant → a ≡ b
same_counts a b p f u v =
    ap (λ (n : ℕ). record { passed = n; failed = a.failed; unjudged = a.unjudged; vacant = a.vacant }) p
    ∙ ap (λ (n : ℕ). record { passed = b.passed; failed = n; unjudged = a.unjudged; vacant = a.vacant }) f
    ∙ ap (λ (n : ℕ). record { passed = b.passed; failed = b.failed; unjudged = n; vacant = a.vacant }) u
    ∙ ap (λ (n : ℕ). record { passed = b.passed; failed = b.failed; unjudged = b.unjudged; vacant = n }) v

-- The counts of one place more.
pub counted_on : (tray : List Seat) (n : ℕ) (d : Seat) → n < length tray → (state : SeatState)
    → (get_or tray n d).state ≡ state → counts_of (take (n + 1) tray) ≡ with_state (counts_of (take n tray)) state
counted_on tray n d h state is =
    let found : (of : SeatState) → is_in of (get_or tray n d) ≡ is_in of (record { state = state }) =
    λ of. ap (λ (s : SeatState). is_in of (record { state = s })) is in
    same_counts _ _ (one_more _ tray n d h _ (found Passed)) (one_more _ tray n d h _ (found Failed))
    (one_more _ tray n d h _ (found Unjudged)) (one_more _ tray n d h _ (found Vacant))

-- None is above the places that were passed.
pub count_at_most : (state : SeatState) (tray : List Seat) (n : ℕ) → count_by (is_in state) (take n tray) ≤ n
count_at_most state tray n = omega (arith, count_by-le-length (is_in state) (take n tray), length-take n tray)
