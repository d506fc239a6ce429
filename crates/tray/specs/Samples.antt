-- Calls, posts and sealings written out: every number, every limit at one below, at it and above, and which refusal comes first.
use Rattle.std.specs.Prelude.{ℕ, true, false, List, [], ◌∷◌, ◌++◌, replicate, ◌≡◌}
use Rattle.answer.specs.Types.{Answer}
use Rattle.tray.specs.Types.{SeatState, Vacant, Unjudged, Passed, Failed, Seat, Load, Remove, Post}
use Rattle.tray.specs.{Passing.passing, Tray.leaves, Tray.called, Sealing.sealing}

-- So many seats in this state.
abbrev pub all : (count : ℕ) → SeatState → List Seat
all count state = replicate count (record { state = state })

-- Forty seats of which the first is in this state, and the others are vacant.
abbrev pub first : SeatState → List Seat
first state = record { state = state } ∷ all 39 Vacant

pub record CallSamples : Type 0 where
  -- "Load makes a vacant seat unjudged"; "15 loading a seat in use".
  pub load_vacant : called (first Vacant) 0 Load ≡ leaves 0 (first Unjudged)
  pub load_unjudged : called (first Unjudged) 0 Load ≡ leaves 15 (first Unjudged)
  pub load_passed : called (first Passed) 0 Load ≡ leaves 15 (first Passed)
  pub load_failed : called (first Failed) 0 Load ≡ leaves 15 (first Failed)
  -- "Remove makes a seat vacant"; "14 posting to or removing from a vacant seat".
  pub remove_vacant : called (first Vacant) 0 Remove ≡ leaves 14 (first Vacant)
  pub remove_unjudged : called (first Unjudged) 0 Remove ≡ leaves 0 (first Vacant)
  pub remove_passed : called (first Passed) 0 Remove ≡ leaves 0 (first Vacant)
  pub remove_failed : called (first Failed) 0 Remove ≡ leaves 0 (first Vacant)
  pub post_vacant : called (first Vacant) 0 (Post true) ≡ leaves 14 (first Vacant)
  pub post_unjudged : called (first Unjudged) 0 (Post true) ≡ leaves 0 (first Passed)
  pub post_failing : called (first Unjudged) 0 (Post false) ≡ leaves 0 (first Failed)
  -- "A later post replaces the earlier."
  pub post_passed : called (first Passed) 0 (Post false) ≡ leaves 0 (first Failed)
  pub post_failed : called (first Failed) 0 (Post true) ≡ leaves 0 (first Passed)
  -- "13 seat 40 or above"; "16 the list isn't forty long", first of all.
  pub last_seat : called (all 40 Vacant) 39 Load ≡ leaves 0 (all 39 Vacant ++ all 1 Unjudged)
  pub no_such_seat : called (all 40 Passed) 40 Load ≡ leaves 13 (all 40 Passed)
  pub no_such_vacant_seat : called (all 40 Vacant) 41 Remove ≡ leaves 13 (all 40 Vacant)
  pub too_short : called (all 39 Vacant) 40 Remove ≡ leaves 16 (all 39 Vacant)
  pub too_long : called (all 41 Vacant) 0 Load ≡ leaves 16 (all 41 Vacant)

abbrev answer : (number count : ℕ) → Answer
answer number count = record { number = number; tick = 1910; step = 24; count = count }

pub record PostSamples : Type 0 where
  -- The buffer goes on after the bytes that were handed over.
  pub as_expected : passing (answer 20 2) (65 ∷ 66 ∷ 67 ∷ []) (65 ∷ 66 ∷ []) ≡ true
  pub cut : passing (answer 22 2) (65 ∷ 66 ∷ 67 ∷ []) (65 ∷ 66 ∷ []) ≡ false
  pub empty_stream : passing (answer 21 0) (65 ∷ 66 ∷ 67 ∷ []) [] ≡ false
  pub one_byte_more : passing (answer 20 3) (65 ∷ 66 ∷ 67 ∷ []) (65 ∷ 66 ∷ []) ≡ false
  pub one_byte_less : passing (answer 20 1) (65 ∷ 66 ∷ 67 ∷ []) (65 ∷ 66 ∷ []) ≡ false
  pub first_byte_other : passing (answer 20 2) (64 ∷ 66 ∷ 67 ∷ []) (65 ∷ 66 ∷ []) ≡ false
  pub last_byte_other : passing (answer 20 2) (65 ∷ 67 ∷ 67 ∷ []) (65 ∷ 66 ∷ []) ≡ false
  pub buffer_too_short : passing (answer 20 2) (65 ∷ []) (65 ∷ 66 ∷ []) ≡ false
  -- By the letter; the judge never gives such an answer (`PostedLaw`).
  pub no_byte : passing (answer 20 0) (65 ∷ []) [] ≡ true

pub record SealSamples : Type 0 where
  pub vacant_tray : sealing (all 40 Vacant) ≡ 0
  pub one_passed : sealing (first Passed) ≡ 1
  pub all_used_passed : sealing (all 40 Passed) ≡ 1
  pub one_unjudged : sealing (all 39 Passed ++ all 1 Unjudged) ≡ 0
  pub one_failed : sealing (all 39 Passed ++ all 1 Failed) ≡ 0
  pub none_passed : sealing (first Unjudged) ≡ 0
  pub too_short : sealing (all 39 Passed) ≡ 16
  pub too_long : sealing (all 41 Passed) ≡ 16
