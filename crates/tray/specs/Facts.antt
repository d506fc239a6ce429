-- What holds of every tray, a line each.
use Rattle.std.specs.Prelude.{ℕ, ◌+◌, Bool, true, List, length, ◌≡◌, ◌↔◌}
use Rattle.answer.specs.{Types.Answer, Types.Refusal, Types.Verdict, Types.Complete, Numbers.refusal_number, Numbers.verdict_number}
use Rattle.tray.specs.Types.{Call, Post, Passed, Failed, Seat}
use Rattle.tray.specs.{Seats.in_use, Seats.posted, Passing.passing, Passing.PassingPost, Tray.seats, Tray.seat_at, Tray.called}
use Rattle.tray.specs.{Sealing.sealing}
use Rattle.tray.specs.History.{Request, tray_after, accepted, is_load, is_removal, seats_in_use, LastPostPassed}

-- "From a vacant tray that only these calls change, loads accepted equal removals accepted plus seats in use", for every sequence of calls.
abbrev pub LoadsLaw : Type 0
LoadsLaw = (requests : List Request) → accepted is_load requests ≡ accepted is_removal requests + seats_in_use (tray_after requests)

-- A seat that has passed has a post as its last accepted call whose answer was 20 with exactly the bytes expected.
abbrev pub PassedLaw : Type 0
PassedLaw = (requests : List Request) (seat : ℕ) → (seat_at (tray_after requests) seat).state ≡ Passed → LastPostPassed seat requests

-- So a sealed tray has, for each seat in use, a post as its last accepted call whose answer was 20 with exactly the bytes expected.
abbrev pub SealedLaw : Type 0
SealedLaw =
    (requests : List Request) → sealing (tray_after requests) ≡ 1
    → (seat : ℕ) → in_use (seat_at (tray_after requests) seat) ≡ true → LastPostPassed seat requests

-- "A refusal changes nothing."
abbrev pub RefusalsLaw : Type 0
RefusalsLaw = (tray : List Seat) (seat : ℕ) (call : Call) → ((called tray seat call).answer ≡ 0 → ⊥) → (called tray seat call).tray ≡ tray

-- "Any call touches one seat at most": the others are as they were, and there are as many.
pub record OneSeat (tray : List Seat) (seat : ℕ) (call : Call) : Type 0 where
  pub others : (other : ℕ) → (other ≡ seat → ⊥) → seat_at (called tray seat call).tray other ≡ seat_at tray other
  pub as_many : length (called tray seat call).tray ≡ length tray

abbrev pub OneSeatLaw : Type 0
OneSeatLaw = (tray : List Seat) (seat : ℕ) (call : Call) → OneSeat tray seat call

-- The test of a post is what the words say.
abbrev pub PassingLaw : Type 0
PassingLaw = (answer : Answer) (buffer expected : List ℕ) → (passing answer buffer expected ≡ true) ↔ PassingPost answer buffer expected

-- "A later post replaces the earlier": an accepted post leaves its seat as it says, whatever that was before.
abbrev pub PostLaw : Type 0
PostLaw =
    (tray : List Seat) (seat : ℕ) (passes : Bool) → (called tray seat (Post passes)).answer ≡ 0
    → (seat_at (called tray seat (Post passes)).tray seat).state ≡ posted passes

-- An accepted post of an answer with this number fails its seat, whatever the rest.
abbrev pub NeverPasses : (number : ℕ) → Type 0
NeverPasses number =
    (tray : List Seat) (seat : ℕ) (answer : Answer) (buffer expected : List ℕ) → answer.number ≡ number
    → (called tray seat (Post (passing answer buffer expected))).answer ≡ 0
    → (seat_at (called tray seat (Post (passing answer buffer expected))).tray seat).state ≡ Failed

-- No number but 20 ever passes a seat: not 21, 22 or any other verdict, and not a refusal.
abbrev pub Only20Law : Type 0
Only20Law = (number : ℕ) → (number ≡ 20 → ⊥) → NeverPasses number

abbrev pub OtherVerdictsLaw : Type 0
OtherVerdictsLaw = (verdict : Verdict) → (verdict ≡ Complete → ⊥) → NeverPasses (verdict_number verdict)

abbrev pub RefusedLaw : Type 0
RefusedLaw = (refusal : Refusal) → NeverPasses (refusal_number refusal)

-- "Sealing .. answers 1 exactly if some seat is in use and all in use have passed."
pub record Sealable (tray : List Seat) : Type 0 where
  pub forty : length tray ≡ seats
  pub used : ℕ
  pub some_used : in_use (seat_at tray used) ≡ true
  pub all_used_passed : (seat : ℕ) → in_use (seat_at tray seat) ≡ true → (seat_at tray seat).state ≡ Passed

abbrev pub SealingLaw : Type 0
SealingLaw = (tray : List Seat) → (sealing tray ≡ 1) ↔ Sealable tray
