-- The tray joined to the judge: what a post of what the judge gave and left comes to.
use Rattle.std.specs.Prelude.{ℕ, List, [], ◌≡◌, ◌↔◌}
use Rattle.transfer.specs.{Types.Limits, Demand3.Consistent, Demand3.Explained}
use Rattle.judge.specs.{Judged.Judged, Judged.judged, Judged.line_list, Demand3.CompleteWith}
use Rattle.recording.specs.Ticks.{NoStepMarked}
use Rattle.tray.specs.Types.{Post, Passed, Seat}
use Rattle.tray.specs.{Passing.passing, Tray.Called, Tray.seat_at, Tray.called}

module _ (L : Limits) (file bytes ledger expected : List ℕ) (tray : List Seat) (seat : ℕ) where
  -- What the judge gives of a recording, by these limits, and what a post of that to a seat leaves.
  abbrev pub given : Judged
  given = judged L file bytes ledger

  abbrev pub left : Called
  left = called tray seat (Post (passing given.answer given.bytes expected))

  -- The post was accepted, and the seat has passed.
  pub record Passes : Type 0 where
    pub accepted : left.answer ≡ 0
    pub passed : (seat_at left.tray seat).state ≡ Passed

  pub record Posted : Type 0 where
    -- An accepted post passes its seat exactly if the recording is complete with the expected string,
    pub exactly : left.answer ≡ 0 → Passes ↔ CompleteWith given expected
    -- and so only if a rule-keeping pair sends it and no step is marked.
    pub explained : Passes → Explained L (line_list file) expected × NoStepMarked file
    -- With no bytes expected none passes: a transfer of no byte is never complete.
    pub some_byte : Passes → expected ≡ [] → ⊥

-- For all times that are consistent, and so for data and for commands.
abbrev pub PostedLaw : Type 0
PostedLaw =
    (L : Limits) → Consistent L → (file bytes ledger expected : List ℕ) (tray : List Seat) (seat : ℕ)
    → Posted L file bytes ledger expected tray seat
