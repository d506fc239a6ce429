-- How many seats are in each state.
use Rattle.std.specs.Prelude.{ℕ, Bool, true, false, List, ◌++◌, codes, decimal, count_by}
use Rattle.tray.specs.Types.{SeatState, Vacant, Unjudged, Passed, Failed, Seat, Counts}

abbrev pub is_in : SeatState → Seat → Bool
is_in state seat = same state seat.state
  where
    same : SeatState → SeatState → Bool
    same Passed Passed = true
    same Failed Failed = true
    same Unjudged Unjudged = true
    same Vacant Vacant = true
    same _ _ = false

abbrev pub counts_of : List Seat → Counts
counts_of tray =
    record {
      passed = count_by (is_in Passed) tray;
      failed = count_by (is_in Failed) tray;
      unjudged = count_by (is_in Unjudged) tray;
      vacant = count_by (is_in Vacant) tray;
    }

-- What is printed of them, as `37 passed, 1 failed, 1 unjudged, 1 vacant`.
abbrev pub counts_text : Counts → List ℕ
counts_text c =
    decimal c.passed ++ codes " passed, " ++ decimal c.failed ++ codes " failed, "
    ++ decimal c.unjudged ++ codes " unjudged, " ++ decimal c.vacant ++ codes " vacant"
