-- The room law: a byte takes at least nineteen steps, or spans of equal lines.
use Rattle.std.specs.Prelude.{◌*◌, ◌≤◌, ◌<◌, List, length}
use Rattle.transfer.specs.{Types.Limits, Outcome.outcome, Spans.Span, Spans.ticks}

pub record Room (L : Limits) (spans : List Span) : Type 0 where
  pub nineteen : 19 * length (outcome L (ticks spans)).bytes ≤ length spans
  -- So 16,000 steps never hand over 1,000.
  pub few : length spans ≤ 16000 → length (outcome L (ticks spans)).bytes < 1000

-- In every run: for any spans, so also for those that a loop over the steps has read so far, the last of them in part.
abbrev pub RoomLaw : Type 0
RoomLaw = (L : Limits) (spans : List Span) → Room L spans
