-- What an entry promises that judges a file: of the answer and of both lent buffers, whole, as the call leaves them.
use Rattle.std.specs.Prelude.{ℕ, List, ◌≡◌}
use Rattle.transfer.specs.Types.{Limits}
use Rattle.judge.specs.{Judged.Judged, Judged.judged, Demand3.GoodWithRoom, Demand3.FileDemand3}

pub record JudgePromise (L : Limits) (file bytes ledger : List ℕ) (left : Judged) : Type 0 where
  -- They are what the definition gives.
  pub given : left ≡ judged L file bytes ledger
  -- Demand 3: of good form, with enough room lent, the recording is complete with a string exactly if a pair for it gives the recording
  -- and no step is marked.
  pub explained : GoodWithRoom file bytes ledger → FileDemand3 L file left
