-- What an entry promises that writes a recording: of the answer and of the destination, whole, as the call leaves them.
use Rattle.std.specs.Prelude.{ℕ, List, ◌≡◌}
use Rattle.answer.specs.Answers.{first}
use Rattle.transfer.specs.Types.{Limits}
use Rattle.writer.specs.{ReadBack.ReadsBack, ReadBack.Writable, Written.Written, Written.written}
use Rattle.writer.specs.declared.card.Card.{Card}

pub record WritePromise (L : Limits) (card : Card) (bytes destination : List ℕ) (left : Written) : Type 0 where
  -- They are what the definition gives.
  pub given : left ≡ written card bytes destination
  -- Demand 2: where no refusal is due, the judge reads what was put down back as these very bytes.
  pub reads_back : Writable bytes destination → ReadsBack L (first left.answer.count left.destination) bytes
