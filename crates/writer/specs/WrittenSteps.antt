-- Document 01, "What the writer puts down", sentence by sentence.
use Rattle.std.specs.Prelude.{ℕ, zero, suc, ◌+◌, ◌*◌, ◌/◌, ◌%◌, List, [], ◌∷◌, ◌++◌}
use Rattle.recording.specs.Types.{Step}
use Rattle.writer.specs.declared.card.Card.{Card}

-- (c,d) for so many ticks. CLK is bit 1 of the line byte, DATA bit 2; "ATN and SRQ stay released".
abbrev pub shows : (clk dat duration : ℕ) → Step
shows c d duration = record { duration = duration; lines = 2 * c + 4 * d; last = 0 }

module _ (card : Card) where
  -- "(1,1) 200, (0,1) 50": every byte begins so, what follows the last byte, and the recording of no bytes.
  abbrev pub opening : List Step
  opening = shows 1 1 card.hold ∷ shows 0 1 card.ready_to_send ∷ []

  -- "(0,0) 220, (0,1) 80", and (0,0) for so many ticks.
  abbrev pub acknowledged : (after : ℕ) → List Step
  acknowledged after = shows 0 0 card.end_gap ∷ shows 0 1 card.acknowledgement ∷ shows 0 0 after ∷ []

  -- "Each bit (1,b) 70, (0,b) 60": the lowest k bits of a value, least significant first.
  unfoldable pub bit_steps : (k value : ℕ) → List Step
  bit_steps zero value = []
  bit_steps (suc k) value =
      shows 1 (value % 2) card.set_up
      ∷ shows 0 (value % 2) card.valid
      ∷ bit_steps k (value / 2)

  -- "Each bit ..; (1,0) 30."
  abbrev pub value_steps : (value : ℕ) → List Step
  value_steps value = bit_steps 8 value ++ (shows 1 0 card.take ∷ [])

  -- "For each byte: (1,1) 200, (0,1) 50, (0,0) 60; each bit ..; (1,0) 30." What stands for the 60 is `gap`.
  unfoldable pub byte_steps : (gap : List Step) (value : ℕ) → List Step
  byte_steps gap value = opening ++ (gap ++ value_steps value)

  abbrev pub plain_gap : List Step
  plain_gap = shows 0 0 card.gap ∷ []

  -- "The last byte has (0,0) 220, (0,1) 80, (0,0) 40 in place of the 60."
  abbrev pub end_gap : List Step
  end_gap = acknowledged card.response

  -- "Then (1,1) 200, (0,1) 50, (0,0) 100."
  abbrev pub closing : List Step
  closing = opening ++ (shows 0 0 card.silence ∷ [])

  -- One byte or more: the first, and those that follow it.
  unfoldable pub sent_steps : (first : ℕ) (others : List ℕ) → List Step
  sent_steps first [] = byte_steps end_gap first ++ closing
  sent_steps first (second ∷ others) = byte_steps plain_gap first ++ sent_steps second others

  -- "No bytes: (1,1) 200, (0,1) 50, (0,0) 220, (0,1) 80, (0,0) 300."
  abbrev pub empty_steps : List Step
  empty_steps = opening ++ acknowledged card.no_response

  -- The steps of the recording of a string.
  unfoldable pub written_steps : List ℕ → List Step
  written_steps [] = empty_steps
  written_steps (first ∷ others) = sent_steps first others
