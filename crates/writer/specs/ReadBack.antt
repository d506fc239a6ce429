-- Demand 2: what the writer put down, the judge reads back. It is stated over what the judge gives, and so over document 01's phases.
use Rattle.std.specs.Prelude.{ℕ, ◌≤◌, List, [], ◌∷◌, length, ◌≡◌}
use Rattle.answer.specs.Answers.{◌over◌}
use Rattle.recording.specs.GoodForm.{Bytes}
use Rattle.transfer.specs.{Types.Limits, Limits.standard_limits}
use Rattle.judge.specs.Judged.{Judged, byte_room, ledger_room, judged}
use Rattle.writer.specs.{Card.standard_card, Written.most_bytes, Written.written_length, Written.recording_of}
use Rattle.writer.specs.declared.card.Card.{Card}

-- 20, or 21 where there were no bytes.
abbrev pub read_back_number : (string : List ℕ) → ℕ
read_back_number [] = 21
read_back_number (first ∷ others) = 20

-- A judgement has exactly the bytes of a string, and every further place of the byte buffer is as it was.
pub record ReadAs (string bytes : List ℕ) (j : Judged) : Type 0 where
  pub number : j.answer.number ≡ read_back_number string
  pub count : j.answer.count ≡ length string
  pub buffer : j.bytes ≡ string over bytes

-- A file is so judged whenever there is room enough.
abbrev pub ReadsBack : Limits → (file string : List ℕ) → Type 0
ReadsBack L file string =
    (bytes ledger : List ℕ) → byte_room ≤ length bytes → ledger_room ≤ length ledger → ReadAs string bytes (judged L file bytes ledger)

-- A card is good if this holds of the recording of every string of 0 to 799 bytes.
abbrev pub GoodCard : Limits → Card → Type 0
GoodCard L card = (string : List ℕ) → Bytes string → length string ≤ most_bytes → ReadsBack L (recording_of card string) string

-- The standard card is good under the standard limits.
abbrev pub ReadBackLaw : Type 0
ReadBackLaw = GoodCard standard_limits standard_card

-- No refusal that the writer may give is due.
pub record Writable (bytes destination : List ℕ) : Type 0 where
  pub few : length bytes ≤ most_bytes
  pub room : written_length (length bytes) ≤ length destination
