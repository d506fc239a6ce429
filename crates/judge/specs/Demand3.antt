-- Demand 3 about a file: the statement of the crate transfer (its specs/Demand3.antt), said of what the judge leaves.
use Rattle.std.specs.Prelude.{ℕ, ◌≤◌, List, [], ◌∷◌, length, ◌≡◌}
use Rattle.answer.specs.Answers.{first}
use Rattle.recording.specs.{GoodForm.GoodForm, Ticks.NoStepMarked}
use Rattle.transfer.specs.{Types.Limits, Types.Byte, Demand3.Demand3}
use Rattle.judge.specs.Judged.{Judged, byte_room, ledger_room, line_list}

-- "Of good form, with enough room lent, if no refusal that the judge may give is due."
pub record GoodWithRoom (file bytes ledger : List ℕ) : Type 0 where
  pub steps : ℕ
  pub good_form : GoodForm file steps
  pub byte_room_lent : byte_room ≤ length bytes
  pub ledger_room_lent : ledger_room ≤ length ledger

-- "Complete with a string is number 20, the string's length as count, and the byte buffer beginning with the string."
pub record CompleteWith (j : Judged) (string : List ℕ) : Type 0 where
  pub number : j.answer.number ≡ 20
  pub count : j.answer.count ≡ length string
  pub begins : first (length string) j.bytes ≡ string

-- A string's bytes, each with its two ticks as a ledger begins with them.
abbrev pub dated : (string ledger : List ℕ) → List Byte
dated [] ledger = []
dated (value ∷ string) [] = []
dated (value ∷ string) (let_go ∷ []) = []
dated (value ∷ string) (let_go ∷ taken ∷ ledger) =
    record { value = value; let_go = let_go; take = taken } ∷ dated string ledger

-- Complete with a string exactly if a pair for it gives the recording "and no step is marked" (#103); the pair shown by the recording and
-- the ledger is such a pair; every other one has each tick the same or later; and if there is none for any string, or a step is marked,
-- the number is never 20.
abbrev pub FileDemand3 : Limits → (file : List ℕ) → Judged → Type 0
FileDemand3 L file j =
    Demand3 L (line_list file) (NoStepMarked file) (j.answer.number ≡ 20) (CompleteWith j) (λ string. dated string j.ledger)
