-- The destination with steps put down in it.
use Rattle.std.specs.Prelude.{ℕ, ◌+◌, ◌≤◌, List, length, ◌≡◌}
use Rattle.std.specs.Borrow.{MutBor}
use Rattle.std.proofs.lemmas.List.Edits.{sets}
use Rattle.recording.specs.{Types.Step, Layout.step_place, FileOf.steps_bytes}
use Rattle.writer.specs.declared.card.Card.{Card}
use Rattle.writer.specs.declared.steps.StepWriter.{StepWriter}

-- Steps stand from step `first` on, and every other byte is as before.
unfoldable pub with_steps : (destination : List ℕ) (first : ℕ) → List Step → List ℕ
with_steps destination first steps = sets destination (step_place first) (steps_bytes steps)

-- Before the first step of what was lent.
abbrev pub before_steps : MutBor (List ℕ) → Card → StepWriter
before_steps lent card = record { destination = lent; next = 0; card = card }

-- There is room for so many steps more.
abbrev pub Room : StepWriter → (count : ℕ) → Type 0
Room w count = step_place (w.next + count) ≤ length w.destination.now

-- What a function did that puts steps down from the next step on: these stand there, the step after them is the next, and the writer still
-- writes to the same place and by the same card.
pub record Put (steps : List Step) (before after : StepWriter) : Type 0 where
  pub there : after.destination.now ≡ with_steps before.destination.now before.next steps
  pub next : after.next ≡ before.next + length steps
  pub size : length after.destination.now ≡ length before.destination.now
  pub card : after.card ≡ before.card
  pub same : after.destination.ghost_name ≡ before.destination.ghost_name
