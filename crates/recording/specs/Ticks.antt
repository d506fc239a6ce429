-- The steps of a recording, and the list of ticks that they mean.
use Rattle.std.specs.Prelude.{ℕ, zero, suc, ◌+◌, ◌≤◌, ◌<◌, Bool, false, List, [], ◌∷◌, ◌++◌, get_or, ◌≡◌}
use Rattle.answer.specs.Basics.{first_then}
use Rattle.recording.specs.{Types.Step, Layout.header_at, Layout.step_at, Layout.is_marked}

-- The n steps from step i on.
unfoldable pub steps_from : List ℕ → ℕ → ℕ → List Step
steps_from file i zero = []
steps_from file i (suc n) = step_at file i ∷ steps_from file (suc i) n

-- All steps, as many as the header says.
unfoldable pub steps_of : List ℕ → List Step
steps_of file = steps_from file 0 (header_at file).steps

-- "The sum of all durations."
unfoldable pub total_ticks : List Step → ℕ
total_ticks [] = 0
total_ticks (s ∷ steps) = s.duration + total_ticks steps

-- What a recording tells of a tick: whether ticks were lost before it, and the line byte.
pub record Tick : Type 0 where
  pub marked : Bool
  pub lines : ℕ

abbrev pub tick : (marked : Bool) (lines : ℕ) → Tick
tick marked lines = record { marked = marked; lines = lines }

-- The ticks of a step. Ticks were lost before a marked step, not inside it: "the first tick of a marked step" is marked, and no other.
abbrev pub step_ticks : Step → List Tick
step_ticks s = first_then s.duration (tick (is_marked s) s.lines) (tick false s.lines)

-- "Neighbouring steps may show the same lines; the meaning is the list of ticks."
unfoldable pub ticks : List Step → List Tick
ticks [] = []
ticks (s ∷ steps) = step_ticks s ++ ticks steps

-- The ticks that a recording means.
unfoldable pub ticks_of : List ℕ → List Tick
ticks_of file = ticks (steps_of file)

-- "No step is marked."
abbrev pub NoStepMarked : (file : List ℕ) → Type 0
NoStepMarked file = (i : ℕ) → i < (header_at file).steps → is_marked (step_at file i) ≡ false

-- The marks of a step's ticks, one by one: its first tick has the step's, and no later one has any.
pub record FirstTick (s : Step) : Type 0 where
  pub first : (beyond : Tick) → 1 ≤ s.duration → (get_or (step_ticks s) 0 beyond).marked ≡ is_marked s
  pub later : (k : ℕ) (beyond : Tick) → suc k < s.duration → (get_or (step_ticks s) (suc k) beyond).marked ≡ false

abbrev pub FirstTickLaw : Type 0
FirstTickLaw = (s : Step) → FirstTick s
