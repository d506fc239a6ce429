-- The other way round: the bytes of a recording that has given steps.
use Rattle.std.specs.Prelude.{ℕ, ◌/◌, ◌%◌, ◌≤◌, List, [], ◌∷◌, ◌++◌, length, ◌≡◌}
use Rattle.recording.specs.{Types.Header, Types.Step, Ticks.steps_of, Ticks.total_ticks, GoodForm.GoodStep, GoodForm.GoodForm}
use Rattle.recording.specs.Layout.{header_size, good_version, most_steps, longest_duration, file_length}

-- A number in two bytes and in four, little-endian.
abbrev pub two_bytes : ℕ → List ℕ
two_bytes n = n % 256 ∷ n / 256 % 256 ∷ []

abbrev pub four_bytes : ℕ → List ℕ
four_bytes n = n % 256 ∷ n / 256 % 256 ∷ n / 65536 % 256 ∷ n / 16777216 % 256 ∷ []

-- "0-1 version, ..; 2-3 step count n, ..; 4-7 offset of the first step, ..; 8-11 total ticks, ..; 12-15 file length, .."
unfoldable pub header_bytes : Header → List ℕ
header_bytes h =
    two_bytes h.version ++ (two_bytes h.steps ++ (four_bytes h.offset ++ (four_bytes h.total ++ four_bytes h.length)))

-- "Duration .. in two bytes; lines in one byte ..; one zero byte", or the mark.
unfoldable pub step_bytes : Step → List ℕ
step_bytes s = two_bytes s.duration ++ (s.lines ∷ s.last ∷ [])

unfoldable pub steps_bytes : List Step → List ℕ
steps_bytes [] = []
steps_bytes (s ∷ steps) = step_bytes s ++ steps_bytes steps

-- The header of a recording of so many steps and ticks.
abbrev pub good_header : (steps total : ℕ) → Header
good_header steps total =
    record {
      version = good_version;
      steps = steps;
      offset = header_size;
      total = total;
      length = file_length steps;
    }

-- The recording of given steps.
unfoldable pub file_of : List Step → List ℕ
file_of steps = header_bytes (good_header (length steps) (total_ticks steps)) ++ steps_bytes steps

-- Steps that a recording can have: good, and their durations fit two bytes.
abbrev pub Recordable : List Step → Type 0
Recordable [] = Unit {0}
Recordable (s ∷ steps) = (GoodStep s × (s.duration ≤ longest_duration)) × Recordable steps

-- At most 16,000 such steps make a recording of good form that has these very steps.
pub record FileOf (steps : List Step) : Type 0 where
  pub good : GoodForm (file_of steps) (length steps)
  pub steps_back : steps_of (file_of steps) ≡ steps

abbrev pub FileOfLaw : Type 0
FileOfLaw = (steps : List Step) → length steps ≤ most_steps → Recordable steps → FileOf steps
