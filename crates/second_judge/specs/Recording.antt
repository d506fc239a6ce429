-- Document 01, "Recording layout", as far as the promises name it: `file` is a list of bytes. Assumes nothing.
use Rattle.std.specs.Prelude.{ℕ, zero, suc, ◌+◌, ◌*◌, ◌%◌, ◌≤◌, ◌<◌, List, length, get_or, ◌≡◌}
use Rattle.second_judge.specs.declared.entry.Entry.{Entry}
use Rattle.second_judge.specs.declared.entry.Entry.TheVariants.{Plain, Command}

-- "Little-endian."
abbrev pub two_bytes : List ℕ → ℕ → ℕ
two_bytes file at = get_or file at 0 + 256 * get_or file (at + 1) 0

abbrev pub four_bytes : List ℕ → ℕ → ℕ
four_bytes file at = two_bytes file at + 65536 * two_bytes file (at + 2)

-- "2-3 step count n"
abbrev pub step_count : List ℕ → ℕ
step_count file = two_bytes file 2

-- "8-11 total ticks, the sum of all durations"
abbrev pub total_ticks : List ℕ → ℕ
total_ticks file = four_bytes file 8

-- "Each step is 4 bytes: duration 1 to 65,535 in two bytes; lines in one byte"; and in the last byte #103's mark
abbrev pub duration : List ℕ → ℕ → ℕ
duration file step = two_bytes file (16 + 4 * step)

abbrev pub lines : List ℕ → ℕ → ℕ
lines file step = get_or file (16 + 4 * step + 2) 0

abbrev pub mark : List ℕ → ℕ → ℕ
mark file step = get_or file (16 + 4 * step + 3) 0

-- "The recorder now marks a step before which ticks were lost: its last byte is 1." (#103)
abbrev pub Marked : List ℕ → ℕ → Type 0
Marked file step = mark file step ≡ 1

-- none of the first steps is marked
abbrev pub Unmarked : List ℕ → ℕ → Type 0
Unmarked file steps = (step : ℕ) → step < steps → Marked file step → ⊥

-- "bit 0 ATN, 1 CLK, 2 DATA": none of them is pulled; after the finish of #101 "only a pull of ATN matters"
abbrev pub AtRest : Entry → ℕ → Type 0
AtRest Plain shown = shown % 8 ≡ 0
AtRest Command shown = shown % 2 ≡ 0

-- the sum of the durations of the first steps
unfoldable pub ticks : List ℕ → ℕ → ℕ
ticks file zero = 0
ticks file (suc steps) = ticks file steps + duration file steps

-- What the tests 1 to 8 leave of a file, where none of them refuses it.
pub record Passed (file : List ℕ) (steps : ℕ) : Type 0 where
  pub few : steps ≤ 16000
  pub whole : 16 + 4 * steps ≤ length file
  pub counted : steps ≡ step_count file
  pub summed : total_ticks file ≡ ticks file steps
  pub lasting : (step : ℕ) → step < steps → 0 < duration file step
