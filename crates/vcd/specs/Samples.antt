-- Recordings worked out by hand.
use Rattle.std.specs.Prelude.{ℕ, List, [], ◌∷◌, ◌++◌, ◌≡◌}
use Rattle.recording.specs.{Types.Step, SampleSteps.◌∶◌, SampleSteps.lost}
use Rattle.vcd.specs.{Dump.heading, Dump.dump, Text.in_lines}

-- (1,1) for 200 ticks, (0,1) for 50 and again for 25, and (0,0) with ATN and SRQ for 100.
abbrev pub sample_steps : List Step
sample_steps = 200 ∶ 6 ∷ 50 ∶ 4 ∷ 25 ∶ 4 ∷ 100 ∶ 9 ∷ []

abbrev pub sample_text : List ℕ
sample_text =
    in_lines
    ("#0" ∷ "1A" ∷ "0C" ∷ "0D" ∷ "1S" ∷ "0L"
    ∷ "#200" ∷ "1C"
    ∷ "#275" ∷ "0A" ∷ "1D" ∷ "0S"
    ∷ "#375" ∷ [])

-- Steps before which ticks were lost: the first; two of one tick each, followed by an unmarked one that shows the same; one of 30 ticks;
-- and one of a single tick, followed by an unmarked one that shows other lines.
abbrev pub marked_steps : List Step
marked_steps = lost (19 ∶ 6) ∷ lost (1 ∶ 4) ∷ lost (1 ∶ 4) ∷ 39 ∶ 4 ∷ lost (30 ∶ 0) ∷ lost (1 ∶ 2) ∷ 9 ∶ 0 ∷ []

abbrev pub marked_text : List ℕ
marked_text =
    in_lines
    ("#0" ∷ "1A" ∷ "0C" ∷ "0D" ∷ "1S" ∷ "1L"
    ∷ "#1" ∷ "0L"
    ∷ "#19" ∷ "1C" ∷ "1L"
    ∷ "#21" ∷ "0L"
    ∷ "#60" ∷ "1D" ∷ "1L"
    ∷ "#61" ∷ "0L"
    ∷ "#90" ∷ "0C" ∷ "1L"
    ∷ "#91" ∷ "1C" ∷ "0L"
    ∷ "#100" ∷ [])

abbrev pub SampleLaw : Type 0
SampleLaw = dump sample_steps ≡ heading ++ sample_text

abbrev pub MarkedLaw : Type 0
MarkedLaw = dump marked_steps ≡ heading ++ marked_text
