-- Recordings written out as steps, and document 01's S1 so: its steps, and its whole file as it is printed there.
use Rattle.std.specs.Prelude.{ℕ, zero, suc, List, [], ◌∷◌, ◌++◌}
use Rattle.recording.specs.{Types.Step, Layout.mark}

-- A step, "as duration:lines".
infix 90 ◌∶◌
abbrev pub ◌∶◌ : (duration lines : ℕ) → Step
d ∶ l = record { duration = d; lines = l; last = 0 }

-- The same step with the recorder's mark: ticks were lost before it.
abbrev pub lost : Step → Step
lost s = record { duration = s.duration; lines = s.lines; last = mark }

-- "70:2 60:0", so many times.
abbrev pub zeros : (times : ℕ) → List Step
zeros zero = []
zeros (suc times) = 70 ∶ 2 ∷ 60 ∶ 0 ∷ zeros times

-- S1 with other durations: the 220, the 80 and the 40 before the bits, the first valid time, and the last hold.
abbrev pub s1_with : (gap acknowledgement response valid hold : ℕ) → List Step
s1_with gap acknowledgement response valid hold =
    200 ∶ 6 ∷ 50 ∶ 4 ∷ gap ∶ 0 ∷ acknowledgement ∶ 4 ∷ response ∶ 0 ∷ 70 ∶ 6 ∷ valid ∶ 4
    ∷ (zeros 5
    ++ (70 ∶ 6 ∷ 60 ∶ 4 ∷ 70 ∶ 2 ∷ 60 ∶ 0 ∷ 30 ∶ 2 ∷ hold ∶ 6 ∷ 50 ∶ 4 ∷ 100 ∶ 0 ∷ []))

abbrev pub s1 : List Step
s1 = s1_with 220 80 40 60 200

-- "The byte 0x80, the 30:2 step left out", with another last hold.
abbrev pub s80_with : (hold : ℕ) → List Step
s80_with hold =
    200 ∶ 6 ∷ 50 ∶ 4 ∷ 220 ∶ 0 ∷ 80 ∶ 4 ∷ 40 ∶ 0
    ∷ (zeros 7 ++ (70 ∶ 6 ∷ 60 ∶ 4 ∷ hold ∶ 6 ∷ 50 ∶ 4 ∷ 100 ∶ 0 ∷ []))

-- S1's "whole file": the header's bytes as document 01 prints them, and each step in four bytes.
abbrev pub s1_file : List ℕ
s1_file =
    0x01 ∷ 0x00 ∷ 0x19 ∷ 0x00 ∷ 0x10 ∷ 0x00 ∷ 0x00 ∷ 0x00 ∷ 0xDA ∷ 0x07 ∷ 0x00 ∷ 0x00 ∷ 0x74 ∷ 0x00 ∷ 0x00 ∷ 0x00
    -- 200:6 50:4 220:0 80:4 40:0 70:6 60:4
    ∷ 200 ∷ 0 ∷ 6 ∷ 0 ∷ 50 ∷ 0 ∷ 4 ∷ 0 ∷ 220 ∷ 0 ∷ 0 ∷ 0 ∷ 80 ∷ 0 ∷ 4 ∷ 0 ∷ 40 ∷ 0 ∷ 0 ∷ 0 ∷ 70 ∷ 0 ∷ 6 ∷ 0 ∷ 60 ∷ 0 ∷ 4 ∷ 0
    -- "five times 70:2 60:0"
    ∷ 70 ∷ 0 ∷ 2 ∷ 0 ∷ 60 ∷ 0 ∷ 0 ∷ 0 ∷ 70 ∷ 0 ∷ 2 ∷ 0 ∷ 60 ∷ 0 ∷ 0 ∷ 0 ∷ 70 ∷ 0 ∷ 2 ∷ 0 ∷ 60 ∷ 0 ∷ 0 ∷ 0
    ∷ 70 ∷ 0 ∷ 2 ∷ 0 ∷ 60 ∷ 0 ∷ 0 ∷ 0 ∷ 70 ∷ 0 ∷ 2 ∷ 0 ∷ 60 ∷ 0 ∷ 0 ∷ 0
    -- "then 70:6 60:4 70:2 60:0 30:2 200:6 50:4 100:0"
    ∷ 70 ∷ 0 ∷ 6 ∷ 0 ∷ 60 ∷ 0 ∷ 4 ∷ 0 ∷ 70 ∷ 0 ∷ 2 ∷ 0 ∷ 60 ∷ 0 ∷ 0 ∷ 0
    ∷ 30 ∷ 0 ∷ 2 ∷ 0 ∷ 200 ∷ 0 ∷ 6 ∷ 0 ∷ 50 ∷ 0 ∷ 4 ∷ 0 ∷ 100 ∷ 0 ∷ 0 ∷ 0 ∷ []
