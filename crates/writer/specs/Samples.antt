-- What is put down, answered and left for some strings and destinations, written out.
use Rattle.std.specs.Prelude.{ℕ, List, [], ◌∷◌, ◌++◌, map, replicate, ◌≡◌}
use Rattle.recording.specs.{Types.Step, FileOf.file_of, SampleSteps.◌∶◌, SampleSteps.zeros, SampleSteps.s1_file}
use Rattle.writer.specs.Card.{standard_card}
use Rattle.writer.specs.Written.{recording_of, Written, leaves, written}

-- "No bytes: (1,1) 200, (0,1) 50, (0,0) 220, (0,1) 80, (0,0) 300."
abbrev pub no_byte_steps : List Step
no_byte_steps = 200 ∶ 6 ∷ 50 ∶ 4 ∷ 220 ∶ 0 ∷ 80 ∶ 4 ∷ 300 ∶ 0 ∷ []

-- A byte that is not the last, and the last one.
abbrev pub two_byte_steps : List Step
two_byte_steps =
    200 ∶ 6 ∷ 50 ∶ 4 ∷ 60 ∶ 0 ∷ 70 ∶ 6 ∷ 60 ∶ 4
    ∷ (zeros 5 ++ (70 ∶ 6 ∷ 60 ∶ 4 ∷ 70 ∶ 2 ∷ 60 ∶ 0 ∷ 30 ∶ 2 ∷ 200 ∶ 6 ∷ 50 ∶ 4 ∷ 220 ∶ 0 ∷ 80 ∶ 4 ∷ 40 ∶ 0
    ∷ (zeros 7 ++ (70 ∶ 6 ∷ 60 ∶ 4 ∷ 30 ∶ 2 ∷ 200 ∶ 6 ∷ 50 ∶ 4 ∷ 100 ∶ 0 ∷ []))))

abbrev pub WritesTwoBytes : Type 0
WritesTwoBytes = recording_of standard_card (0x41 ∷ 0x80 ∷ []) ≡ file_of two_byte_steps

-- The bytes and the destination that the writer is given, its number and count, and what the destination then holds.
pub data Writing : Type 0 where
  writing : (bytes destination : List ℕ) (number count : ℕ) (holds : List ℕ) → Writing

abbrev pub writings : List Writing
writings =
    -- "S1. The byte 0x41, whole file", byte for byte, and two further places.
    writing (0x41 ∷ []) (replicate 118 0xA5) 0 116 (s1_file ++ (0xA5 ∷ 0xA5 ∷ []))
    -- No bytes, with places enough and with one too few.
    ∷ writing [] (replicate 36 0xA5) 0 36 (file_of no_byte_steps)
    ∷ writing [] (replicate 35 0xA5) 11 0 (replicate 35 0xA5)
    -- 799 bytes are not too many; 800 are, and that is tested first.
    ∷ writing (replicate 799 0) [] 11 0 []
    ∷ writing (replicate 800 0) [] 10 0 []
    ∷ []

abbrev pub written_for : Writing → Written
written_for (writing bytes destination number count holds) = written standard_card bytes destination

abbrev pub expected_for : Writing → Written
expected_for (writing bytes destination number count holds) =
    leaves (record { number = number; tick = 0; step = 0; count = count }) holds

abbrev pub WritingsHold : Type 0
WritingsHold = map written_for writings ≡ map expected_for writings
