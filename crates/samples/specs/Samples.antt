-- Document 01, "Sample recordings": the starred ones, in its order, each judged as a whole file; a cut after a byte; every refusal;
-- recordings for the command entry; and marked ones.
use Rattle.std.specs.Prelude.{ℕ, zero, suc, ◌+◌, List, [], ◌∷◌, ◌++◌, map, replicate, ◌≡◌}
use Rattle.answer.specs.{Types.Answer, Answers.◌over◌}
use Rattle.recording.specs.{Types.Step, FileOf.header_bytes, FileOf.file_of}
use Rattle.recording.specs.SampleSteps.{◌∶◌, lost, zeros, s1_with, s1, s80_with, s1_file}
use Rattle.transfer.specs.{Types.Limits, Limits.standard_limits, Limits.command_limits, Spans.s1 as s1Spans, Spans.ticks}
use Rattle.judge.specs.Judged.{Judged, leaves, ticks_shown, judged}

-- A file and the buffers lent with it, the answer, and what the two buffers then begin with.
pub data Sample : Type 0 where
  sample : (file lent-bytes lent-ledger : List ℕ) → Answer → (bytes ledger : List ℕ) → Sample

abbrev pub judged_sample : Limits → Sample → Judged
judged_sample L (sample file lent-bytes lent-ledger answer bytes ledger) = judged L file lent-bytes lent-ledger

abbrev pub expected_of : Sample → Judged
expected_of (sample file lent-bytes lent-ledger answer bytes ledger) = leaves answer (bytes over lent-bytes) (ledger over lent-ledger)

-- Buffers just large enough. Every place of them has a mark, so that a place which should have kept it is seen.
abbrev pub marked_bytes : List ℕ
marked_bytes = replicate 1000 0xA5

abbrev pub marked_ledger : List ℕ
marked_ledger = replicate 2000 0xA5A5A5A5

-- The recording of some steps, judged with that room: one that hands no byte over, and one that is complete with a byte.
abbrev pub judges : List Step → Answer → (bytes ledger : List ℕ) → Sample
judges steps answer bytes ledger = sample (file_of steps) marked_bytes marked_ledger answer bytes ledger

abbrev pub stops : List Step → (number tick step : ℕ) → Sample
stops steps number tick step = judges steps (record { number = number; tick = tick; step = step; count = 0 }) [] []

abbrev pub sends : List Step → (tick step value let_go take : ℕ) → Sample
sends steps tick step value let_go take =
    judges steps (record { number = 20; tick = tick; step = step; count = 1 }) (value ∷ []) (let_go ∷ take ∷ [])

abbrev pub samples : List Sample
samples =
    -- "S1. The byte 0x41": "verdict 20, tick 1,910, step 24, count 1, ledger 1630, 1660."
    sends s1 1910 24 0x41 1630 1660
    -- "No steps: 22, tick 0." "Written from no bytes: 21, tick 762, step 4."
    ∷ stops [] 22 0 0
    ∷ stops (200 ∶ 6 ∷ 50 ∶ 4 ∷ 220 ∶ 0 ∷ 80 ∶ 4 ∷ 300 ∶ 0 ∷ []) 21 762 4
    -- "(1,0) for 257 ticks: 24 at 256; for 256, then (1,1): 22."
    ∷ stops (257 ∶ 2 ∷ []) 24 256 0
    ∷ stops (256 ∶ 2 ∷ 1 ∶ 6 ∷ []) 22 257 2
    -- "S1 with 199 for 220: 26 at 449; with 200: 20."
    ∷ stops (s1_with 199 80 40 60 200) 26 449 3
    ∷ sends (s1_with 200 80 40 60 200) 1890 24 0x41 1610 1640
    -- "S1 with 59 for 80: 28 at 529." "With 61 for 40: 30 at 611; with 60: 20."
    ∷ stops (s1_with 220 59 40 60 200) 28 529 4
    ∷ stops (s1_with 220 80 61 60 200) 30 611 5
    ∷ sends (s1_with 220 80 60 60 200) 1930 24 0x41 1650 1680
    -- "S1 with the first valid 19: 32 at 679; with 20: 20."
    ∷ stops (s1_with 220 80 40 19 200) 32 679 7
    ∷ sends (s1_with 220 80 40 20 200) 1870 24 0x41 1590 1620
    -- "The byte 0x80, the 30:2 step left out and the last hold 100: 36 at 1,730." "With it 101: 20, ledger 1631, 1631."
    ∷ stops (s80_with 100) 36 1730 22
    ∷ sends (s80_with 101) 1781 23 0x80 1631 1631
    -- "S1 with its last hold 99: 36 at 1,759."
    ∷ stops (s1_with 220 80 40 60 99) 36 1759 23
    ∷ []

-- Beyond these: the byte 0x41 as one that is not the last, cut in phase C. It was handed over, so that 22 has a count here.
abbrev pub cut_after_byte : Sample
cut_after_byte =
    judges
    (200 ∶ 6 ∷ 50 ∶ 4 ∷ 60 ∶ 0 ∷ 70 ∶ 6 ∷ 60 ∶ 4
    ∷ (zeros 5 ++ (70 ∶ 6 ∷ 60 ∶ 4 ∷ 70 ∶ 2 ∷ 60 ∶ 0 ∷ 30 ∶ 2 ∷ 200 ∶ 6 ∷ 50 ∶ 4 ∷ [])))
    (record { number = 22; tick = 1630; step = 22; count = 1 }) (0x41 ∷ []) (1350 ∷ 1380 ∷ [])

-- A file that is refused: tick and count are 0, and the buffers keep what they held.
abbrev pub refuses : (file lent-bytes lent-ledger : List ℕ) (number step : ℕ) → Sample
refuses file lent-bytes lent-ledger number step =
    sample file lent-bytes lent-ledger (record { number = number; tick = 0; step = step; count = 0 }) [] []

-- A header and nothing after it.
abbrev pub header_only : (version steps offset total size : ℕ) → List ℕ
header_only version steps offset total size =
    header_bytes (record { version = version; steps = steps; offset = offset; total = total; length = size })

-- And every refusal. 1 to 8 fall before the room is looked at, so no place is lent.
abbrev pub refusals : List Sample
refusals =
    -- 1 to 5; where a file has several faults, the earliest test decides. A true length may be too long or too short.
    refuses [] [] [] 1 0
    ∷ refuses (replicate 15 0) [] [] 1 0
    ∷ refuses (header_only 2 16001 17 1 0) [] [] 2 0
    ∷ refuses (header_only 1 16001 17 1 0) [] [] 3 0
    ∷ refuses (header_only 1 16000 17 1 0) [] [] 4 0
    ∷ refuses (header_only 1 0 16 1 17) [] [] 5 0
    ∷ refuses (file_of [] ++ (0 ∷ [])) [] [] 5 0
    ∷ refuses (header_only 1 1 16 1 20) [] [] 5 0
    -- 6 and 7 name the step; 6 comes before 7 in one step, and an earlier step before a later one.
    ∷ refuses (file_of (200 ∶ 6 ∷ 0 ∶ 16 ∷ [])) [] [] 6 1
    ∷ refuses (file_of (200 ∶ 6 ∷ 50 ∶ 16 ∷ 0 ∶ 4 ∷ [])) [] [] 7 1
    ∷ refuses (file_of (200 ∶ 6 ∷ 50 ∶ 4 ∷ record { duration = 60; lines = 0; last = 2 } ∷ [])) [] [] 7 2
    -- A mark is no refusal, and does not stand in for one: other line bits are 7 in a marked step too.
    ∷ refuses (file_of (200 ∶ 6 ∷ lost (50 ∶ 16) ∷ [])) [] [] 7 1
    ∷ refuses (header_only 1 0 16 1 16) [] [] 8 0
    -- 9: 999 and 1,999 places.
    ∷ refuses s1_file (replicate 999 0xA5) marked_ledger 9 0
    ∷ refuses s1_file marked_bytes (replicate 1999 0xA5A5A5A5) 9 0
    ∷ []

-- #101. A command byte, its bits 0 or 4 each, with ATN pulled: up to the CLK pull after bit 8, which is 1,350 ticks and 19 steps later.
abbrev pub command_bits : List ℕ → List Step
command_bits [] = []
command_bits (d ∷ ds) = 70 ∶ (3 + d) ∷ 60 ∶ (1 + d) ∷ command_bits ds

abbrev pub command_byte : List ℕ → List Step
command_byte ds = 200 ∶ 7 ∷ 50 ∶ 5 ∷ 60 ∶ 1 ∷ command_bits ds

-- LISTEN 8, secondary 15: 28 6F, the second taken at tick 2,760; then `hold` ticks, and the steps that follow.
abbrev pub listen : (hold : ℕ) → List Step → List Step
listen hold after =
    command_byte (0 ∷ 0 ∷ 0 ∷ 4 ∷ 0 ∷ 4 ∷ 0 ∷ 0 ∷ [])
    ++ (30 ∶ 3 ∷ (command_byte (4 ∷ 4 ∷ 4 ∷ 4 ∷ 0 ∷ 4 ∷ 4 ∷ 0 ∷ []) ++ (30 ∶ 3 ∷ hold ∶ 7 ∷ after)))

abbrev pub commands : List Sample
commands =
    -- The finish, and lines that move after it.
    judges (listen 200 (20 ∶ 6 ∷ 30 ∶ 2 ∷ 50 ∶ 0 ∷ [])) (record { number = 20; tick = 2960; step = 41; count = 2 }) (0x28 ∷ 0x6F ∷ [])
    (1350 ∷ 1380 ∷ 2730 ∷ 2760 ∷ [])
    -- ATN pulled again after it: the last byte is counted. Too soon, or never: it is not.
    ∷ judges (listen 200 (1 ∶ 6 ∷ 1 ∶ 7 ∷ [])) (record { number = 37; tick = 2961; step = 42; count = 2 }) (0x28 ∷ 0x6F ∷ [])
    (1350 ∷ 1380 ∷ 2730 ∷ 2760 ∷ [])
    ∷ judges (listen 99 (1 ∶ 6 ∷ [])) (record { number = 39; tick = 2859; step = 41; count = 1 }) (0x28 ∷ []) (1350 ∷ 1380 ∷ [])
    ∷ judges (listen 200 []) (record { number = 22; tick = 2960; step = 41; count = 1 }) (0x28 ∷ []) (1350 ∷ 1380 ∷ [])
    -- The byte 0x80 with DATA pulled on: the finish at offset 101, both ticks at offset 1.
    ∷ sends (command_byte (0 ∷ 0 ∷ 0 ∷ 0 ∷ 0 ∷ 0 ∷ 0 ∷ 4 ∷ []) ++ (101 ∶ 7 ∷ 1 ∶ 6 ∷ [])) 1451 20 0x80 1351 1351
    ∷ stops (200 ∶ 7 ∷ 50 ∶ 5 ∷ 200 ∶ 1 ∷ []) 38 449 2
    -- S1, a data transfer; no steps; and a refusal.
    ∷ stops s1 39 0 0
    ∷ stops [] 22 0 0
    ∷ refuses s1_file marked_bytes (replicate 1999 0xA5A5A5A5) 9 0
    ∷ []

-- Commands handed to the plain entry.
abbrev pub commands_as_data : Sample
commands_as_data = stops (listen 200 (20 ∶ 6 ∷ [])) 23 0 0

-- #103. Step i of some steps, marked.
abbrev pub losing : (i : ℕ) → List Step → List Step
losing i [] = []
losing zero (s ∷ steps) = lost s ∷ steps
losing (suc i) (s ∷ steps) = s ∷ losing i steps

-- 40 at the first tick of the marked step, which is named.
abbrev pub overruns : List Sample
overruns =
    -- S1, marked at its first step, inside its byte, and where the byte waits to be handed over: it is not counted.
    stops (losing 0 s1) 40 0 0
    ∷ stops (losing 12 s1) 40 1050 12
    ∷ stops (losing 23 s1) 40 1860 23
    -- Where the end would begin, and after it, though the lines stay: the byte was handed over.
    ∷ judges (losing 24 s1) (record { number = 40; tick = 1910; step = 24; count = 1 }) (0x41 ∷ []) (1630 ∷ 1660 ∷ [])
    ∷ judges (s1 ++ (lost (5 ∶ 0) ∷ [])) (record { number = 40; tick = 2010; step = 25; count = 1 }) (0x41 ∷ []) (1630 ∷ 1660 ∷ [])
    -- Too little room is refused before any tick is read.
    ∷ refuses (file_of (losing 0 s1)) (replicate 999 0xA5) marked_ledger 9 0
    -- Commands handed to this entry: before 23. An earlier verdict stands.
    ∷ stops (losing 0 (listen 200 (1 ∶ 6 ∷ []))) 40 0 0
    ∷ stops (listen 200 (lost (1 ∶ 6) ∷ [])) 23 0 0
    ∷ []

abbrev pub command_overruns : List Sample
command_overruns =
    -- In place of the finish, so that the last byte is not handed over; and after it.
    judges (listen 200 (lost (1 ∶ 6) ∷ [])) (record { number = 40; tick = 2960; step = 41; count = 1 }) (0x28 ∷ []) (1350 ∷ 1380 ∷ [])
    ∷ judges (listen 200 (1 ∶ 6 ∷ lost (50 ∶ 0) ∷ [])) (record { number = 40; tick = 2961; step = 42; count = 2 }) (0x28 ∷ 0x6F ∷ [])
    (1350 ∷ 1380 ∷ 2730 ∷ 2760 ∷ [])
    -- S1 handed to this entry: before 39.
    ∷ stops (losing 0 s1) 40 0 0
    ∷ []

abbrev pub all : List Sample
all = samples ++ (cut_after_byte ∷ commands_as_data ∷ (refusals ++ overruns))

pub record SamplesHold : Type 0 where
  pub plain : map (judged_sample standard_limits) all ≡ map expected_of all
  pub command : map (judged_sample command_limits) (commands ++ command_overruns) ≡ map expected_of (commands ++ command_overruns)

-- S1's file is the one that document 01 prints.
abbrev pub S1Printed : Type 0
S1Printed = file_of s1 ≡ s1_file

-- Its steps mean the ticks that the crate transfer reads as S1.
abbrev pub S1Ticks : Type 0
S1Ticks = ticks_shown s1 ≡ ticks s1Spans
