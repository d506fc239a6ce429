-- The refusals 1 to 8 of document 01, "tested in this order", each row's words beside its test.
use Rattle.std.specs.Prelude.{ℕ, suc, ⊤, Result, Ok, Err, List, [], ◌∷◌, length, eqb, ltb, leb, if◌then◌else◌}
use Rattle.answer.specs.Basics.{differs}
use Rattle.recording.specs.Ticks.{steps_of, total_ticks}
use Rattle.recording.specs.Layout.{header_at, header_size, good_version, most_steps, line_bound, mark, file_length}
use Rattle.recording.specs.Types.{Header, Step}
use Rattle.answer.specs.Types.{Refusal, Refused, ShortFile, WrongVersion, TooManySteps, WrongOffset, WrongLength, ZeroDuration, StrayBits}
use Rattle.answer.specs.Types.{WrongTotal}

-- What a test of a part comes to: passed, or refused. And what the whole recording does: of good form, with so many steps, or refused with
-- a step.
abbrev pub Test : Type 0
Test = Result ⊤ Refusal

abbrev pub Form : Type 0
Form = Result ℕ Refused

abbrev pub refused_at : Refusal → (step : ℕ) → Form
refused_at refusal step = Err (record { refusal = refusal; step = step })

-- Refusals 2 to 5, of a header and the file's true length.
unfoldable pub header_test : Header → ℕ → Test
header_test h size =
    -- 2: "version is not 1"
    if differs h.version good_version then Err WrongVersion else
    -- 3: "n above 16,000"
    if ltb most_steps h.steps then Err TooManySteps else
    -- 4: "offset is not 16"
    if differs h.offset header_size then Err WrongOffset else
    -- 5: "length field, or true length, is not 16+4n"
    if differs h.length (file_length h.steps) then Err WrongLength else
    if differs size (file_length h.steps) then Err WrongLength else
    Ok tt

-- Refusals 6 and 7, of one step: "6 before 7 in one step".
unfoldable pub step_test : Step → Test
step_test s =
    -- 6: "a step of duration 0"
    if eqb s.duration 0 then Err ZeroDuration else
    -- 7: a step with "other line bits or a last byte above 1" (#103)
    if leb line_bound s.lines then Err StrayBits else
    if ltb mark s.last then Err StrayBits else
    Ok tt

-- A failed test refuses the recording and names the step; where it passed, what follows decides.
abbrev pub after_test : Test → (step : ℕ) → Form → Form
after_test (Ok _) step rest = rest
after_test (Err refusal) step rest = refused_at refusal step

-- "Steps are tested first to last": those from step i on, and then what follows them.
unfoldable pub steps_form : (i : ℕ) → List Step → Form → Form
steps_form i [] rest = rest
steps_form i (s ∷ steps) rest = after_test (step_test s) i (steps_form (suc i) steps rest)

-- 8: "total ticks wrong"; the total is "the sum of all durations".
abbrev pub total_form : Header → (sum : ℕ) → Form
total_form h sum =
    if differs h.total sum then refused_at WrongTotal 0 else
    Ok h.steps

-- Refusals 6 to 8, of what stands after the header.
unfoldable pub body_form : Header → List Step → Form
body_form h steps = steps_form 0 steps (total_form h (total_ticks steps))

-- The form of a recording.
unfoldable pub form_of : List ℕ → Form
form_of file =
    -- 1: "fewer than 16 bytes"
    if ltb (length file) header_size then refused_at ShortFile 0 else
    after_test (header_test (header_at file) (length file)) 0
    (body_form (header_at file) (steps_of file))
