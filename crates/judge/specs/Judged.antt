-- What the judge answers and leaves, for any bytes and any lent buffers: document 01, "Numbers and what they leave".
use Rattle.std.specs.Prelude.{ℕ, suc, Ok, Err, ◌-◌, List, [], ◌∷◌, map, length, ltb, if◌then◌else◌}
use Rattle.answer.specs.{Types.Answer, Types.ShortBuffers, Answers.refused, Answers.◌over◌, Numbers.verdict_number}
use Rattle.recording.specs.{Form.Form, Form.form_of, Ticks.Tick as Recorded, Ticks.steps_of, Ticks.ticks}
use Rattle.recording.specs.Types.{Step}
use Rattle.transfer.specs.{Lines.lines_of, Outcome.Outcome, Outcome.outcome, Pair.values, Ticks.lines_in}
use Rattle.transfer.specs.Types.{Limits, Lines, Tick, Byte, Decision}

-- What the judge leaves: an answer, and both lent buffers.
pub record Judged : Type 0 where
  pub answer : Answer
  pub bytes : List ℕ
  pub ledger : List ℕ

abbrev pub leaves : Answer → (bytes ledger : List ℕ) → Judged
leaves answer bytes ledger = record { answer = answer; bytes = bytes; ledger = ledger }

-- The places that refusal 9 asks for.
abbrev pub byte_room : ℕ
byte_room = 1000

abbrev pub ledger_room : ℕ
ledger_room = 2000

-- What a tick of a recording shows: the lines, and the recorder's mark.
abbrev pub shown_by : Recorded → Tick
shown_by t = record { marked = t.marked; lines = lines_of t.lines }

-- What each tick of some steps shows, and so the tick list that a recording means; and the lines of it.
abbrev pub ticks_shown : List Step → List Tick
ticks_shown steps = map shown_by (ticks steps)

abbrev pub tick_list : (file : List ℕ) → List Tick
tick_list file = ticks_shown (steps_of file)

abbrev pub line_list : (file : List ℕ) → List Lines
line_list file = lines_in (tick_list file)

-- "The step holding" a tick. Where no step does, it is the number of steps: "22: total ticks and n".
unfoldable pub step_holding : (tick : ℕ) → List Step → ℕ
step_holding tick [] = 0
step_holding tick (s ∷ steps) = if ltb tick s.duration then 0 else suc (step_holding (tick - s.duration) steps)

-- "A verdict carries the deciding tick and the step holding it .. Its count is the bytes handed over."
abbrev pub verdict_answer : List Step → Decision → (count : ℕ) → Answer
verdict_answer steps d count =
    record { number = verdict_number d.verdict; tick = d.tick; step = step_holding d.tick steps; count = count }

-- "Two ticks for each byte: sender lets go of DATA, receiver takes it."
unfoldable pub two_ticks : List Byte → List ℕ
two_ticks [] = []
two_ticks (b ∷ bytes) = b.let_go ∷ b.take ∷ two_ticks bytes

-- "The byte buffer begins with those; the ledger .. begins with two ticks for each byte .. All further places keep what they held."
abbrev pub verdict_leaves : List Step → Outcome → (bytes ledger : List ℕ) → Judged
verdict_leaves steps o bytes ledger =
    leaves (verdict_answer steps o.decision (length o.bytes)) (values o.bytes over bytes) (two_ticks o.bytes over ledger)

-- Steps whose form was tested. At a refusal "no lent byte or number changes".
unfoldable pub judged_in_form : Limits → List Step → Form → (bytes ledger : List ℕ) → Judged
judged_in_form L steps (Err r) bytes ledger = leaves (refused r.refusal r.step) bytes ledger
judged_in_form L steps (Ok n) bytes ledger =
    -- 9: "byte buffer under 1,000 places, or ledger under 2,000"
    if ltb (length bytes) byte_room then leaves (refused ShortBuffers 0) bytes ledger else
    if ltb (length ledger) ledger_room then leaves (refused ShortBuffers 0) bytes ledger else
    verdict_leaves steps (outcome L (ticks_shown steps)) bytes ledger

-- What the judge gives: the form is tested first (1 to 8), then the room (9), and then the recording is read.
unfoldable pub judged : Limits → (file bytes ledger : List ℕ) → Judged
judged L file bytes ledger = judged_in_form L (steps_of file) (form_of file) bytes ledger
