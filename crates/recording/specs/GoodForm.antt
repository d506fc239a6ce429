-- What holds of a recording of good form.
use Rattle.std.specs.Prelude.{ℕ, Ok, ◌≤◌, ◌<◌, List, length, ◌≡◌, ◌↔◌}
use Rattle.recording.specs.{Types.Step, Form.form_of, Ticks.ticks_of}
use Rattle.recording.specs.Layout.{byte_at, header_at, step_at, header_size, good_version, most_steps, line_bound, mark, file_length}

-- No refusal 6 or 7.
pub record GoodStep (s : Step) : Type 0 where
  pub lasts : 1 ≤ s.duration
  pub four_bits : s.lines < line_bound
  pub mark_at_most : s.last ≤ mark

-- Document 01's "of good form", as far as the refusals 1 to 8 go, in plain words: the header's fields are right, n is the step count,
-- the file is the header and n steps, each good, and the total is the number of ticks.
pub record GoodForm (file : List ℕ) (n : ℕ) : Type 0 where
  pub version : (header_at file).version ≡ good_version
  pub counted : n ≡ (header_at file).steps
  pub few : n ≤ most_steps
  pub offset : (header_at file).offset ≡ header_size
  pub says_length : (header_at file).length ≡ file_length n
  pub whole : length file ≡ file_length n
  pub each : (i : ℕ) → i < n → GoodStep (step_at file i)
  pub total : (header_at file).total ≡ length (ticks_of file)

-- A recording is not refused, and has n steps, exactly if it is of good form with n steps.
abbrev pub GoodFormLaw : Type 0
GoodFormLaw = (file : List ℕ) (n : ℕ) → (form_of file ≡ Ok n) ↔ GoodForm file n

-- A list that stands for bytes, as the contents of a lent file do.
abbrev pub Bytes : List ℕ → Type 0
Bytes file = (at : ℕ) → byte_at file at < 256
