-- How the form of a recording is decided, a test at a time. Each law takes what the code has read and what its test gave. Assumes nothing.
use Rattle.std.specs.Prelude.{ℕ, Ok, Err, ◌+◌, ◌-◌, ◌≤◌, ◌<◌, List, length, ◌≡◌}
use mathlib.Core.Path.{◌∙◌}
use native.Mathlib.{Nat.sub-zero, Nat.add-zero, Nat.add_assoc, Numerals.add-one, Omega.arith}
use borrow.Author.Tests.{lt-ltb, le-ltb}
use Rattle.recording.specs.{Layout.header_at, Layout.step_at, Layout.header_size, Ticks.steps_from, Ticks.steps_of, Ticks.total_ticks}
use Rattle.recording.specs.Form.{Test, Form, refused_at, header_test, step_test, after_test, steps_form, total_form, body_form, form_of}
use Rattle.recording.specs.Types.{Header, Step}
use Rattle.answer.specs.Types.{Refusal, ShortFile}
use Rattle.recording.proofs.StepLaws.{steps_begin, steps_end}

pub short_file : (file : List ℕ) → length file < header_size → form_of file ≡ refused_at ShortFile 0
unfolding form_of
short_file file h = rw (lt-ltb (length file) header_size h)

module _
    (file : List ℕ) (h : Header) (t : Test) (eh : h ≡ header_at file) (et : t ≡ header_test h (length file))
    (long : header_size ≤ length file) where
  after_header : form_of file ≡ after_test t 0 (body_form h (steps_from file 0 h.steps))
  unfolding form_of steps_of
  after_header = rw (et, eh, le-ltb (length file) header_size long)

  pub header_refuses : (r : Refusal) → t ≡ Err r → form_of file ≡ refused_at r 0
  header_refuses r p = after_header ∙ rw p

  pub header_passes : t ≡ Ok tt → form_of file ≡ body_form h (steps_from file 0 h.steps)
  header_passes p = after_header ∙ rw p

-- What the steps left, the first of which is step i, still decide when those before it lasted `sum` ticks.
abbrev form_left : Header → ℕ → ℕ → List Step → Form
form_left h i sum steps = steps_form i steps (total_form h (sum + total_ticks steps))

unfoldable pub form_from : List ℕ → Header → ℕ → ℕ → Form
form_from file h i sum = form_left h i sum (steps_from file i (h.steps - i))

pub steps_start : (file : List ℕ) (h : Header) → body_form h (steps_from file 0 h.steps) ≡ form_from file h 0 0
unfolding form_from body_form
steps_start file h =
    let all = steps_from file 0 h.steps in
    let z : total_ticks all ≡ 0 + total_ticks all = omega arith in
    rw (sub-zero, ← z)

module _
    (file : List ℕ) (h : Header) (i sum : ℕ) (s : Step) (t : Test) (es : s ≡ step_at file i) (et : t ≡ step_test s)
    (left : i < h.steps) where
  after_step : form_from file h i sum ≡ after_test t i (form_from file h (i + 1) (sum + s.duration))
  unfolding form_from steps_form total_ticks
  after_step = rw (steps_begin file i h.steps s es left, et, add-one i, add_assoc)

  pub step_refuses : (r : Refusal) → t ≡ Err r → form_from file h i sum ≡ refused_at r i
  step_refuses r p = after_step ∙ rw p

  pub step_passes : t ≡ Ok tt → form_from file h i sum ≡ form_from file h (i + 1) (sum + s.duration)
  step_passes p = after_step ∙ rw p

pub steps_done : (file : List ℕ) (h : Header) (i sum : ℕ) → h.steps ≤ i → form_from file h i sum ≡ total_form h sum
unfolding form_from steps_form total_ticks
steps_done file h i sum past = rw (steps_end file i h.steps past, add-zero sum)
