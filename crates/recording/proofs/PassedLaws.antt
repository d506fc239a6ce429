-- A header and a step pass their tests exactly if they are good. Assumes nothing.
use Rattle.std.specs.Prelude.{ℕ, Ok, ◌≤◌, ◌≡◌, eqb, ltb, leb}
use Rattle.answer.specs.Basics.{differs}
use native.Mathlib.Omega.{arith}
use borrow.Author.Tests.{ltb-false, leb-false, eqb-false, le-ltb, lt-leb, eq-eqb, ne_eqb}
use Rattle.recording.specs.{Types.Header, Types.Step, Form.header_test, Form.step_test, GoodForm.GoodStep}
use Rattle.recording.specs.Layout.{header_size, good_version, most_steps, line_bound, mark, file_length}
use Rattle.recording.proofs.Tests.{passed_on, same}

pub record GoodHeader (h : Header) (size : ℕ) : Type 0 where
  pub version : h.version ≡ good_version
  pub few : h.steps ≤ most_steps
  pub offset : h.offset ≡ header_size
  pub says_length : h.length ≡ file_length h.steps
  pub whole : size ≡ file_length h.steps

pub header_passed : (h : Header) (size : ℕ) → header_test h size ≡ Ok tt → GoodHeader h size
unfolding header_test
header_passed h size e =
    let version = passed_on (differs h.version good_version) _ _ e in
    let steps = passed_on (ltb most_steps h.steps) _ _ version.1 in
    let offset = passed_on (differs h.offset header_size) _ _ steps.1 in
    let field = passed_on (differs h.length (file_length h.steps)) _ _ offset.1 in
    let true-length = passed_on (differs size (file_length h.steps)) _ _ field.1 in
    record {
      version = same _ _ version.0;
      few = ltb-false _ _ steps.0;
      offset = same _ _ offset.0;
      says_length = same _ _ field.0;
      whole = same _ _ true-length.0;
    }

pub good_header_passes : (h : Header) (size : ℕ) → GoodHeader h size → header_test h size ≡ Ok tt
unfolding header_test
good_header_passes h size good =
    rw (
      eq-eqb h.version good_version good.version,
      le-ltb most_steps h.steps good.few,
      eq-eqb h.offset header_size good.offset,
      eq-eqb h.length (file_length h.steps) good.says_length,
      eq-eqb size (file_length h.steps) good.whole,
    )

pub step_passed : (s : Step) → step_test s ≡ Ok tt → GoodStep s
unfolding step_test
step_passed s e =
    let duration = passed_on (eqb s.duration 0) _ _ e in
    let lines = passed_on (leb line_bound s.lines) _ _ duration.1 in
    let last = passed_on (ltb mark s.last) _ _ lines.1 in
    let some : s.duration ≡ 0 → ⊥ = eqb-false _ _ duration.0 in
    record { lasts = omega arith; four_bits = leb-false _ _ lines.0; mark_at_most = ltb-false _ _ last.0 }

pub good_step_passes : (s : Step) → GoodStep s → step_test s ≡ Ok tt
unfolding step_test
good_step_passes s good =
    let some : s.duration ≡ 0 → ⊥ = λ z. omega (arith, good.lasts, z) in
    rw (ne_eqb s.duration 0 some, lt-leb line_bound s.lines good.four_bits, le-ltb mark s.last good.mark_at_most)
