-- A recording is not refused exactly if it has all that `GoodForm` says. Assumes nothing.
use Rattle.std.specs.Prelude.{ℕ, Ok, zero, suc, ◌+◌, ◌≤◌, ◌<◌, List, length, ◌≡◌, ltb}
use Rattle.answer.specs.Basics.{differs}
use mathlib.Core.Path.{refl, sym, ap, ◌∙◌}
use native.Mathlib.{Nat.add-zero, Nat.zero-add, Omega.arith}
use borrow.Author.Tests.{le-ltb, eq-eqb}
use Rattle.recording.specs.{Form.Form, GoodForm.GoodStep, GoodForm.GoodForm, GoodForm.GoodFormLaw}
use Rattle.recording.specs.Layout.{header_at, step_at, header_size, file_length}
use Rattle.recording.specs.Ticks.{steps_from, steps_of, total_ticks, ticks_of}
use Rattle.recording.specs.Form.{header_test, step_test, steps_form, body_form, form_of}
use Rattle.recording.proofs.{Tests.good_else, Tests.good_after, Tests.same, StepLaws.total_counts}
use Rattle.recording.proofs.PassedLaws.{GoodHeader, header_passed, good_header_passes, step_passed, good_step_passes}

-- What holds at i, and at each of the k places after it, holds at each of the k + 1 places from i on.
pub each_more : (P : ℕ → Type 0) (i k : ℕ) → P i → ((j : ℕ) → j < k → P (suc i + j)) → (j : ℕ) → j < suc k → P (i + j)
each_more P i k first later zero h = rw (add-zero i) first
each_more P i k first later (suc j) h = let z : i + suc j ≡ suc i + j = omega arith in rw z (later j (omega arith))

-- Each of the k steps from step i on passed its test.
steps_passed : (file : List ℕ) (k i : ℕ) (rest : Form) (n : ℕ) → steps_form i (steps_from file i k) rest ≡ Ok n
    → ((j : ℕ) → j < k → GoodStep (step_at file (i + j))) × (rest ≡ Ok n)
unfolding steps_form steps_from
steps_passed file zero i rest n e = (λ j h. absurd (omega arith), e)
steps_passed file (suc k) i rest n e =
    let first = good_after (step_test (step_at file i)) i _ n e in
    let later = steps_passed file k (suc i) rest n first.1 in
    (each_more (λ (j : ℕ). GoodStep (step_at file j)) i k (step_passed _ first.0) later.0, later.1)

is_good : (file : List ℕ) (n : ℕ) → form_of file ≡ Ok n → GoodForm file n
unfolding form_of body_form steps_of ticks_of
is_good file n e =
    let h = header_at file in
    let long = good_else (ltb (length file) header_size) _ 0 _ n e in
    let header = good_after (header_test h (length file)) 0 _ n long.1 in
    let steps = steps_passed file h.steps 0 _ n header.1 in
    let total = good_else (differs h.total (total_ticks (steps_of file))) _ 0 _ n steps.1 in
    let good = header_passed h (length file) header.0 in
    let count : h.steps ≡ n = cc in
    record {
      version = good.version;
      counted = sym count;
      few = omega (arith, good.few);
      offset = good.offset;
      says_length = good.says_length ∙ ap file_length count;
      whole = good.whole ∙ ap file_length count;
      each = λ i less. rw zero-add at (steps.0 i (omega arith));
      total = same _ _ total.0 ∙ total_counts (steps_of file);
    }

-- The other way: k good steps from step i on leave it to what follows them.
steps_pass : (file : List ℕ) (k i : ℕ) (rest : Form) → ((j : ℕ) → i ≤ j → j < i + k → GoodStep (step_at file j))
    → steps_form i (steps_from file i k) rest ≡ rest
unfolding steps_form steps_from
steps_pass file zero i rest good = refl
steps_pass file (suc k) i rest good =
    rw (good_step_passes (step_at file i) (good i (omega arith) (omega arith)))
    (steps_pass file k (suc i) rest (λ j a b. good j (omega arith) (omega arith)))

is_not_refused : (file : List ℕ) (n : ℕ) → GoodForm file n → form_of file ≡ Ok n
unfolding form_of body_form steps_of ticks_of
is_not_refused file n good =
    let h = header_at file in
    let header : GoodHeader h (length file) =
    record {
      version = good.version;
      few = omega (arith, good.counted, good.few);
      offset = good.offset;
      says_length = good.says_length ∙ ap file_length good.counted;
      whole = good.whole ∙ ap file_length good.counted;
    } in
    let sum : h.total ≡ total_ticks (steps_of file) = good.total ∙ sym (total_counts (steps_of file)) in
    rw (le-ltb (length file) header_size (omega (arith, good.whole)), good_header_passes h (length file) header)
    (steps_pass file h.steps 0 _ (λ j a b. good.each j (omega (arith, good.counted)))
    ∙ rw (eq-eqb h.total (total_ticks (steps_of file)) sum, ← good.counted))

pub good_form : GoodFormLaw
good_form file n = (is_good file n, is_not_refused file n)
