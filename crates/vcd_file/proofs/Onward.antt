-- A piece of a dump lies within its destination, and the offset after it is still a number of 32 bits. Assumes nothing.
use Rattle.std.specs.Prelude.{ℕ, Ok, Err, ◌+◌, ◌≤◌, ◌<◌, List, length, drop, ◌≡◌}
use mathlib.Core.Path.{refl, sym, ap, ◌∙◌}
use native.Mathlib.Omega.{arith}
use lib.ListN.{length-take, length-drop}
use Rattle.answer.specs.Types.{Answer}
use Rattle.recording.specs.{Form.Form, Form.form_of, Ticks.steps_of}
use Rattle.recording.proofs.{GoodFormLaws.good_form, StepLaws.steps_count}
use Rattle.vcd.specs.{Dump.dump, Dumped.Dumped, Dumped.leaves, Dumped.dumped}
use Rattle.vcd.proofs.{DumpedLaws.is_refused, DumpedLaws.is_piece, LengthLaws.dump_length}

pub record Onward (offset count room : ℕ) : Type 0 where
  pub within : count ≤ room
  pub next : (count ≡ 0 → ⊥) → offset + count < 4294967296

module _ (r : Answer) (file : List ℕ) (offset : ℕ) (before after : List ℕ)
    (e : leaves r after ≡ dumped file offset before) (same : length after ≡ length before) where
  counted : {left : Dumped} → dumped file offset before ≡ left → r.count ≡ left.answer.count
  counted d = ap (λ (l : Dumped). l.answer.count) (e ∙ d)

  by_form : (form : Form) → form_of file ≡ form → Onward offset r.count (length after)
  unfolding steps_of
  by_form (Err refused) f =
      let none = counted (sym (is_refused file offset before refused f)) in
      record { within = omega (arith, none); next = λ some. absurd (some none) }
  by_form (Ok n) f =
      let text = dump (steps_of file) in
      let form = (good_form file n).0 f in
      let steps : length (steps_of file) ≡ n = rw (← form.counted) (steps_count file n 0) in
      let count = counted (is_piece file offset before n f) in
      let taken = length-take (length before) (drop offset text) in
      let left = length-drop offset text in
      record {
        within = omega (arith, count, taken, same);
        next = λ some. omega (arith, some, count, taken, left, steps, form.few, dump_length (steps_of file));
      }

  pub onward : Onward offset r.count (length after)
  onward = by_form (form_of file) refl
