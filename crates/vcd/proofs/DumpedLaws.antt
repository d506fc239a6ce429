-- What the entry gives, case by case. Assumes nothing.
use Rattle.std.specs.Prelude.{ℕ, Ok, Err, ◌<◌, List, length, drop, ◌≡◌}
use mathlib.Core.Path.{sym, ap, ap₂, ◌∙◌}
use native.Mathlib.Omega.{arith}
use lib.ListN.{length-take, length-drop}
use Rattle.std.specs.Borrow.{MutBor}
use Rattle.answer.specs.{Types.Refused, Answers.answered}
use Rattle.recording.specs.{Form.form_of, Ticks.steps_of}
use Rattle.recording.proofs.{GoodFormLaws.good_form, StepLaws.steps_count}
use Rattle.vcd.specs.{Dump.dump, Put.window_at, Put.Puts}
use Rattle.vcd.specs.Dumped.{leaves, piece, leaves_piece, dumped_in_form, dumped}
use Rattle.vcd.specs.declared.window.Window.{Window}
use Rattle.vcd.proofs.{LengthLaws.dump_length, WindowLaws.through}

module _ (file : List ℕ) (offset : ℕ) (d : List ℕ) where
  pub is_refused : (r : Refused) → form_of file ≡ Err r → leaves (answered (Err r)) d ≡ dumped file offset d
  unfolding dumped dumped_in_form
  is_refused r e = sym (ap (λ form. dumped_in_form file form offset d) e)

  module _ (n : ℕ) (good : form_of file ≡ Ok n) where
    pub is_piece : dumped file offset d ≡ leaves_piece (piece (dump (steps_of file)) offset (length d)) d
    unfolding dumped dumped_in_form
    is_piece = ap (λ form. dumped_in_form file form offset d) good

-- The dump was put down through a window onto what was lent.
module _ (file : List ℕ) (offset n : ℕ) (lent : MutBor (List ℕ)) (good : form_of file ≡ Ok n) where
  module _ {w w₁ : Window} (new : w ≡ window_at offset lent) (puts : Puts (dump (steps_of file)) w w₁) where
    -- The count fits 32 bits.
    pub count_fits : w₁.count < 4294967296
    unfolding steps_of
    count_fits =
        let text = dump (steps_of file) in
        let form = (good_form file n).0 good in
        let steps : length (steps_of file) ≡ n = rw (← form.counted) (steps_count file n 0) in
        omega (
          arith,
          form.few,
          dump_length (steps_of file),
          (through text offset lent new puts).counted,
          length-take (length lent.now) (drop offset text),
          length-drop offset text,
        )

    -- What is left behind the lent name is what the window's destination holds.
    pub piece_put : {d : List ℕ} → (lent.ghost_name ≡ w₁.destination.ghost_name → d ≡ w₁.destination.now)
        → leaves (answered (Ok w₁.count)) d ≡ dumped file offset lent.now
    piece_put kept =
        let t = through (dump (steps_of file)) offset lent new puts in
        ap₂ leaves (ap (λ n. answered (Ok n)) t.counted) (kept t.same ∙ t.there) ∙ sym (is_piece file offset lent.now n good)
