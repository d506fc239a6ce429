-- What the judge gives, case by case. Assumes nothing.
use Rattle.std.specs.Prelude.{ℕ, Ok, Err, ◌≤◌, ◌<◌, List, length, ◌≡◌}
use mathlib.Core.{Logic.◌⊎◌, Logic.inl, Logic.inr, Path.sym, Path.ap, Path.◌∙◌}
use borrow.Author.Tests.{lt-ltb, le-ltb}
use Rattle.answer.specs.{Types.Refused, Types.ShortBuffers, Answers.refused}
use Rattle.recording.specs.{Form.form_of, GoodForm.GoodForm, Ticks.steps_from, Ticks.steps_of}
use Rattle.transfer.specs.{Types.Limits, Outcome.outcome}
use Rattle.judge.specs.Judged.{leaves, byte_room, ledger_room, tick_list, verdict_leaves, judged_in_form, judged}

-- The steps of a recording of good form, as a loop over n steps reads them.
pub good_steps : (file : List ℕ) (n : ℕ) → GoodForm file n → steps_of file ≡ steps_from file 0 n
unfolding steps_of
good_steps file n good = ap (steps_from file 0) (sym good.counted)

module _ (L : Limits) (file b g : List ℕ) where
  pub is_refused : (r : Refused) → form_of file ≡ Err r → judged L file b g ≡ leaves (refused r.refusal r.step) b g
  unfolding judged judged_in_form
  is_refused r e = ap (λ form. judged_in_form L (steps_of file) form b g) e

  module _ (n : ℕ) (good : form_of file ≡ Ok n) where
    pub few_places : length b < byte_room → judged L file b g ≡ leaves (refused ShortBuffers 0) b g
    unfolding judged judged_in_form
    few_places h = ap (λ form. judged_in_form L (steps_of file) form b g) good ∙ rw (lt-ltb (length b) byte_room h)

    pub few_ledger_places : byte_room ≤ length b → length g < ledger_room → judged L file b g ≡ leaves (refused ShortBuffers 0) b g
    unfolding judged judged_in_form
    few_ledger_places h k =
        ap (λ form. judged_in_form L (steps_of file) form b g) good ∙ rw (le-ltb (length b) byte_room h, lt-ltb (length g) ledger_room k)

    pub few_room : (length b < byte_room) ⊎ (byte_room ≤ length b) × (length g < ledger_room)
        → judged L file b g ≡ leaves (refused ShortBuffers 0) b g
    few_room (inl h) = few_places h
    few_room (inr (h, k)) = few_ledger_places h k

    pub is_verdict : byte_room ≤ length b → ledger_room ≤ length g
        → judged L file b g ≡ verdict_leaves (steps_of file) (outcome L (tick_list file)) b g
    unfolding judged judged_in_form
    is_verdict h k =
        ap (λ form. judged_in_form L (steps_of file) form b g) good ∙ rw (le-ltb (length b) byte_room h, le-ltb (length g) ledger_room k)
