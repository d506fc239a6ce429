-- The number of ticks of a written recording. Assumes nothing.
use Rattle.std.specs.Prelude.{ℕ, zero, suc, ◌+◌, ◌-◌, ◌*◌, ◌≤◌, List, [], ◌∷◌, length, replicate, ◌≡◌}
use mathlib.Core.Path.{refl, ap, sym, ◌∙◌}
use lib.ListN.{length-replicate}
use native.Mathlib.{Nat.mul-le-mul, Nat.suc-mul, Omega.arith}
use Rattle.recording.specs.{Types.Step, Ticks.total_ticks}
use Rattle.recording.proofs.StepLaws.{total_append}
use Rattle.writer.specs.Written.{written_ticks}
use Rattle.writer.specs.WrittenSteps.{bit_steps, byte_steps, plain_gap, end_gap, sent_steps, written_steps}
use Rattle.writer.specs.declared.card.Card.{Card}
use Rattle.writer.proofs.ByteLaws.{byte_pieces}

-- The count times a byte's ticks is not too large: 798 bytes before the last, each of twenty steps of at most 65,535 ticks.
pub product_fits : (others ticks : ℕ) → others ≤ 798 → ticks ≤ 20 * 65535 → others * ticks ≤ 798 * (20 * 65535)
product_fits others ticks few short = mul-le-mul few short

module _ (card : Card) where
  -- The sums of src/ticks.rt.
  abbrev pub opening_ticks : ℕ
  opening_ticks = card.hold + card.ready_to_send

  abbrev pub acknowledged_ticks : (after : ℕ) → ℕ
  acknowledged_ticks after = card.end_gap + card.acknowledgement + after

  abbrev pub value_ticks : ℕ
  value_ticks = 8 * (card.set_up + card.valid) + card.take

  -- One byte and so many others.
  abbrev pub sent_ticks : (others : ℕ) → ℕ
  sent_ticks others =
      others * (opening_ticks + card.gap + value_ticks)
      + (opening_ticks + acknowledged_ticks card.response + value_ticks)
      + (opening_ticks + card.silence)

one_more : (n byte last closing : ℕ) → byte + (n * byte + last + closing) ≡ suc n * byte + last + closing
one_more n byte last closing = rw (suc-mul n byte) (omega arith)

module _ (card : Card) where
  bits_ticks_lem : (value : ℕ) → total_ticks (bit_steps card 8 value) ≡ 8 * (card.set_up + card.valid)
  unfolding total_ticks bit_steps
  bits_ticks_lem value = omega arith

  byte_ticks : (gap : List Step) (value : ℕ)
      → total_ticks (byte_steps card gap value) ≡ opening_ticks card + total_ticks gap + value_ticks card
  unfolding total_ticks
  byte_ticks gap value =
      let bits = bits_ticks_lem value in
      rw (byte_pieces card value gap) (simp total_append (omega arith))

  sent_ticks_lem : (first : ℕ) (others : List ℕ) → total_ticks (sent_steps card first others) ≡ sent_ticks card (length others)
  unfolding total_ticks sent_steps
  sent_ticks_lem first [] = let byte = byte_ticks (end_gap card) first in simp total_append (omega arith)
  sent_ticks_lem first (second ∷ others) =
      let plain = byte_ticks (plain_gap card) first in
      let byte : total_ticks (byte_steps card (plain_gap card) first) ≡ opening_ticks card + card.gap + value_ticks card = omega arith in
      rw (total_append (byte_steps card (plain_gap card) first), byte, sent_ticks_lem second others) (one_more (length others) _ _ _)

pub ticks_none : (card : Card) (count : ℕ) → count ≡ 0
    → written_ticks card count ≡ opening_ticks card + acknowledged_ticks card card.no_response
unfolding total_ticks written_steps
ticks_none card count none = rw none (omega arith)

-- One zero and n others.
zeros_ticks : (card : Card) (n : ℕ) → written_ticks card (suc n) ≡ sent_ticks card n
unfolding written_steps
zeros_ticks card n = sent_ticks_lem card 0 (replicate n 0) ∙ ap (sent_ticks card) (length-replicate {A = ℕ} n 0)

pub ticks_some : (card : Card) (count : ℕ) → (count ≡ 0 → ⊥) → written_ticks card count ≡ sent_ticks card (count - 1)
ticks_some card zero some = absurd (some refl)
ticks_some card (suc n) some = zeros_ticks card n ∙ ap (sent_ticks card) (omega arith)

pub written_ticks_lem : (card : Card) (bytes : List ℕ) → total_ticks (written_steps card bytes) ≡ written_ticks card (length bytes)
unfolding written_steps
written_ticks_lem card [] = refl
written_ticks_lem card (first ∷ others) = sent_ticks_lem card first others ∙ sym (zeros_ticks card (length others))
