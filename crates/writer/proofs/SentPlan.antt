-- The plan of a sender and a receiver that a card and a string of one or more bytes mean, and that it sends the string.
-- Assumes nothing.
use Rattle.std.specs.Prelude.{ℕ, zero, suc, ◌+◌, ◌-◌, ◌*◌, ◌/◌, ◌%◌, ◌^◌, ◌<◌, Bool, true, false, List, [], ◌∷◌, replicate, ◌≡◌, eqb}
use Rattle.std.specs.Prelude.{if◌then◌else◌}
use native.Mathlib.{Omega.arith, Nat.pow-suc}
use mathlib.Core.Path.{refl, ap, ap₂}
use borrow.Author.Tests.{eqb-true, eqb-false}
use Rattle.recording.specs.GoodForm.{Bytes}
use Rattle.transfer.specs.Pair.{values}
use Rattle.transfer.specs.Parties.{Bit, Frame, Sending, more, last, Plan, value_of, after_frame, sending_bytes}
use Rattle.writer.specs.declared.card.Card.{Card}

-- The lowest bit of a value; pulled is one.
abbrev pub odd : ℕ → Bool
odd value = eqb (value % 2) 1

module _ (card : Card) where
  -- A bit: DATA shows it in each of its ticks.
  abbrev pub bit_of : Bool → Bit
  bit_of b = record { first = b; others = replicate (card.set_up - 1) b; bit = b; valid = card.valid }

  -- The lowest k bits of a value, least significant first.
  unfoldable pub bits_of : (k value : ℕ) → List Bit
  bits_of zero value = []
  bits_of (suc k) value = bit_of (odd value) ∷ bits_of k (value / 2)

  -- A byte: after bit 8 the sender doesn't pull DATA on. The hold, and then the ready time, are those of the next byte or, after the last,
  -- the closing ones.
  abbrev pub frame_of : (value : ℕ) → Frame
  frame_of value = record { bits = bits_of 8 value; let_go = 0; take = card.take; release = card.take + card.hold }

  abbrev pub sending_of : (first : ℕ) (others : List ℕ) → Sending
  sending_of first [] =
      last card.end_gap card.acknowledgement card.response (frame_of first) card.ready_to_send card.silence
  sending_of first (second ∷ others) = more card.gap (frame_of first) card.ready_to_send (sending_of second others)

  abbrev pub plan_of : (first : ℕ) (others : List ℕ) → Plan
  plan_of first others = record { found = 0; hold = card.hold; wait = card.ready_to_send; sending = sending_of first others }

  -- What the lowest bit is worth, and the k bits of a value below 2^k; so a byte's eight bits are worth the byte.
  bit_value : (value weight : ℕ) → (if odd value then weight else 0) ≡ weight * (value % 2)
  bit_value value weight = at (odd value) refl
    where
      at : (b : Bool) → odd value ≡ b → (if b then weight else 0) ≡ weight * (value % 2)
      at true e = let one : value % 2 ≡ 1 = eqb-true _ _ e in rw one (omega arith)
      at false e = let none : value % 2 ≡ 0 = omega (arith, eqb-false (value % 2) 1 e) in rw none (omega arith)

  bits_value : (k value weight : ℕ) → value < 2 ^ k → value_of weight (bits_of k value) ≡ weight * value
  unfolding bits_of
  bits_value zero value weight h = let none : value ≡ 0 = omega arith in rw none (omega arith)
  bits_value (suc k) value weight h =
      let halves : weight * value ≡ weight * (2 * (value / 2) + value % 2) = ap (λ (x : ℕ). weight * x) (omega arith) in
      omega (arith, bit_value value weight, bits_value k (value / 2) (weight + weight) (omega (arith, pow-suc 2 k)))

  byte_value : (value : ℕ) → value < 256 → value ≡ value_of 1 (bits_of 8 value)
  byte_value value h = omega (arith, bits_value 8 value 1 h)

  -- The plan sends the string, whatever the tick at which the sending begins.
  pub sends_string : (now first : ℕ) (others : List ℕ) → Bytes (first ∷ others)
      → first ∷ others ≡ values (sending_bytes now (sending_of first others))
  sends_string now first [] bytes = ap (λ (value : ℕ). value ∷ []) (byte_value first (bytes 0))
  sends_string now first (second ∷ others) bytes =
      let ends : ℕ = after_frame (now + card.gap) (frame_of first) + card.ready_to_send in
      ap₂ (λ (value : ℕ) rest. value ∷ rest) (byte_value first (bytes 0)) (sends_string ends second others (λ at. bytes (suc at)))
