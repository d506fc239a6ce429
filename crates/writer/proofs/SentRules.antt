-- The plan of a card whose durations are in time keeps the two parties' rules. Assumes nothing.
use Rattle.std.specs.Prelude.{ℕ, zero, suc, ◌-◌, ◌/◌, ◌≤◌, ◌<◌, Bool, List, [], ◌∷◌, length, replicate, ◌≡◌}
use native.Mathlib.Omega.{arith}
use mathlib.Core.Path.{refl, ap}
use lib.ListN.{length-replicate}
use borrow.Author.Rules.{rules}
use Rattle.transfer.specs.Types.{Plain, Limits}
use Rattle.transfer.specs.Rules.{last_of, BitRule, BitRules, FrameRules, SendingRules, PlanRules}
use Rattle.writer.specs.declared.card.Card.{Card}
use Rattle.writer.proofs.SentPlan.{odd, bit_of, bits_of, frame_of, sending_of, plan_of}

-- What the rules ask of a card's durations. What is written is a data transfer.
pub record InTime (L : Limits) (card : Card) : Type 0 where
  pub entry : L.entry ≡ Plain
  pub hold : 1 ≤ card.hold
  pub hold_least : L.between_bytes ≤ card.hold
  pub ready : 1 ≤ card.ready_to_send
  pub gap : 1 ≤ card.gap
  pub gap_most : card.gap < L.end_mark
  pub set_up : 1 ≤ card.set_up
  pub set_up_most : card.set_up ≤ L.set_up_most
  pub valid_least : L.valid_least ≤ card.valid
  pub valid_most : card.valid ≤ L.valid_most
  pub take : 1 ≤ card.take
  pub take_most : card.take ≤ L.take_latest
  pub end_gap_least : L.end_mark ≤ card.end_gap
  pub end_gap_most : card.end_gap ≤ L.end_mark_latest
  pub acknowledgement_least : L.acknowledge_least ≤ card.acknowledgement
  pub acknowledgement_most : card.acknowledgement ≤ L.acknowledge_most
  pub response : 1 ≤ card.response
  pub response_most : card.response ≤ L.response
  pub silence : 1 ≤ card.silence

-- Steady: the last of equal set-up ticks shows what the first does.
last_of_same : (b : Bool) (n : ℕ) → b ≡ last_of b (replicate n b)
last_of_same b zero = refl
last_of_same b (suc n) = last_of_same b n

module _ {L : Limits} {card : Card} (in_time : InTime L card) where
  bit_keeps : (b : Bool) → BitRule L (bit_of card b)
  bit_keeps b =
      record {
        set_up = omega (arith, length-replicate (card.set_up - 1) b);
        valid_least = in_time.valid_least;
        valid_most = in_time.valid_most;
        steady = last_of_same b (card.set_up - 1);
      }

  bits_keep : (k value : ℕ) → BitRules L (bits_of card k value)
  unfolding bits_of
  bits_keep zero value = tt
  bits_keep (suc k) value = (bit_keeps (odd value), bits_keep k (value / 2))

  bits_count : (k value : ℕ) → length (bits_of card k value) ≡ k
  unfolding bits_of
  bits_count zero value = refl
  bits_count (suc k) value = ap suc (bits_count k (value / 2))

  -- The rules of a byte, of a sending and of the plan.
  frame_keeps : (value : ℕ) → FrameRules L (frame_of card value)
  frame_keeps value =
      record {
        bits = record { eight = bits_count 8 value; each = bits_keep 8 value };
        handover = search rules;
        release = search rules;
      }

  sending_keeps : (first : ℕ) (others : List ℕ) → SendingRules L (sending_of card first others)
  sending_keeps first [] =
      record {
        entry = in_time.entry;
        end_mark = search rules;
        frame = frame_keeps first;
        let_go = search rules;
        silent = search rules;
      }
  sending_keeps first (second ∷ others) =
      (record { plain = search rules; frame = frame_keeps first; let_go = search rules }, sending_keeps second others)

  pub plan_keeps : (first : ℕ) (others : List ℕ) → PlanRules L (plan_of card first others)
  plan_keeps first others =
      record { first_take = search rules; first_release = search rules; first_let_go = search rules; sending = sending_keeps first others }
