-- The steps put down are such that a recording can have them. Assumes nothing.
use Rattle.std.specs.Prelude.{ℕ, zero, suc, ◌/◌, ◌≤◌, List, [], ◌∷◌, ◌++◌}
use borrow.Author.Rules.{rules}
use Rattle.recording.specs.{Types.Step, FileOf.Recordable, Layout.longest_duration}
use Rattle.writer.specs.Card.{standard_card}
use Rattle.writer.specs.WrittenSteps.{bit_steps, byte_steps, plain_gap, end_gap, sent_steps, written_steps}
use Rattle.writer.specs.declared.card.Card.{Card}

-- A duration that a step can have.
pub record Fits (duration : ℕ) : Type 0 where
  pub least : 1 ≤ duration
  pub most : duration ≤ longest_duration

-- A card of such durations.
pub record CardFits (card : Card) : Type 0 where
  pub hold : Fits card.hold
  pub ready : Fits card.ready_to_send
  pub gap : Fits card.gap
  pub set_up : Fits card.set_up
  pub valid : Fits card.valid
  pub take : Fits card.take
  pub end_gap_fits : Fits card.end_gap
  pub acknowledgement : Fits card.acknowledgement
  pub response : Fits card.response
  pub silence : Fits card.silence
  pub no_response : Fits card.no_response

-- Two lists of steps, one after the other.
both_recordable : (a b : List Step) → Recordable a → Recordable b → Recordable (a ++ b)
both_recordable [] b g h = h
both_recordable (s ∷ a) b g h = (g.0, both_recordable a b g.1 h)

module _ (card : Card) (fits : CardFits card) where
  bits_recordable : (k value : ℕ) → Recordable (bit_steps card k value)
  unfolding bit_steps
  bits_recordable zero value = tt
  bits_recordable (suc k) value = let rest = bits_recordable k (value / 2) in search rules

  byte_recordable : (gap : List Step) (value : ℕ) → Recordable gap → Recordable (byte_steps card gap value)
  unfolding byte_steps
  byte_recordable gap value g = (
    search rules,
    (
      search rules,
      both_recordable gap _ g (both_recordable (bit_steps card 8 value) _ (bits_recordable 8 value) (search rules)),
    ),
  )

  sent_recordable : (first : ℕ) (others : List ℕ) → Recordable (sent_steps card first others)
  unfolding sent_steps
  sent_recordable first [] =
      both_recordable (byte_steps card (end_gap card) first) _ (byte_recordable _ first (search rules)) (search rules)
  sent_recordable first (second ∷ others) =
      both_recordable (byte_steps card (plain_gap card) first) _ (byte_recordable _ first (search rules)) (sent_recordable second others)

  -- For any such card and any string.
  pub fitting_recordable : (string : List ℕ) → Recordable (written_steps card string)
  unfolding written_steps
  fitting_recordable [] = search rules
  fitting_recordable (first ∷ others) = sent_recordable first others

-- Document 01's card.
standard_fits : CardFits standard_card
standard_fits = search rules

pub written_recordable : (string : List ℕ) → Recordable (written_steps standard_card string)
written_recordable string = fitting_recordable standard_card standard_fits string
