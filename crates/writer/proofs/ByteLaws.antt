-- The pieces of a byte, and how many steps they are. Assumes nothing.
use Rattle.std.specs.Prelude.{ℕ, ◌+◌, List, [], ◌++◌, length, ◌≡◌}
use mathlib.Core.Path.{refl}
use native.Mathlib.Omega.{arith}
use lib.ListN.{length-append}
use Rattle.recording.specs.Types.{Step}
use Rattle.writer.specs.WrittenSteps.{byte_steps, end_gap, closing, sent_steps, opening, value_steps}
use Rattle.writer.specs.declared.card.Card.{Card}
use Rattle.writer.proofs.BitLaws.{bits_count}

module _ (card : Card) (value : ℕ) where
  pub byte_pieces : (gap : List Step) → byte_steps card gap value ≡ opening card ++ (gap ++ value_steps card value)
  unfolding byte_steps
  byte_pieces gap = refl

  pub last_pieces : sent_steps card value [] ≡ byte_steps card (end_gap card) value ++ closing card
  unfolding sent_steps
  last_pieces = refl

  pub value_count : length (value_steps card value) ≡ 17
  value_count = let bits = bits_count card 8 value in simp length-append (omega arith)

  pub byte_count : (gap : List Step) → length (byte_steps card gap value) ≡ length gap + 19
  byte_count gap =
      let bits = bits_count card 8 value in
      rw (byte_pieces gap) (simp length-append (omega arith))

  pub last_count : length (sent_steps card value []) ≡ 25
  last_count = let byte = byte_count (end_gap card) in rw last_pieces (simp length-append (omega arith))
