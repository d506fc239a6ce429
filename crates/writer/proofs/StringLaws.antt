-- The steps of a string: those of all bytes but the last, and of the last. Assumes nothing.
use Rattle.std.specs.Prelude.{ℕ, ◌+◌, ◌*◌, ◌≤◌, List, [], ◌∷◌, ◌++◌, length, take, ◌≡◌}
use Rattle.std.specs.List.{flat_map}
use mathlib.Core.{List.append-nil, List.append_assoc, Path.refl, Path.sym}
use native.Mathlib.Omega.{arith}
use lib.ListN.{length-append, length-take}
use Rattle.writer.specs.{Written.written_step_count, Put.Put}
use Rattle.writer.specs.WrittenSteps.{byte_steps, plain_gap, sent_steps, empty_steps, written_steps}
use Rattle.writer.specs.declared.card.Card.{Card}
use Rattle.writer.specs.declared.steps.StepWriter.{StepWriter}
use Rattle.writer.proofs.ByteLaws.{byte_count, last_count}

module _ (card : Card) where
  pub no_bytes : (bytes : List ℕ) → length bytes ≡ 0 → written_steps card bytes ≡ empty_steps card
  unfolding written_steps
  no_bytes [] none = refl
  no_bytes (first ∷ others) none = absurd (omega arith)

  -- All bytes but the last, and then the last.
  pub last_after : (others : List ℕ) (last : ℕ)
      → written_steps card (others ++ (last ∷ [])) ≡ flat_map (byte_steps card (plain_gap card)) others ++ sent_steps card last []
  unfolding written_steps sent_steps
  last_after [] last = refl
  last_after (first ∷ []) last = rw append-nil
  last_after (first ∷ second ∷ others) last =
      rw (last_after (second ∷ others) last) (sym (append_assoc (byte_steps card (plain_gap card) first) _ _))

  others_count : (others : List ℕ) → length (flat_map (byte_steps card (plain_gap card)) others) ≡ 20 * length others
  others_count [] = refl
  others_count (first ∷ others) =
      let byte = byte_count card first (plain_gap card) in
      let rest = others_count others in
      simp length-append (omega arith)

  sent_count : (first : ℕ) (others : List ℕ) → length (sent_steps card first others) ≡ 20 * length others + 25
  unfolding sent_steps
  sent_count first [] = last_count card first
  sent_count first (second ∷ others) =
      let byte = byte_count card first (plain_gap card) in
      let rest = sent_count second others in
      simp length-append (omega arith)

  -- "Steps 20n+5."
  pub written_count : (bytes : List ℕ) → length (written_steps card bytes) ≡ written_step_count (length bytes)
  unfolding written_steps
  written_count [] = refl
  written_count (first ∷ others) = let sent = sent_count first others in omega arith

-- The next step for a loop at byte i of those before the last.
pub bytes_next : (others : List ℕ) (i : ℕ) {w w₁ : StepWriter} → i ≤ length others
    → Put (flat_map (byte_steps w.card (plain_gap w.card)) (take i others)) w w₁ → w₁.next ≡ w.next + 20 * i
bytes_next others i {w} within put =
    omega (arith, put.next, others_count w.card (take i others), length-take i others)
