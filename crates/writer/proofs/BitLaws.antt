-- The steps of a value's bits, one bit more each time. Assumes nothing.
use Rattle.std.specs.Prelude.{ℕ, zero, suc, ◌+◌, ◌*◌, ◌/◌, ◌%◌, ◌^◌, List, [], ◌∷◌, ◌++◌, length, ◌≡◌}
use mathlib.Core.Path.{refl, sym, ap, ◌∙◌}
use native.Mathlib.Nat.{div-div-eq-div-mul, pow-suc}
use native.Mathlib.{Numerals.add-one, Omega.arith}
use Rattle.recording.specs.Types.{Step}
use Rattle.writer.specs.{WrittenSteps.shows, WrittenSteps.bit_steps, Put.Put}
use Rattle.writer.specs.declared.card.Card.{Card}
use Rattle.writer.specs.declared.steps.StepWriter.{StepWriter}
use Rattle.writer.proofs.PieceLaws.{and_then}

module _ (card : Card) where
  pub bits_count : (k value : ℕ) → length (bit_steps card k value) ≡ 2 * k
  unfolding bit_steps
  bits_count zero value = refl
  bits_count (suc k) value = let rest = bits_count k (value / 2) in omega arith

  abbrev pub one_bit : (dat : ℕ) → List Step
  one_bit dat = shows 1 dat card.set_up ∷ shows 0 dat card.valid ∷ []

  one_more_bit : (k value : ℕ) → bit_steps card (suc k) value ≡ bit_steps card k value ++ one_bit (value / 2 ^ k % 2)
  unfolding bit_steps
  one_more_bit zero value = let one : value / 1 ≡ value = omega arith in rw one
  one_more_bit (suc k) value =
      let twice : 2 * 2 ^ k ≡ 2 ^ suc k = omega (arith, pow-suc 2 k) in
      let half : value / 2 ^ suc k ≡ value / 2 / 2 ^ k = sym (div-div-eq-div-mul value 2 (2 ^ k) ∙ rw twice) in
      let rest = one_more_bit k (value / 2) in
      rw half (ap (λ (steps : List Step). shows 1 (value % 2) card.set_up ∷ shows 0 (value % 2) card.valid ∷ steps) rest)

-- For a loop at bit k of a value.
pub bit_put : (k value : ℕ) {w w₁ w₂ w₃ : StepWriter} → Put (bit_steps w.card k value) w w₁
    → Put (shows 1 (value / 2 ^ k % 2) w₁.card.set_up ∷ []) w₁ w₂ → Put (shows 0 (value / 2 ^ k % 2) w₂.card.valid ∷ []) w₂ w₃
    → Put (bit_steps w.card (k + 1) value) w w₃
bit_put k value {w} put set_up valid =
    let dat = value / 2 ^ k % 2 in
    let both = and_then (λ card. shows 0 dat card.valid ∷ []) set_up valid in
    rw (add-one, one_more_bit w.card k value) (and_then (λ card. one_bit card dat) put both)
