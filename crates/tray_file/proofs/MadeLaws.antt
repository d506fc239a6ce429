-- An array that is made by a closure which its calls leave as it was. Assumes nothing.
use Rattle.std.specs.Prelude.{ℕ, zero, suc, ◌+◌, ◌≤◌, ◌<◌, List, get_or, ◌≡◌}
use native.Mathlib.Omega.{arith}
use mathlib.Core.Path.{refl, subst, ap, sym, ◌∙◌}
use Rattle.std.specs.Array.{IsFromFnResultFrom, IsFromFnResult}
use Rattle.std.specs.Fn.{Mut, Called}
use Rattle.tray_file.proofs.LineLaws.{either_below}

module _ {F B : Type 0} (g : Mut F (ℕ × Unit {0}) B) (f : F) (n : ℕ) (right : ℕ → B)
    (called : (i : ℕ) (y : B) (q : F) → i < n → Called g f (i, tt) y q → (q ≡ f) × (y ≡ right i)) where
  made_from : (ys : List B) (i left : ℕ) (q : F) → q ≡ f → i + left ≤ n → IsFromFnResultFrom g q ys i left
      → (k : ℕ) (d : B) → i ≤ k → k < i + left → get_or ys k d ≡ right k
  made_from ys i zero q same within made k d low high = absurd (omega arith)
  made_from ys i (suc left) q same within made k d low high =
      let here = called i made.1 made.0 (omega arith) (subst (λ (p : F). Called g p (i, tt) made.1 made.0) same made.3) in
      either_below i k
      (λ more. made_from ys (i + 1) left made.0 here.0 (omega arith) made.4 k d (omega arith) (omega arith))
      (λ first.
      let place : k ≡ i = omega arith in
      ap (λ (j : ℕ). get_or ys j d) place ∙ made.2.1 d ∙ here.1 ∙ ap right (sym place))

  pub made_each : (ys : List B) → IsFromFnResult g f ys n → (k : ℕ) (d : B) → k < n → get_or ys k d ≡ right k
  made_each ys made k d h = made_from ys 0 n f refl (omega arith) made.each k d (omega arith) (omega arith)
