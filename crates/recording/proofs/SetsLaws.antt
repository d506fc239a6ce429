-- Runs of stores: one run after another is one run. Assumes nothing.
use Rattle.std.specs.Prelude.{ℕ, suc, ◌+◌, List, [], ◌∷◌, ◌++◌, length, set, ◌≡◌}
use mathlib.Core.Path.{sym}
use native.Mathlib.{Nat.add-zero, Omega.arith}
use lib.Seq.{sets}

pub sets-append : (l : List ℕ) (at : ℕ) (xs ys : List ℕ) → sets l at (xs ++ ys) ≡ sets (sets l at xs) (at + length xs) ys
sets-append l at [] ys = rw (add-zero at)
sets-append l at (x ∷ xs) ys =
    let e : at + suc (length xs) ≡ suc at + length xs = omega arith in
    rw e (sets-append (set l at x) (suc at) xs ys)

-- Two stores that go on after a run.
pub two_more : (l : List ℕ) (at : ℕ) (xs : List ℕ) (y z : ℕ)
    → set (set (sets l at xs) (at + length xs) y) (at + suc (length xs)) z ≡ sets l at (xs ++ (y ∷ z ∷ []))
two_more l at xs y z =
    let e : at + suc (length xs) ≡ suc (at + length xs) = omega arith in
    rw e (sym (sets-append l at xs (y ∷ z ∷ [])))
