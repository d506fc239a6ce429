-- Two words beside the library's in which definitions are written: the test that two numbers differ, and a list whose first entry alone is
-- another.
use Rattle.std.specs.Prelude.{ℕ, zero, suc, Bool, not, eqb, List, [], ◌∷◌, replicate}

abbrev pub differs : ℕ → ℕ → Bool
differs a b = not (eqb a b)

-- n entries: `first`, and after it only `other`.
abbrev pub first_then : {A : Type 0} → (n : ℕ) (first other : A) → List A
first_then zero first other = []
first_then (suc n) first other = first ∷ replicate n other
