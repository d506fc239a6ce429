-- A number in decimal, digit by digit. Assumes nothing.
use Rattle.std.specs.Prelude.{ℕ, zero, suc, ◌/◌, ◌%◌, ◌^◌, ◌≤◌, ◌<◌, Bool, true, false, List, [], ◌∷◌, ◌++◌, ◌≡◌, ltb, if◌then◌else◌}
use mathlib.Core.Path.{refl, ap}
use native.Mathlib.{Nat.pow-suc, Omega.arith}
use borrow.Author.Tests.{lt-ltb, le-ltb}
use Rattle.answer.specs.Text.{digit}
use Rattle.vcd.specs.Text.{decimal_in, decimal}

-- Where so many digits are enough, one more changes nothing.
enough : (k n : ℕ) → n < 10 ^ suc k → decimal_in (suc k) n ≡ decimal_in (suc (suc k)) n
unfolding decimal_in
enough zero n small = rw (lt-ltb n 10 small)
enough (suc k) n small = by_test (λ less. enough k (n / 10) less) (ltb n 10) refl
  where
    by_test : (n / 10 < 10 ^ suc k → decimal_in (suc k) (n / 10) ≡ decimal_in (suc (suc k)) (n / 10)) → (t : Bool) → ltb n 10 ≡ t
        → (if t then digit n ∷ [] else (decimal_in (suc k) (n / 10) ++ (digit (n % 10) ∷ [])))
        ≡ (if t then digit n ∷ [] else (decimal_in (suc (suc k)) (n / 10) ++ (digit (n % 10) ∷ [])))
    by_test rest true e = refl
    by_test rest false e = rw (rest (omega (arith, pow-suc 10 (suc k))))

pub one_digit : (n : ℕ) → n < 10 → decimal n ≡ digit (n % 10) ∷ []
unfolding decimal_in
one_digit n small = let same : n % 10 ≡ n = omega arith in rw (lt-ltb n 10 small, same)

pub more_digits : (n : ℕ) → 10 ≤ n → n < 10 ^ 10 → decimal n ≡ decimal (n / 10) ++ (digit (n % 10) ∷ [])
unfolding decimal_in
more_digits n large small = rw (le-ltb n 10 large) (ap (λ (l : List ℕ). l ++ (digit (n % 10) ∷ [])) (enough 8 (n / 10) (omega arith)))
