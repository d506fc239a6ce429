-- The line that a place is in. Assumes nothing.
use Rattle.std.specs.Prelude.{ℕ, zero, suc, ◌+◌, ◌-◌, ◌*◌, ◌/◌, ◌≤◌, ◌<◌, Bool, true, false, ltb, ◌≡◌}
use native.Mathlib.Omega.{arith}
use mathlib.Core.Path.{refl}
use borrow.Author.Tests.{lt-ltb, le-ltb, ltb-true, ltb-false}
use Rattle.tray_file.specs.{Reading.bytes_in, Steps.line_of}

pub either_below : {P : Type 0} (n m : ℕ) → (n < m → P) → (m ≤ n → P) → P
either_below {P} n m low high = at (ltb n m) refl
  where
    at : (t : Bool) → ltb n m ≡ t → P
    at true e = low (ltb-true n m e)
    at false e = high (ltb-false n m e)

in_heading : (place : ℕ) → place < 13 → line_of place ≡ 1
unfolding line_of
in_heading place h = rw (lt-ltb place 13 h)

after_heading : (place : ℕ) → 13 ≤ place → line_of place ≡ (place - 13) / 12 + 2
unfolding line_of
after_heading place h = rw (le-ltb place 13 h)

-- The lines before that of a place end at it or before it.
bytes_before : (place line : ℕ) → line_of place ≡ suc line → bytes_in line ≤ place
bytes_before place zero e = omega arith
bytes_before place (suc line) e =
    either_below place 13 (λ low. absurd (omega (arith, in_heading place low))) (λ high. omega (arith, after_heading place high))

-- The line of a place ends after it, and a seat's line is whole before it ends.
pub record InLine (place line : ℕ) : Type 0 where
  pub begun : bytes_in line ≤ place
  pub ended : place < bytes_in (suc line)
  pub whole : 13 ≤ place → 13 + (place - 13) / 12 * 12 + 12 ≤ bytes_in (suc line)

pub in_line : (place line : ℕ) → line_of place ≡ suc line → InLine place line
in_line place line e =
    either_below place 13
    (λ low.
    record {
      begun = bytes_before place line e;
      ended = omega (arith, in_heading place low);
      whole = λ high. omega arith;
    })
    (λ high.
    record {
      begun = bytes_before place line e;
      ended = omega (arith, after_heading place high);
      whole = λ _. omega (arith, after_heading place high);
    })

pub some_line : (place : ℕ) → 1 ≤ line_of place
some_line place =
    either_below place 13 (λ low. omega (arith, in_heading place low)) (λ high. omega (arith, after_heading place high))
