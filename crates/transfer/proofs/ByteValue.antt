-- Eight bits taken in one after another make the byte that the sender's bits are worth. Assumes nothing.
use Rattle.std.specs.Prelude.{ℕ, ◌+◌, ◌*◌, ◌/◌, ◌≤◌, Bool, true, false, List, [], ◌∷◌, map, length, ◌≡◌, if◌then◌else◌}
use native.Mathlib.Omega.{arith}
use Rattle.transfer.specs.{Phases.with_bit, Parties.Bit, Parties.value_of, Rules.last_of}

-- The judge's way: bits taken in after `value`.
abbrev pub taken_in : (value : ℕ) → List Bit → ℕ
taken_in value [] = value
taken_in value (x ∷ xs) = taken_in (with_bit value x.bit) xs

-- The last of the bits, after a bit b.
abbrev pub last_bit : Bool → List Bit → Bool
last_bit b xs = last_of b (map (λ (x : Bit). x.bit) xs)

-- A bit as a number.
abbrev one : Bool → ℕ
one b = if b then 1 else 0

one_most : (b : Bool) → one b ≤ 1
one_most true = omega arith
one_most false = omega arith

weighs : (w : ℕ) (b : Bool) → (if b then w else 0) ≡ w * one b
weighs w true = omega arith
weighs w false = omega arith

with_bit_is : (v : ℕ) (b : Bool) → with_bit v b ≡ v / 2 + 128 * one b
unfolding with_bit
with_bit_is v true = omega arith
with_bit_is v false = omega arith

octet : (a b c d e f g h : Bool)
    → with_bit (with_bit (with_bit (with_bit (with_bit (with_bit (with_bit (with_bit 0 a) b) c) d) e) f) g) h
    ≡ (if a then 1 else 0) + ((if b then 2 else 0) + ((if c then 4 else 0) + ((if d then 8 else 0)
    + ((if e then 16 else 0) + ((if f then 32 else 0) + ((if g then 64 else 0) + ((if h then 128 else 0) + 0)))))))
octet a b c d e f g h =
    rw (
      with_bit_is _ h,
      with_bit_is _ g,
      with_bit_is _ f,
      with_bit_is _ e,
      with_bit_is _ d,
      with_bit_is _ c,
      with_bit_is _ b,
      with_bit_is 0 a,
      weighs 2 b,
      weighs 4 c,
      weighs 8 d,
      weighs 16 e,
      weighs 32 f,
      weighs 64 g,
      weighs 128 h,
    )
    (omega (arith, one_most a, one_most b, one_most c, one_most d, one_most e, one_most f, one_most g, one_most h))

pub eight_bits : (xs : List Bit) → length xs ≡ 8 → taken_in 0 xs ≡ value_of 1 xs
eight_bits (a ∷ b ∷ c ∷ d ∷ e ∷ f ∷ g ∷ h ∷ []) k = octet a.bit b.bit c.bit d.bit e.bit f.bit g.bit h.bit
eight_bits [] k = absurd (omega arith)
eight_bits (a ∷ []) k = absurd (omega arith)
eight_bits (a ∷ b ∷ []) k = absurd (omega arith)
eight_bits (a ∷ b ∷ c ∷ []) k = absurd (omega arith)
eight_bits (a ∷ b ∷ c ∷ d ∷ []) k = absurd (omega arith)
eight_bits (a ∷ b ∷ c ∷ d ∷ e ∷ []) k = absurd (omega arith)
eight_bits (a ∷ b ∷ c ∷ d ∷ e ∷ f ∷ []) k = absurd (omega arith)
eight_bits (a ∷ b ∷ c ∷ d ∷ e ∷ f ∷ g ∷ []) k = absurd (omega arith)
eight_bits (a ∷ b ∷ c ∷ d ∷ e ∷ f ∷ g ∷ h ∷ i ∷ xs) k = absurd (omega arith)
