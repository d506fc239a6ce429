-- Numbers from digits. Assumes nothing.
use Prim.Native.Char.{code}
use Rattle.std.specs.Prelude.{ℕ, ◌+◌, ◌-◌, ◌*◌, ◌≤◌, ◌<◌, ◌≡◌, min, Bool, true, false, ◌&&◌, if◌then◌else◌}
use Rattle.std.specs.Prelude.{List, [], ◌∷◌, length, drop, get_or}
use native.Mathlib.{Omega.arith, Numerals.add-one}
use mathlib.Core.Path.{refl, ap, sym, ◌∙◌}
use borrow.Author.Tests.{lt-ltb, le-ltb, lt-leb, le-leb}
use Rattle.std.specs.{Char.is_ascii_digit, List.list_all}
use lib.{ListN.drop_of_length-le, Seq.drop-cons}
use Rattle.tray_file.proofs.LineLaws.{either_below}
use Rattle.tray_file.specs.SeatNumber.{is_digit, all_digits, is_number, number_after, number_of, or_forty}

pub below_forty : (n : ℕ) → n < 40 → or_forty n ≡ n
unfolding or_forty
below_forty n h = rw (lt-ltb n 40 h)

pub from_forty : (n : ℕ) → 40 ≤ n → or_forty n ≡ 40
unfolding or_forty
from_forty n h = rw (le-ltb n 40 h)

pub at_most_forty : (n : ℕ) → or_forty n ≤ 40
at_most_forty n = either_below n 40 (λ low. omega (arith, below_forty n low)) (λ high. omega (arith, from_forty n high))

-- What is kept of a number is enough for what is kept of it with a digit more.
digit_after : (n x : ℕ) → or_forty (or_forty n * 10 + x) ≡ or_forty (n * 10 + x)
digit_after n x =
    either_below n 40 (λ low. rw (below_forty n low))
    (λ high. rw (from_forty n high) (from_forty (40 * 10 + x) (omega arith) ∙ sym (from_forty (n * 10 + x) (omega arith))))

twice : (n : ℕ) → or_forty (or_forty n) ≡ or_forty n
twice n = either_below n 40 (λ low. ap or_forty (below_forty n low)) (λ high. rw (from_forty n high) (from_forty 40 (omega arith)))

kept_after : (digits : List ℕ) (n : ℕ) → or_forty (number_after (or_forty n) digits) ≡ or_forty (number_after n digits)
unfolding number_after
kept_after [] n = twice n
kept_after (d ∷ digits) n =
    let x = d - code "0" in
    sym (kept_after digits (or_forty n * 10 + x))
    ∙ ap (λ (m : ℕ). or_forty (number_after m digits)) (digit_after n x)
    ∙ kept_after digits (n * 10 + x)

pub min_forty : (n : ℕ) → min 40 n ≡ or_forty n
min_forty n = either_below n 40 (λ low. omega (arith, below_forty n low)) (λ high. omega (arith, from_forty n high))

-- At a place of the digits: what is kept of the number so far, with the digits that are left after it, is what is kept of all.
pub record Kept (digits : List ℕ) (number place : ℕ) : Type 0 where
  pub within : place ≤ length digits
  pub small : number ≤ 40
  pub all : or_forty (number_after number (drop place digits)) ≡ or_forty (number_of digits)

pub kept_first : (digits : List ℕ) → Kept digits 0 0
kept_first digits = record { within = omega arith; small = omega arith; all = refl }

pub kept_next : (digits : List ℕ) (number place next : ℕ) → Kept digits number place → place < length digits
    → next ≡ or_forty (number * 10 + (get_or digits place 0 - 48)) → Kept digits next (place + 1)
unfolding number_after
kept_next digits number place next kept more e =
    let m = number * 10 + (get_or digits place 0 - 48) in
    let here : number_after number (drop place digits) ≡ number_after m (drop (place + 1) digits) =
    rw (add-one place, drop-cons digits place 0 more) in
    record {
      within = omega arith;
      small = rw e (at_most_forty m);
      all = rw e (kept_after (drop (place + 1) digits) m ∙ ap or_forty (sym here) ∙ kept.all);
    }

pub kept_all : (digits : List ℕ) (number place : ℕ) → Kept digits number place → length digits ≤ place
    → number ≡ or_forty (number_of digits)
unfolding number_after
kept_all digits number place kept end =
    let rest : number_after number (drop place digits) ≡ number = rw (drop_of_length-le digits end) in
    either_below number 40
    (λ low. sym (below_forty number low) ∙ ap or_forty (sym rest) ∙ kept.all)
    (λ high. let full : number ≡ 40 = omega (arith, kept.small) in full ∙ sym (from_forty number high) ∙ ap or_forty (sym rest) ∙ kept.all)

same_digit : (byte : ℕ) → is_ascii_digit byte ≡ is_digit byte
same_digit byte =
    either_below byte 48 (λ low. rw (lt-ltb byte 48 low, lt-leb 48 byte low))
    (λ high.
    either_below 57 byte
    (λ above. rw (le-ltb byte 48 high, lt-ltb 57 byte above, le-leb 48 byte high, lt-leb byte 57 above))
    (λ within. rw (le-ltb byte 48 high, le-ltb 57 byte within, le-leb 48 byte high, le-leb byte 57 within)))

and_if : (a b : Bool) → (a && b) ≡ (if a then b else false)
and_if true b = refl
and_if false b = refl

all_same : (text : List ℕ) → list_all is_ascii_digit text ≡ all_digits text
unfolding all_digits
all_same [] = refl
all_same (byte ∷ text) = rw (same_digit byte, all_same text) (and_if (is_digit byte) (all_digits text))

-- Digits, and not none.
pub numbered : (text : List ℕ) → (length text ≡ 0 → ⊥) → list_all is_ascii_digit text ≡ is_number text
unfolding is_number
numbered [] some = absurd (some refl)
numbered (byte ∷ text) some = all_same (byte ∷ text)

pub no_text : (text : List ℕ) → length text ≡ 0 → false ≡ is_number text
unfolding is_number
no_text [] h = refl
no_text (b ∷ text) h = absurd (omega arith)
