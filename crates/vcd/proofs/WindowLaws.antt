-- A text that is put down through a window leaves the piece of it that lies there. Assumes nothing.
use Rattle.std.specs.Prelude.{ℕ, zero, suc, ◌+◌, ◌-◌, ◌≤◌, List, [], ◌∷◌, length, take, drop, set, ◌≡◌}
use mathlib.Core.Path.{sym, ap, ◌∙◌}
use native.Mathlib.{Nat.add-zero, Nat.zero-add, Nat.sub-zero, Numerals.add-one, Omega.arith}
use borrow.Author.Tests.{lt-ltb, le-ltb}
use lib.ListN.{length-set, length-take}
use lib.Seq.{take-nil, drop-nil, sets, sets-eq}
use Rattle.std.specs.Borrow.{MutBor}
use Rattle.answer.specs.Answers.{◌over◌}
use Rattle.vcd.specs.Dumped.{piece}
use Rattle.vcd.specs.Put.{Held, held, window_at, put_byte, put, Puts}
use Rattle.vcd.specs.declared.window.Window.{Window}

abbrev at : (ahead count : ℕ) → List ℕ → Held
at ahead count d = record { ahead = ahead; count = count; destination = d }

-- From the window's beginning on, with so much room left.
filled : (text : List ℕ) (room : ℕ) (d : List ℕ) (count : ℕ) → count + room ≡ length d
    → put text (at 0 count d) ≡ at 0 (count + length (take room text)) (sets d count (take room text))
unfolding put put_byte
filled [] room d count e = rw (take-nil room, add-zero count)
filled (b ∷ text) zero d count e = rw (le-ltb count (length d) (omega arith)) (filled text zero d count e)
filled (b ∷ text) (suc room) d count e =
    let place : count + 1 + length (take room text) ≡ count + suc (length (take room text)) = omega arith in
    rw (lt-ltb count (length d) (omega arith))
    (filled text room (set d count b) (count + 1) (omega (arith, length-set d count b)) ∙ rw (place, add-one count))

-- Bytes before the window are passed over.
passed : (text d : List ℕ) (offset : ℕ) → (let p = piece text offset (length d) in
    put text (at offset 0 d) ≡ at (offset - length text) (length p) (sets d 0 p))
unfolding put put_byte
passed [] d offset = rw (drop-nil offset, take-nil (length d), sub-zero offset)
passed (b ∷ text) d zero =
    let none : 0 - suc (length text) ≡ 0 = omega arith in
    filled (b ∷ text) (length d) d 0 (zero-add (length d)) ∙ rw (none, zero-add)
passed (b ∷ text) d (suc offset) =
    let one_less : suc offset - 1 ≡ offset = omega arith in
    let left : suc offset - suc (length text) ≡ offset - length text = omega arith in
    rw (lt-ltb 0 (suc offset) (omega arith), one_less, left) (passed text d offset)

-- A text that was put down through a window onto what was lent: the piece, and how long it is; and the lent name.
pub record Through (text : List ℕ) (offset : ℕ) (lent : MutBor (List ℕ)) (w : Window) : Type 0 where
  pub counted : w.count ≡ length (piece text offset (length lent.now))
  pub there : w.destination.now ≡ piece text offset (length lent.now) over lent.now
  pub same : lent.ghost_name ≡ w.destination.ghost_name

pub through : (text : List ℕ) (offset : ℕ) (lent : MutBor (List ℕ)) {w w₁ : Window} → w ≡ window_at offset lent → Puts text w w₁
    → Through text offset lent w₁
through text offset lent {w} {w₁} new puts =
    let d = lent.now in
    let p = piece text offset (length d) in
    let begun : Puts text (window_at offset lent) w₁ = rw new at puts in
    let all : held w₁ ≡ at (offset - length text) (length p) (sets d 0 p) = begun.done ∙ passed text d offset in
    let z : 0 + length p ≡ length p = zero-add (length p) in
    let fits : 0 + length p ≤ length d = omega (arith, length-take (length d) (drop offset text)) in
    record {
      counted = ap (λ (h : Held). h.count) all;
      there = ap (λ (h : Held). h.destination) all ∙ sets-eq p d 0 fits ∙ rw z;
      same = sym begun.same;
    }
