-- How bytes that are handed over are stored in the lent buffers. Assumes nothing.
use Rattle.std.specs.Prelude.{ℕ, ◌+◌, ◌*◌, ◌≤◌, Bool, true, false, List, [], ◌∷◌, ◌++◌, length, set, ◌≡◌, eqb, if◌then◌else◌}
use mathlib.Core.Path.{refl, sym, ap, ap₂, ◌∙◌}
use native.Mathlib.Omega.{arith}
use lib.{ListN.length-set, Seq.sets, Seq.sets-eq}
use borrow.Author.Tests.{eqb-true, eqb-false}
use Rattle.answer.specs.Answers.{◌over◌}
use Rattle.transfer.specs.{Types.Byte, Pair.values, Moves.held_byte}
use Rattle.reader.specs.declared.state.State.{State}
use Rattle.reader.proofs.TickLaws.{OneTick}
use Rattle.judge.specs.{Judged.two_ticks, Reading.with_byte, Reading.with_ticks}

-- Stores from the first place on put these values in place of what stood there, and keep the rest.
pub stored_first : (v b : List ℕ) → length v ≤ length b → sets b 0 v ≡ v over b
stored_first v b h =
    let z : 0 + length v ≡ length v = omega arith in
    sets-eq v b 0 (rw z h) ∙ rw z

-- A byte that a tick handed over, by whether the count rose, and then the rest.
module _ (s t : State) (held : Byte) (rest : List Byte) (one : OneTick s t) where
  pub byte_stored : (bytes : List ℕ) (q : Bool) → eqb t.count s.count ≡ q
      → sets bytes s.count (values ((if q then [] else (held ∷ [])) ++ rest))
      ≡ sets (if q then bytes else set bytes s.count held.value) t.count (values rest)
  byte_stored bytes true e = ap (λ (n : ℕ). sets bytes n (values rest)) (sym (eqb-true t.count s.count e))
  byte_stored bytes false e =
      ap (λ (n : ℕ). sets (set bytes s.count held.value) n (values rest))
      (omega (arith, eqb-false t.count s.count e, one.count_least, one.count_most))

  pub ticks_stored : (ledger : List ℕ) (q : Bool) → eqb t.count s.count ≡ q
      → sets ledger (2 * s.count) (two_ticks ((if q then [] else (held ∷ [])) ++ rest))
      ≡ sets (if q then ledger else set (set ledger (2 * s.count) held.let_go) (2 * s.count + 1) held.take)
      (2 * t.count) (two_ticks rest)
  unfolding two_ticks
  ticks_stored ledger true e = ap (λ (n : ℕ). sets ledger (2 * n) (two_ticks rest)) (sym (eqb-true t.count s.count e))
  ticks_stored ledger false e =
      ap₂ (λ (m n : ℕ). sets (set (set ledger (2 * s.count) held.let_go) m held.take) n (two_ticks rest))
      (omega arith) (omega (arith, eqb-false t.count s.count e, one.count_least, one.count_most))

-- A tick changes no buffer's length.
pub byte_keeps_length : (bytes bytes' : List ℕ) (s t : State) → bytes' ≡ with_byte bytes s t → length bytes' ≡ length bytes
byte_keeps_length bytes bytes' s t e = ap length e ∙ by_test (eqb t.count s.count) (held_byte s.phase)
  where
    by_test : (q : Bool) (held : Byte) → length (if q then bytes else set bytes s.count held.value) ≡ length bytes
    by_test true held = refl
    by_test false held = length-set bytes s.count held.value

pub ticks_keep_length : (ledger ledger' : List ℕ) (s t : State) → ledger' ≡ with_ticks ledger s t → length ledger' ≡ length ledger
ticks_keep_length ledger ledger' s t e = ap length e ∙ by_test (eqb t.count s.count) (held_byte s.phase)
  where
    by_test : (q : Bool) (held : Byte)
        → length (if q then ledger else set (set ledger (2 * s.count) held.let_go) (2 * s.count + 1) held.take)
        ≡ length ledger
    by_test true held = refl
    by_test false held = simp length-set
