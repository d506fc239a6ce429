-- What a test says: the rules that a proof searches with where a definition goes by tests, and what a passed test leaves. Assumes nothing.
use Rattle.std.specs.Prelude.{ℕ, Ok, Err, Bool, true, false, ◌≡◌, eqb, if◌then◌else◌}
use Rattle.answer.specs.Basics.{differs}
use mathlib.Core.Path.{refl}
use native.Mathlib.Omega.{arith}
use borrow.Author.Tests.{lt-ltb, le-ltb, le-leb, lt-leb, eq-eqb, ne_eqb, eqb-true, not-false}
use Rattle.recording.specs.Form.{Test, Form, refused_at, after_test}
use Rattle.answer.specs.Types.{Refusal}

pub ruleset tests = (lt-ltb, le-ltb, le-leb, lt-leb, eq-eqb, ne_eqb)

pub same : (a b : ℕ) → differs a b ≡ false → a ≡ b
same a b e = eqb-true a b (not-false (eqb a b) e)

-- In a chain of tests that passed, the first did not fail and the rest passed.
pub passed_on : (t : Bool) (r : Refusal) (rest : Test) → (if t then Err r else rest) ≡ Ok tt → (t ≡ false) × (rest ≡ Ok tt)
passed_on true r rest e = let z : ◌≡◌ {A = ℕ} 0 1 = cc in absurd (omega arith)
passed_on false r rest e = (refl, e)

-- A form that is good was not refused here, and is good in what follows.
pub good_else : (t : Bool) (r : Refusal) (step : ℕ) (rest : Form) (n : ℕ)
    → (if t then refused_at r step else rest) ≡ Ok n → (t ≡ false) × (rest ≡ Ok n)
good_else true r step rest n e = let z : ◌≡◌ {A = ℕ} 0 1 = cc in absurd (omega arith)
good_else false r step rest n e = (refl, e)

pub good_after : (t : Test) (step : ℕ) (rest : Form) (n : ℕ)
    → after_test t step rest ≡ Ok n → (t ≡ Ok tt) × (rest ≡ Ok n)
good_after (Ok _) step rest n e = (refl, e)
good_after (Err r) step rest n e = let z : ◌≡◌ {A = ℕ} 0 1 = cc in absurd (omega arith)
