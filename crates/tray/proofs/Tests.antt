-- What a choice by a test gives, and the rules that a proof searches with where a definition goes by tests. Assumes nothing.
use Rattle.std.specs.Prelude.{Bool, true, false, ◌≡◌, if◌then◌else◌}
use mathlib.Core.Path.{refl}
use borrow.Author.Tests.{eq-eqb, ne_eqb, le-leb, lt-leb}

pub ruleset tests = (eq-eqb, ne_eqb, le-leb, lt-leb)

-- What holds of each of the two where the test gives it holds of the one that is given.
pub of_test : {A : Type 0} (P : A → Type 0) (t : Bool) {x y : A} → (t ≡ true → P x) → (t ≡ false → P y) → P (if t then x else y)
of_test P true given otherwise = given refl
of_test P false given otherwise = otherwise refl
