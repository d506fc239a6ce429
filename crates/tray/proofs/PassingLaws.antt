-- The test of a post passes exactly if what it stands for holds. Assumes nothing.
use Rattle.std.specs.Prelude.{ℕ, true, ◌&&◌, List, length, take, ◌≡◌, ◌↔◌, eqb}
use Rattle.std.specs.List.{starts_with}
use Rattle.std.proofs.lemmas.Slice.Eq.{bytes_eq-Decides}
use mathlib.Core.Bool.{and-eq-true_iff}
use mathlib.Core.Path.{sym}
use borrow.Author.Tests.{eqb-true, eq-eqb}
use Rattle.tray.specs.{Passing.passing, Facts.PassingLaw}

begins : (buffer expected : List ℕ) → (starts_with eqb buffer expected ≡ true) ↔ (take (length expected) buffer ≡ expected)
begins buffer expected =
    let same = bytes_eq-Decides expected (take (length expected) buffer) in (λ e. sym (same.0 e), λ h. same.1 (sym h))

pub passing_law : PassingLaw
unfolding passing
passing_law answer buffer expected =
    let counts = and-eq-true_iff (eqb answer.count (length expected)) (starts_with eqb buffer expected) in
    let tests = and-eq-true_iff (eqb answer.number 20) (eqb answer.count (length expected) && starts_with eqb buffer expected) in
    let bytes = begins buffer expected in (
      λ e. record {
        number = eqb-true answer.number 20 (tests.0 e).0;
        count = eqb-true answer.count (length expected) (counts.0 (tests.0 e).1).0;
        begins = bytes.0 (counts.0 (tests.0 e).1).1;
      },
      λ p. tests.1 (
        eq-eqb answer.number 20 p.number,
        counts.1 (eq-eqb answer.count (length expected) p.count, bytes.1 p.begins),
      ),
    )
