-- A post of what the judge gives. Assumes nothing.
use Rattle.std.specs.Prelude.{ℕ, Bool, true, false, List, length, ◌≡◌}
use mathlib.Core.Path.{refl, sym, ap, ◌∙◌}
use native.Mathlib.Omega.{arith}
use Rattle.transfer.specs.{Types.Limits}
use Rattle.judge.specs.Demand3.{CompleteWith}
use Rattle.judge.proofs.{Mission.mission, Demand3.file_demand3}
use Rattle.tray.specs.{Types.Passed, Types.Seat, Seats.posted, Passing.passing, Sealing.has_passed}
use Rattle.tray.specs.Joined.{given, left, Passes, PostedLaw}
use Rattle.tray.proofs.{PassingLaws.passing_law, NeverPasses.posts_replace}

-- Only a post that passes makes a seat passed.
only_passing : (passes : Bool) → posted passes ≡ Passed → passes ≡ true
only_passing true e = refl
only_passing false e = ap has_passed e

module _ (L : Limits) (file bytes ledger expected : List ℕ) (tray : List Seat) (seat : ℕ) where
  abbrev test : Bool
  test = passing (given L file bytes ledger expected tray seat).answer (given L file bytes ledger expected tray seat).bytes expected

  complete : Passes L file bytes ledger expected tray seat → CompleteWith (given L file bytes ledger expected tray seat) expected
  complete p =
      let post = (passing_law _ _ expected).0 (only_passing test (sym (posts_replace tray seat test p.accepted) ∙ p.passed)) in
      record { number = post.number; count = post.count; begins = post.begins }

  passes : (left L file bytes ledger expected tray seat).answer ≡ 0 → CompleteWith (given L file bytes ledger expected tray seat) expected
      → Passes L file bytes ledger expected tray seat
  passes e c =
      let told = (passing_law _ _ expected).1 (record { number = c.number; count = c.count; begins = c.begins }) in
      record { accepted = e; passed = posts_replace tray seat test e ∙ ap posted told }

pub posted_law : PostedLaw
posted_law L times file bytes ledger expected tray seat =
    let lines = mission L times file bytes ledger in
    let whole = complete L file bytes ledger expected tray seat in
    record {
      exactly = λ e. (whole, passes L file bytes ledger expected tray seat e);
      explained = λ p.
          let c = whole p in
          ((file_demand3 L times file bytes ledger (lines.only_finished_is_20 c.number).form).exactly expected).0 c;
      some_byte = λ p none.
          let c = whole p in
          omega (arith, lines.no_byte_is_never_20 c.number, c.count, ap length none);
    }
