-- A tray that only its calls change: how many seats are in use, and what a sealed one has behind it. Assumes nothing.
use Rattle.std.specs.Prelude.{ℕ, zero, suc, ◌+◌, ◌<◌, Bool, true, false, ◌&&◌, List, [], ◌∷◌, length, replicate, set, get_or, ◌≡◌, eqb}
use Rattle.std.specs.Prelude.{if◌then◌else◌, Ok}
use mathlib.Core.Bool.{false≢true, and-false}
use mathlib.Core.Path.{refl, sym, ap, ap₂, subst⁻¹, ◌∙◌}
use native.Mathlib.Omega.{arith}
use borrow.Author.Tests.{ne_eqb, eqb-true, eqb-false}
use Rattle.answer.specs.{Numbers.refusal_number}
use Rattle.tray.specs.Types.{Passed, Seat, Call, Load, Remove, Post}
use Rattle.tray.specs.{Seats.is_used, Seats.in_use, Seats.posted, Passing.passing}
use Rattle.tray.specs.Sealing.{has_passed}
use Rattle.tray.specs.Tray.{seats, vacant_seat, seat_at, Called}
use Rattle.tray.specs.History.{Request, load, remove, post, seat_of, call_of, answered, tray_after, is_accepted, is_load, is_removal}
use Rattle.tray.specs.History.{accepted, seats_in_use, last_accepted, LastPostPassed}
use Rattle.tray.specs.Facts.{LoadsLaw, PassedLaw, SealedLaw}
use Rattle.tray.proofs.CountLaws.{one_if, used_more}
use Rattle.tray.proofs.ChangedLaws.{Change, loads, removes, posts}
use Rattle.tray.proofs.CalledLaws.{of_called, of_accepted, one_seat, refusals_change_nothing}
use Rattle.tray.proofs.{PassingLaws.passing_law, SealingLaws.sealing_law}

-- The seats in use of a tray in which one seat is put.
used_set : (tray : List Seat) (place : ℕ) (new : Seat) → place < length tray
    → seats_in_use (set tray place new) + one_if (in_use (seat_at tray place)) ≡ seats_in_use tray + one_if (in_use new)
used_set [] place new h = absurd (omega arith)
used_set (first ∷ tray) zero new h = omega (arith, used_more new tray, used_more first tray)
used_set (first ∷ tray) (suc place) new h =
    omega (arith, used_set tray place new (omega arith), used_more first (set tray place new), used_more first tray)

-- One seat more is in use for a load that is accepted, and one less for a removal: of a seat, and of a tray.
seat_balance : (request : Request) {seat new : Seat} → Change seat (call_of request) (Ok new)
    → one_if (in_use new) + one_if (is_removal request && true) ≡ one_if (in_use seat) + one_if (is_load request && true)
seat_balance (load n) (loads free) = rw free
seat_balance (remove n) (removes used) = rw used
seat_balance (post n answer buffer expected) (posts used) = rw used (by_test (passing answer buffer expected))
  where
    by_test : (passes : Bool) → one_if (is_used (posted passes)) + 0 ≡ 1
    by_test true = refl
    by_test false = refl

balance : (request : Request) (tray : List Seat)
    → seats_in_use (answered tray request).tray + one_if (is_removal request && eqb (answered tray request).answer 0)
    ≡ seats_in_use tray + one_if (is_load request && eqb (answered tray request).answer 0)
balance request tray =
    of_called tray (seat_of request) (call_of request)
    (λ (c : Called).
    seats_in_use c.tray + one_if (is_removal request && eqb c.answer 0) ≡ seats_in_use tray + one_if (is_load request && eqb c.answer 0))
    (λ new inside c. omega (arith, used_set tray (seat_of request) new inside, seat_balance request c))
    (λ refusal some. rw (ne_eqb (refusal_number refusal) 0 some, and-false (is_removal request), and-false (is_load request)))

accepted_more : (kind : Request → Bool) (request : Request) (earlier : List Request)
    → accepted kind (request ∷ earlier) ≡ accepted kind earlier + one_if (kind request && is_accepted request earlier)
unfolding accepted
accepted_more kind request earlier = by_test (kind request && is_accepted request earlier)
  where
    by_test : (t : Bool) → (if t then suc (accepted kind earlier) else accepted kind earlier) ≡ accepted kind earlier + one_if t
    by_test true = omega arith
    by_test false = omega arith

pub loads_law : LoadsLaw
unfolding accepted tray_after
loads_law [] = refl
loads_law (request ∷ earlier) =
    let before = loads_law earlier in
    omega (arith, accepted_more is_load request earlier, accepted_more is_removal request earlier, balance request (tray_after earlier))

-- A call that is accepted and leaves its seat passed was a post that passes.
abbrev passes_by : Call → Bool
passes_by Load = false
passes_by Remove = false
passes_by (Post passes) = passes

only_posts_pass : (seat : Seat) (call : Call) (new : Seat) → Change seat call (Ok new) → new.state ≡ Passed → passes_by call ≡ true
only_posts_pass seat call new (loads free) e = ap has_passed e
only_posts_pass seat call new (removes used) e = ap has_passed e
only_posts_pass seat call new (posts {passes = true} used) e = refl
only_posts_pass seat call new (posts {passes = false} used) e = ap has_passed e

-- Where a request is the last accepted one for a seat, and where it is not.
module _ (seat : ℕ) (request : Request) (earlier : List Request) where
  abbrev is_last : Bool
  is_last = eqb (seat_of request) seat && is_accepted request earlier

  by_last : (t : Bool) → is_last ≡ t → last_accepted seat (request ∷ earlier) ≡ (if t then request ∷ [] else last_accepted seat earlier)
  unfolding last_accepted
  by_last t e = ap (λ (b : Bool). if b then request ∷ [] else last_accepted seat earlier) e

  still : is_last ≡ false → LastPostPassed seat earlier → LastPostPassed seat (request ∷ earlier)
  still e p =
      record { answer = p.answer; buffer = p.buffer; expected = p.expected; last = by_last false e ∙ p.last; passed = p.passed }

newly : (seat : ℕ) (request : Request) (earlier : List Request) → is_last seat request earlier ≡ true → seat_of request ≡ seat
    → passes_by (call_of request) ≡ true → LastPostPassed seat (request ∷ earlier)
newly seat (load n) earlier last same e = absurd (false≢true e)
newly seat (remove n) earlier last same e = absurd (false≢true e)
newly seat (post n answer buffer expected) earlier last same e =
    record {
      answer = answer;
      buffer = buffer;
      expected = expected;
      last =
          by_last seat (post n answer buffer expected) earlier true last ∙ ap (λ (m : ℕ). post m answer buffer expected ∷ []) same;
      passed = (passing_law answer buffer expected).0 e;
    }

-- A seat that has passed has such a post as its last accepted call.
passed_next : (seat : ℕ) (request : Request) (earlier : List Request)
    → ((seat_at (tray_after earlier) seat).state ≡ Passed → LastPostPassed seat earlier)
    → (seat_at (answered (tray_after earlier) request).tray seat).state ≡ Passed → LastPostPassed seat (request ∷ earlier)
passed_next seat request earlier before e = by_tests (eqb (seat_of request) seat) (is_accepted request earlier) refl refl
  where
    by_tests : (s a : Bool) → eqb (seat_of request) seat ≡ s → is_accepted request earlier ≡ a → LastPostPassed seat (request ∷ earlier)
    by_tests true true x y =
        let same = eqb-true (seat_of request) seat x in
        newly seat request earlier (ap₂ ◌&&◌ x y) same
        (of_accepted (tray_after earlier) (seat_of request) (call_of request)
        (λ (s : Seat). s.state ≡ Passed → passes_by (call_of request) ≡ true)
        (only_posts_pass (seat_at (tray_after earlier) (seat_of request)) (call_of request)) (eqb-true _ 0 y)
        (subst⁻¹ (λ (n : ℕ). (seat_at (answered (tray_after earlier) request).tray n).state ≡ Passed) same e))
    by_tests true false x y =
        let kept = refusals_change_nothing (tray_after earlier) (seat_of request) (call_of request) (eqb-false _ 0 y) in
        still seat request earlier (ap₂ ◌&&◌ x y) (before (sym (ap (λ (tray : List Seat). (seat_at tray seat).state) kept) ∙ e))
    by_tests false a x y =
        let others = (one_seat (tray_after earlier) (seat_of request) (call_of request)).others in
        let kept = others seat (λ same. eqb-false (seat_of request) seat x (sym same)) in
        still seat request earlier (ap₂ ◌&&◌ x y) (before (sym (ap (λ (s : Seat). s.state) kept) ∙ e))

none_passed : (n place : ℕ) → has_passed (get_or (replicate n vacant_seat) place vacant_seat).state ≡ false
none_passed zero place = refl
none_passed (suc n) zero = refl
none_passed (suc n) (suc place) = none_passed n place

pub passed_last : PassedLaw
unfolding tray_after
passed_last [] seat e = absurd (false≢true (sym (none_passed seats seat) ∙ ap has_passed e))
passed_last (request ∷ earlier) seat e = passed_next seat request earlier (passed_last earlier seat) e

pub sealed_law : SealedLaw
sealed_law requests e seat used = passed_last requests seat (((sealing_law (tray_after requests)).0 e).all_used_passed seat used)
