-- A post leaves its seat as it says, and no answer but 20 ever passes one. Assumes nothing.
use Rattle.std.specs.Prelude.{ℕ, false, List, Ok, ◌≡◌}
use mathlib.Core.Path.{refl, sym, ap, ◌∙◌}
use borrow.Author.Tests.{ne_eqb}
use Rattle.answer.specs.{Types.Answer, Types.Complete}
use Rattle.answer.proofs.Numbers.{only_complete_is_20, verdicts_are_no_refusals}
use Rattle.tray.specs.Types.{Post, Seat}
use Rattle.tray.specs.{Seats.posted, Passing.passing, Tray.seat_at, Facts.PostLaw, Facts.Only20Law}
use Rattle.tray.specs.Facts.{OtherVerdictsLaw, RefusedLaw}
use Rattle.tray.proofs.{CalledLaws.of_accepted, ChangedLaws.Change, ChangedLaws.posts}

not_passing : (answer : Answer) (buffer expected : List ℕ) → (answer.number ≡ 20 → ⊥) → passing answer buffer expected ≡ false
unfolding passing
not_passing answer buffer expected h = rw (ne_eqb answer.number 20 h)

pub posts_replace : PostLaw
posts_replace tray seat passes = of_accepted tray seat (Post passes) (λ (s : Seat). s.state ≡ posted passes) made
  where
    made : (new : Seat) → Change (seat_at tray seat) (Post passes) (Ok new) → new.state ≡ posted passes
    made new (posts used) = refl

pub only_20_passes : Only20Law
only_20_passes number h tray seat answer buffer expected e a =
    posts_replace tray seat (passing answer buffer expected) a ∙ ap posted (not_passing answer buffer expected (λ is. h (sym e ∙ is)))

pub other_verdicts_never_pass : OtherVerdictsLaw
other_verdicts_never_pass verdict h = only_20_passes _ (λ is. h (only_complete_is_20 verdict is))

pub refusals_never_pass : RefusedLaw
refusals_never_pass refusal = only_20_passes _ (λ is. verdicts_are_no_refusals Complete refusal (sym is))
