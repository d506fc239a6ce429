-- What the states come to is the outcome of specs/Outcome.antt of the crate below, where what follows a tick is a function of the phase
-- alone. Assumes nothing.
use Rattle.std.specs.Prelude.{ℕ, suc, ◌+◌, true, false, List, [], ◌∷◌, ◌++◌, ◌≡◌}
use Rattle.std.proofs.lemmas.Bool.Decides.{nat_tests}
use native.Mathlib.{Omega.arith, Numerals.add-one}
use mathlib.Core.Path.{refl, sym, ap, ◌∙◌}
use Rattle.transfer.specs.Phases.{Move, Go, Hand, Stop}
use Rattle.transfer.specs.Moves.{move, is_decided}
use Rattle.transfer.specs.Outcome.{Outcome, decided, onward, run}
use Rattle.transfer.specs.Types.{Limits, Lines, Tick, Phase}
use Rattle.answer.specs.Types.{Fault}
use Rattle.transfer.proofs.Stages.{undecided}
use Rattle.transfer.proofs.Rows.{Climbs, stops, goes, hands, climbs, settled}
use Rattle.reader.specs.States.{first_state, follow, next_state}
use Rattle.reader.specs.After.{state_after, handed_in, handed_over, outcome_from, OutcomeLaw}
use Rattle.reader.specs.declared.state.State.{State}
use Rattle.reader.proofs.TickLaws.{stands as decided-stands}

module _ (L : Limits) where
  -- A verdict stands, whatever ticks follow.
  stands : (f : Fault) (s : State) (w : List Tick) → outcome_from L (follow s (Stop f)) w ≡ decided f s.tick
  unfolding follow
  stands f s w = grind (arith, decided-stands L (follow s (Stop f)) w refl)

  -- The outcome where a tick led from s to t.
  abbrev past : (s t : State) → List Tick → Outcome
  past s t w = record { decision = (outcome_from L t w).decision; bytes = handed_in s t ++ (outcome_from L t w).bytes }

  tick_read : (s t : State) (l : Tick) (w : List Tick) → next_state L s l ≡ t → outcome_from L s (l ∷ w) ≡ past s t w
  unfolding state_after handed_over
  tick_read s t l w e = ap (λ (x : State). past s x w) e

  stopped : (f : Fault) (s : State) (w : List Tick) → past s (follow s (Stop f)) w ≡ decided f s.tick
  unfolding follow
  stopped f s w = grind (arith, nat_tests, stands f s w)

  -- In a state that is not decided, the outcome is the run from its tick and its phase.
  abbrev Runs : List Tick → Type 0
  Runs w = (s : State) → is_decided s.phase ≡ false → outcome_from L s w ≡ run L s.tick s.phase w

  module _ (w : List Tick) (ih : Runs w) (s : State) where
    abbrev beyond : Phase → Outcome
    beyond p = run L (suc s.tick) p w

    next_run : (p : Phase) (n : ℕ) (l : Lines) → settled L.entry l p ≡ true
        → outcome_from L (record { phase = p; tick = s.tick + 1; count = n }) w ≡ beyond p
    next_run p n l e =
        ih (record { phase = p; tick = s.tick + 1; count = n }) (undecided L.entry p l e)
        ∙ ap (λ (t : ℕ). run L t p w) (add-one s.tick)

    moved : (l : Lines) (x : Move) → Climbs s.tick s.phase (settled L.entry l) x
        → past s (follow s x) w ≡ onward x s.tick beyond
    unfolding follow
    moved l (Stop f) stops = stopped f s w
    moved l (Go p) (goes a f e) = grind (arith, nat_tests, next_run p s.count l e)
    moved l (Hand b p) (hands a f e held taken) = grind (arith, nat_tests, next_run p (s.count + 1) l e)

    one_more : (t : Tick) → outcome_from L s (t ∷ w) ≡ onward (move L s.tick s.phase t) s.tick beyond
    unfolding next_state
    one_more t = tick_read s (follow s (move L s.tick s.phase t)) t w refl ∙ moved t.lines _ (climbs L s.tick s.phase t)

  outcome_run : (w : List Tick) → Runs w
  unfolding run state_after handed_over
  outcome_run [] s u = refl
  outcome_run (t ∷ w) s u = one_more w (outcome_run w) s t

pub outcome_states : OutcomeLaw
outcome_states L w = sym (outcome_run L w first_state refl)
