-- The outcome of a tick list: verdict, deciding tick, the bytes handed over and for each its two ledger ticks. "Reading goes from state to
-- state, one tick after another, and stops for good at the deciding tick."
use Rattle.std.specs.Prelude.{ℕ, suc, List, [], ◌∷◌}
use Rattle.transfer.specs.Moves.{move, decision_of, broken_at}
use Rattle.transfer.specs.Phases.{Move, Go, Hand, Stop}
use Rattle.transfer.specs.Types.{Limits, Tick, Byte, Phase, Start, Decision}
use Rattle.answer.specs.Types.{Fault}

-- A verdict with its deciding tick, and the ledger: each byte handed over with its two ticks.
pub record Outcome : Type 0 where
  pub decision : Decision
  pub bytes : List Byte

-- A verdict falls: the tick that decides is the verdict's, whatever ticks follow.
abbrev pub decided : Fault → (now : ℕ) → Outcome
decided fault now = record { decision = broken_at fault now; bytes = [] }

-- The ticks run out in a phase.
abbrev pub ended : Phase → (now : ℕ) → Outcome
ended phase now = record { decision = decision_of phase now; bytes = [] }

-- A byte is handed over, and then the rest.
abbrev pub give : Byte → Outcome → Outcome
give b o = record { decision = o.decision; bytes = b ∷ o.bytes }

-- What a move comes to, by what the phase that it leads to comes to.
abbrev pub onward : Move → (now : ℕ) → (Phase → Outcome) → Outcome
onward (Go p) now rest = rest p
onward (Hand b p) now rest = give b (rest p)
onward (Stop f) now rest = decided f now

-- The ticks that are read in a phase, the first of them `now`.
unfoldable pub run : Limits → (now : ℕ) → Phase → List Tick → Outcome
run L now p [] = ended p now
run L now p (t ∷ w) = onward (move L now p t) now (λ (q : Phase). run L (suc now) q w)

abbrev pub outcome : Limits → List Tick → Outcome
outcome L w = run L 0 Start w
