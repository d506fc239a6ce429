-- What a marked tick does to what the ticks before it come to. Assumes nothing.
use Rattle.std.specs.Prelude.{ℕ, suc, ◌+◌, true, false, List, [], ◌∷◌, ◌++◌, length, ◌≡◌}
use native.Mathlib.Omega.{arith}
use mathlib.Core.Bool.{true≢false}
use mathlib.Core.Path.{refl, sym, ap, ◌∙◌}
use Rattle.answer.specs.Types.{Overrun, Verdict, Complete, Cut, Broken}
use Rattle.transfer.specs.{Types.Limits, Types.Tick, Types.Byte, Types.Phase, Types.Start}
use Rattle.transfer.specs.Phases.{Move, Go, Hand, Stop}
use Rattle.transfer.specs.Moves.{Stage, Running, Holding, Ended, Past, Fallen, stage, has_fallen, is_decided, decision_in}
use Rattle.transfer.specs.Outcome.{Outcome, decided, give, onward, run}
use Rattle.transfer.specs.Lost.{lost_after, LostLaw}
use Rattle.transfer.proofs.Rows.{Climbs, stops, goes, hands, climbs, settled}
use Rattle.transfer.proofs.Stages.{undecided, marked_move}

-- The outcome o, with ticks lost at tick n.
abbrev losing : ℕ → Outcome → Outcome
losing n o = lost_after o.decision.verdict n o

-- A byte that was handed over before stays so.
losing_gives : (b : Byte) (n : ℕ) (o : Outcome) → give b (losing n o) ≡ losing n (give b o)
losing_gives b n o = by_verdict o.decision.verdict
  where
    by_verdict : (v : Verdict) → give b (lost_after v n o) ≡ lost_after v n (give b o)
    by_verdict Complete = refl
    by_verdict Cut = refl
    by_verdict (Broken fault) = refl

module _ (L : Limits) (t : Tick) (after : List Tick) (marked : t.marked ≡ true) where
  abbrev Loses : List Tick → Type 0
  Loses w = (now : ℕ) (p : Phase) → is_decided p ≡ false → run L now p (w ++ (t ∷ after)) ≡ losing (now + length w) (run L now p w)

  -- No tick before it.
  at_once : Loses []
  unfolding run
  at_once now p u =
      ap (λ (x : Move). onward x now (λ (q : Phase). run L (suc now) q after)) (marked_move L now p t u marked)
      ∙ ap (λ n. decided Overrun n) (omega arith)
      ∙ sym (runs_out (stage p) u)
    where
      runs_out : (g : Stage) → has_fallen g ≡ false
          → losing (now + 0) (record { decision = decision_in g now; bytes = [] }) ≡ decided Overrun (now + 0)
      runs_out Running e = refl
      runs_out (Holding byte) e = refl
      runs_out (Ended finish) e = refl
      runs_out (Past finish) e = refl
      runs_out (Fallen fault) e = absurd (true≢false e)

  -- One more tick before it.
  module _ (w : List Tick) (ih : Loses w) (l : Tick) (now : ℕ) where
    beyond : (q : Phase) → is_decided q ≡ false
        → run L (suc now) q (w ++ (t ∷ after)) ≡ losing (now + suc (length w)) (run L (suc now) q w)
    beyond q u =
        let z : now + suc (length w) ≡ suc now + length w = omega arith in
        rw z (ih (suc now) q u)

    moved : {p : Phase} (x : Move) → Climbs now p (settled L.entry l.lines) x
        → onward x now (λ (q : Phase). run L (suc now) q (w ++ (t ∷ after)))
        ≡ losing (now + suc (length w)) (onward x now (λ (q : Phase). run L (suc now) q w))
    moved (Stop fault) stops = refl
    moved (Go q) (goes a f e) = beyond q (undecided L.entry q l.lines e)
    moved (Hand b q) (hands a f e held taken) =
        ap (give b) (beyond q (undecided L.entry q l.lines e)) ∙ losing_gives b _ (run L (suc now) q w)

  loses : (w : List Tick) → Loses w
  unfolding run
  loses [] now p u = at_once now p u
  loses (l ∷ w) now p u = moved w (loses w) l now _ (climbs L now p l)

pub lost : LostLaw
lost L before t after marked =
    let z : 0 + length before ≡ length before = omega arith in
    rw z at (loses L t after marked before 0 Start refl)
