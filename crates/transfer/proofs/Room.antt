-- The room law: a byte takes nineteen steps at the least. Assumes nothing.
use Rattle.std.specs.Prelude.{ℕ, zero, suc, ◌+◌, ◌*◌, ◌≤◌, Bool, true, false, List, [], ◌∷◌, ◌++◌, length, replicate, ◌≡◌}
use Rattle.answer.specs.Basics.{first_then}
use native.Mathlib.Omega.{arith}
use mathlib.Core.Path.{ap}
use Rattle.transfer.specs.{Outcome.onward, Outcome.run, Outcome.outcome, Spans.Span, Ticks.tick, Spans.ticks}
use Rattle.transfer.specs.Room.{Room, RoomLaw}
use Rattle.transfer.specs.Phases.{Move, Go, Hand, Stop}
use Rattle.transfer.specs.Types.{Limits, Lines, Tick, Phase, Start}
use Rattle.transfer.proofs.Rows.{Climbs, stops, goes, hands, climbs, settled, place, further, most}

one_at_most : (t : Bool) → further t ≤ 1
one_at_most true = omega arith
one_at_most false = omega arith

module _ (L : Limits) where
  -- What a tick list hands over from a phase on.
  abbrev handed : ℕ → Phase → List Tick → ℕ
  handed now p w = length (run L now p w).bytes

  -- n spans are left for this list: what is handed over in it keeps within them and the place reached.
  abbrev Fits : List Tick → ℕ → Type 0
  Fits w n = (now : ℕ) (p : Phase) → 19 * handed now p w ≤ n + place p

  -- One tick, and then the rest.
  module _ (t : Tick) (w : List Tick) (n now : ℕ)
      (rest : (q : Phase) → settled L.entry t.lines q ≡ true → 19 * handed (suc now) q w ≤ n + place q) where
    one_move : (p : Phase) (x : Move) → Climbs now p (settled L.entry t.lines) x
        → 19 * length (onward x now (λ (q : Phase). run L (suc now) q w)).bytes ≤ n + most p (settled L.entry t.lines)
    one_move p (Stop f) stops = omega arith
    one_move p (Go q) (goes a f e) = omega (arith, rest q e)
    one_move p (Hand b q) (hands a f e h t) = omega (arith, rest q e)

    one_tick_lem : (p : Phase) → 19 * handed now p (t ∷ w) ≤ n + most p (settled L.entry t.lines)
    unfolding run
    one_tick_lem p = one_move p _ (climbs L now p t)

  -- Further ticks of a span, and then the rest.
  same_lines : (k : ℕ) (l : Lines) (w : List Tick) (n : ℕ) → Fits w n → (now : ℕ) (p : Phase) → settled L.entry l p ≡ true
      → 19 * handed now p (replicate k (tick false l) ++ w) ≤ n + place p
  same_lines zero l w n f now p e = f now p
  same_lines (suc k) l w n f now p e =
      omega (
        arith,
        one_tick_lem (tick false l) (replicate k (tick false l) ++ w) n now (λ q b. same_lines k l w n f (suc now) q b) p,
        ap further e,
      )

  -- A whole span, and then the rest.
  one_span : (k : ℕ) (marked : Bool) (l : Lines) (w : List Tick) (n : ℕ) → Fits w n
      → Fits (first_then k (tick marked l) (tick false l) ++ w) (suc n)
  one_span zero marked l w n f now p = omega (arith, f now p)
  one_span (suc k) marked l w n f now p =
      omega (
        arith,
        one_tick_lem (tick marked l) (replicate k (tick false l) ++ w) n now (λ q b. same_lines k l w n f (suc now) q b) p,
        one_at_most (settled L.entry l p),
      )

  fits : (spans : List Span) → Fits (ticks spans) (length spans)
  unfolding run
  fits [] now p = omega arith
  fits (s ∷ spans) now p = one_span s.duration s.marked s.lines (ticks spans) (length spans) (fits spans) now p

  keeps : (spans : List Span) → Room L spans
  keeps spans =
      let places : 19 * length (outcome L (ticks spans)).bytes ≤ length spans = omega (arith, fits spans 0 Start) in
      record { nineteen = places; few = λ h. omega arith }

pub room : RoomLaw
room L spans = keeps L spans
