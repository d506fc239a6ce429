-- What a marked tick does, said of whole tick lists and without the table. #103: it "gives verdict 40, before ATN is looked at, also in
-- E, at tick 0 and after #101's finish".
use Rattle.std.specs.Prelude.{ℕ, List, ◌∷◌, ◌++◌, length, true, ◌≡◌}
use Rattle.answer.specs.Types.{Overrun, Verdict, Complete, Cut, Broken}
use Rattle.transfer.specs.{Types.Limits, Types.Tick, Moves.broken_at, Outcome.Outcome, Outcome.outcome}

-- Ticks were lost at tick n, after ticks that came to an outcome: if these ran out, complete or cut, it is 40 there, with the bytes that
-- they handed over and no other; a verdict that fell among them stands.
abbrev pub lost_after : Verdict → (n : ℕ) → Outcome → Outcome
lost_after Complete n o = record { decision = broken_at Overrun n; bytes = o.bytes }
lost_after Cut n o = record { decision = broken_at Overrun n; bytes = o.bytes }
lost_after (Broken fault) n o = o

-- For all limits, of either entry, whatever the marked tick shows and whatever follows it.
abbrev pub LostLaw : Type 0
LostLaw =
    (L : Limits) (before : List Tick) (t : Tick) (after : List Tick) → t.marked ≡ true
    → let o = outcome L before in outcome L (before ++ (t ∷ after)) ≡ lost_after o.decision.verdict (length before) o
