-- What a tick shows, and lists of ticks: the lines, and whether ticks were lost before it.
use Rattle.std.specs.Prelude.{Bool, false, List, [], ◌∷◌, map, ◌≡◌}
use Rattle.transfer.specs.Types.{Lines, Tick}

abbrev pub tick : (marked : Bool) → Lines → Tick
tick marked lines = record { marked = marked; lines = lines }

-- The lines of a tick list, marked or not.
abbrev pub lines_in : List Tick → List Lines
lines_in w = map (λ (t : Tick). t.lines) w

-- No tick of it is marked.
abbrev pub Unmarked : List Tick → Type 0
Unmarked [] = Unit {0}
Unmarked (t ∷ w) = (t.marked ≡ false) × Unmarked w
