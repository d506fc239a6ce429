-- Ticks in spans of equal lines, as the steps of a recording show them; document 01's S1 and a command recording written so.
use Rattle.std.specs.Prelude.{ℕ, ◌+◌, Bool, true, false, List, [], ◌∷◌, ◌++◌}
use Rattle.answer.specs.Basics.{first_then}
use Rattle.transfer.specs.{Types.Lines, Types.Tick, Lines.lines_of, Ticks.tick}

-- So many ticks that show the same lines; `marked`: ticks were lost before the first of them.
pub record Span : Type 0 where
  pub marked : Bool
  pub duration : ℕ
  pub lines : Lines

abbrev pub span_ticks : Span → List Tick
span_ticks s = first_then s.duration (tick s.marked s.lines) (tick false s.lines)

-- The tick list that spans mean.
abbrev pub ticks : List Span → List Tick
ticks [] = []
ticks (s ∷ spans) = span_ticks s ++ ticks spans

-- `d ∶ b` is a span of duration d that shows the line byte b: 1 is ATN, 2 CLK, 4 DATA.
infix 90 ◌∶◌
abbrev pub ◌∶◌ : ℕ → ℕ → Span
d ∶ b = record { marked = false; duration = d; lines = lines_of b }

-- The same span, marked.
abbrev pub lost : Span → Span
lost s = record { marked = true; duration = s.duration; lines = s.lines }

-- Up to the bits of a first and last byte: the ticks of the gap, those of the acknowledgement, and 40 more.
abbrev pub opening : (gap acknowledgement : ℕ) → List Span
opening gap acknowledgement = 200 ∶ 6 ∷ 50 ∶ 4 ∷ gap ∶ 0 ∷ acknowledgement ∶ 4 ∷ 40 ∶ 0 ∷ []

-- Bits that show these DATA, 0 or 4, with a set-up of 70 and a valid time of 60 ticks each.
abbrev pub bits : List ℕ → List Span
bits [] = []
bits (d ∷ ds) = 70 ∶ (2 + d) ∷ 60 ∶ d ∷ bits ds

-- The byte 0x41, from tick 0 to the CLK pull after bit 8, which is tick 1,630.
abbrev pub till41 : List Span
till41 = opening 220 80 ++ bits (4 ∷ 0 ∷ 0 ∷ 0 ∷ 0 ∷ 0 ∷ 4 ∷ 0 ∷ [])

-- S1 of document 01, "Sample recordings".
abbrev pub s1 : List Span
s1 = till41 ++ (30 ∶ 2 ∷ 200 ∶ 6 ∷ 50 ∶ 4 ∷ 100 ∶ 0 ∷ [])

-- #101: the same CLK and DATA with ATN pulled.
abbrev pub attended : List Span → List Span
attended [] = []
attended (s ∷ spans) =
    let pulled : Lines = record { atn = true; clk = s.lines.clk; «data» = s.lines.«data» } in
    record { marked = s.marked; duration = s.duration; lines = pulled } ∷ attended spans

-- A byte without end mark, up to its take.
abbrev pub plain_byte : List ℕ → List Span
plain_byte ds = 200 ∶ 6 ∷ 50 ∶ 4 ∷ 60 ∶ 0 ∷ (bits ds ++ (30 ∶ 2 ∷ []))

-- LISTEN 8, secondary 15: the bytes 0x28 and 0x6F, up to the second take, which is tick 2,760; then both hold their lines for `hold` ticks.
abbrev pub listen : (hold : ℕ) → List Span
listen hold =
    attended
    (plain_byte (0 ∷ 0 ∷ 0 ∷ 4 ∷ 0 ∷ 4 ∷ 0 ∷ 0 ∷ []) ++ (plain_byte (4 ∷ 4 ∷ 4 ∷ 4 ∷ 0 ∷ 4 ∷ 4 ∷ 0 ∷ []) ++ (hold ∶ 6 ∷ [])))
