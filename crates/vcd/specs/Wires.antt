-- The five wires of a dump: the four lines, and LOST, which shows where the recorder lost ticks.
use Prim.Native.Char.{code}
use Rattle.std.specs.Prelude.{ℕ, ◌+◌, ◌/◌, ◌%◌, List, [], ◌∷◌, ◌++◌, eqb, if◌then◌else◌}
use Rattle.recording.specs.Ticks.{Tick}
use Rattle.vcd.specs.declared.wires.Wire.{Wire}
use Rattle.vcd.specs.declared.wires.Wire.TheVariants.{Atn, Clk, Data, Srq, Lost}
use Rattle.answer.specs.Text.{newline}

-- The bit above the lines' four.
abbrev pub lost_bit : ℕ
lost_bit = 16

-- What the wires show in a tick, as one byte: the line byte, and the bit above it where ticks were lost before the tick. #103: "Reading a
-- step must report the mark, and its users heed it."
abbrev pub shown_in : Tick → ℕ
shown_in t = if t.marked then t.lines + lost_bit else t.lines

-- A wire's bit of what is shown: "bit 0 ATN, 1 CLK, 2 DATA, 3 SRQ", 1 when pulled; and 4 LOST, 1 when ticks were lost.
abbrev pub bit_of : Wire → (shown : ℕ) → ℕ
bit_of Atn shown = shown % 2
bit_of Clk shown = shown / 2 % 2
bit_of Data shown = shown / 4 % 2
bit_of Srq shown = shown / 8 % 2
bit_of Lost shown = shown / 16 % 2

-- The identifiers that the heading declares.
abbrev pub identifier_of : Wire → ℕ
identifier_of Atn = code "A"
identifier_of Clk = code "C"
identifier_of Data = code "D"
identifier_of Srq = code "S"
identifier_of Lost = code "L"

-- The bit with which a wire is high: a line, electrically, when it is not pulled; LOST when ticks were lost.
abbrev pub high_bit : Wire → ℕ
high_bit Atn = 0
high_bit Clk = 0
high_bit Data = 0
high_bit Srq = 0
high_bit Lost = 1

-- A wire's level: 1 when high.
abbrev pub level_of : Wire → (shown : ℕ) → ℕ
level_of wire shown = if eqb (bit_of wire shown) (high_bit wire) then code "1" else code "0"

-- A wire's value change: its level, and its identifier, as 0C or 1C.
unfoldable pub value_text : (shown : ℕ) → Wire → List ℕ
value_text shown wire = level_of wire shown ∷ identifier_of wire ∷ newline ∷ []

-- The same, if it differs from what was shown before.
unfoldable pub change_text : (before shown : ℕ) → Wire → List ℕ
change_text before shown wire = if eqb (bit_of wire before) (bit_of wire shown) then [] else value_text shown wire

-- A text for each wire, in the order ATN, CLK, DATA, SRQ, LOST.
abbrev pub each_wire : (Wire → List ℕ) → List ℕ
each_wire text = text Atn ++ (text Clk ++ (text Data ++ (text Srq ++ text Lost)))
