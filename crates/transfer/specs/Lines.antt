-- The lines at one tick. "A line is 1 when pulled, 0 when released by everybody." In the line byte "bit 0 ATN, 1 CLK,
-- 2 DATA, 3 SRQ".
-- "SRQ is read and changes no answer": it is no part of what the judge is shown.
use Rattle.std.specs.Prelude.{ℕ, ◌/◌, ◌%◌, eqb}
use Rattle.transfer.specs.Types.{Lines}

abbrev pub lines_of : ℕ → Lines
lines_of byte = record { atn = eqb (byte % 2) 1; clk = eqb (byte / 2 % 2) 1; «data» = eqb (byte / 4 % 2) 1 }
