-- The shown pair: "read off the recording and the ledger". ATN plays no part in it.
use Rattle.std.specs.Prelude.{ℕ, suc, Bool, true, false, List, [], ◌∷◌, ltb, if◌then◌else◌}
use Rattle.transfer.specs.{Types.Lines, Types.Byte, Parties.Pulls, Parties.pulls}

-- Whose turn on DATA it is, with the bytes of the ledger that are left: the receiver's, while CLK is not yet released since
-- tick 0 or since the byte before; the receiver's, with CLK released since; the sender's, within a byte.
pub data Turn : Type 0 where
  holding : List Byte → Turn
  waiting : List Byte → Turn
  sending : Byte → List Byte → Turn

-- "DATA pulled from the CLK pull that begins a byte's bits until that byte's letting go in the ledger is the sender's."
abbrev pub turn_at : (now : ℕ) (clk : Bool) → Turn → Turn
turn_at now true (holding ledger) = holding ledger
turn_at now false (holding ledger) = waiting ledger
turn_at now false (waiting ledger) = waiting ledger
turn_at now true (waiting []) = holding []
turn_at now true (waiting (b ∷ ledger)) = sending b ledger
turn_at now clk (sending b ledger) = if ltb now b.let_go then sending b ledger else holding ledger

-- "CLK is the sender's; .. any other DATA pull is the receiver's."
abbrev pub pulls_in : Turn → (clk dat : Bool) → Pulls
pulls_in (holding ledger) clk d = pulls clk false d
pulls_in (waiting ledger) clk d = pulls clk false d
pulls_in (sending b ledger) clk d = pulls clk d false

unfoldable pub shown_from : (now : ℕ) → Turn → List Lines → List Pulls
shown_from now turn [] = []
shown_from now turn (l ∷ w) =
    pulls_in (turn_at now l.clk turn) l.clk l.«data» ∷ shown_from (suc now) (turn_at now l.clk turn) w

-- The shown pair's tracks.
abbrev pub shown : (ledger : List Byte) → List Lines → List Pulls
shown ledger w = shown_from 0 (holding ledger) w
