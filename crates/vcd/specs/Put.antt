-- How a text is put down: byte after byte, into a window that begins some bytes on and is as long as the destination. The functions
-- below the entry promise this to one another; what the entry promises is in specs/Dumped.antt.
use Rattle.std.specs.Prelude.{ℕ, ◌+◌, ◌-◌, List, [], ◌∷◌, length, set, ◌≡◌, ltb, if◌then◌else◌}
use Rattle.std.specs.Borrow.{MutBor}
use Rattle.vcd.specs.declared.window.Window.{Window}

-- A window as it stands: how many bytes of the text are still before it, how many were put down, and what its destination holds.
pub record Held : Type 0 where
  pub ahead : ℕ
  pub count : ℕ
  pub destination : List ℕ

abbrev pub held : Window → Held
held window = record { ahead = window.ahead; count = window.count; destination = window.destination.now }

-- A window onto what was lent, before the text: so many bytes are passed over first.
abbrev pub window_at : (offset : ℕ) → MutBor (List ℕ) → Window
window_at offset lent = record { destination = lent; ahead = offset; count = 0 }

-- A byte of the text: passed over, put down, or left out where no room is left.
unfoldable pub put_byte : (byte : ℕ) → Held → Held
put_byte byte h =
    if ltb 0 h.ahead then record h { ahead = h.ahead - 1 } else
    if ltb h.count (length h.destination) then
    record h { count = h.count + 1; destination = set h.destination h.count byte } else
    h

-- A text.
unfoldable pub put : (text : List ℕ) → Held → Held
put [] h = h
put (byte ∷ text) h = put text (put_byte byte h)

-- What a function did that puts a text down: the window still writes where it did.
pub record Puts (text : List ℕ) (before after : Window) : Type 0 where
  pub done : held after ≡ put text (held before)
  pub same : after.destination.ghost_name ≡ before.destination.ghost_name
