-- What the entry answers and leaves, for any bytes, any offset and any destination; and that the pieces which a caller asks for one after
-- another are the dump.
use Rattle.std.specs.Prelude.{ℕ, Ok, Err, ◌+◌, ◌≤◌, List, ◌++◌, length, drop, ◌≡◌, ◌↔◌}
use Rattle.answer.specs.Types.{Answer}
use Rattle.answer.specs.Answers.{refused, accepted, ◌over◌, first}
use Rattle.recording.specs.{Form.Form, Form.form_of, GoodForm.GoodForm, Ticks.steps_of}
use Rattle.vcd.specs.Dump.{dump}

-- What the entry leaves: an answer, and the destination.
pub record Dumped : Type 0 where
  pub answer : Answer
  pub destination : List ℕ

abbrev pub leaves : Answer → List ℕ → Dumped
leaves answer destination = record { answer = answer; destination = destination }

-- The text from byte `offset` on, as much as there is room for.
abbrev pub piece : (text : List ℕ) (offset room : ℕ) → List ℕ
piece text offset room = first room (drop offset text)

-- The destination begins with a piece, whose length is the count; every further place keeps what it held.
abbrev pub leaves_piece : (piece destination : List ℕ) → Dumped
leaves_piece piece destination = leaves (accepted (length piece)) (piece over destination)

-- A recording whose form was tested. At a refusal the destination does not change.
unfoldable pub dumped_in_form : (file : List ℕ) → Form → (offset : ℕ) (destination : List ℕ) → Dumped
dumped_in_form file (Err r) offset destination = leaves (refused r.refusal r.step) destination
dumped_in_form file (Ok n) offset destination =
    leaves_piece (piece (dump (steps_of file)) offset (length destination)) destination

-- What the entry gives: the form is tested first (1 to 8).
unfoldable pub dumped : (file : List ℕ) (offset : ℕ) (destination : List ℕ) → Dumped
dumped file offset destination = dumped_in_form file (form_of file) offset destination

-- What one call leaves: the piece that it put down, followed by the text from where it ends, is the text from the offset on; and with
-- room for a byte it puts none down only at the text's end.
pub record Piece (text : List ℕ) (offset room : ℕ) (left : Dumped) : Type 0 where
  pub accepts : left.answer.number ≡ 0
  pub goes_on : first left.answer.count left.destination ++ drop (offset + left.answer.count) text ≡ drop offset text
  pub ends : 1 ≤ room → (left.answer.count ≡ 0) ↔ (length text ≤ offset)

abbrev pub PiecesLaw : Type 0
PiecesLaw =
    (file : List ℕ) (n offset : ℕ) (destination : List ℕ) → GoodForm file n
    → Piece (dump (steps_of file)) offset (length destination) (dumped file offset destination)
