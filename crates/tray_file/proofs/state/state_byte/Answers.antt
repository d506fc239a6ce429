use mathlib.Core.Path.{ap, sym, ◌∙◌}
use Rattle.std.proofs.Common.{rules}
use Rattle.std.specs.Prelude.{ℕ, ◌-◌, ◌%◌, List, get_or}
use Rattle.tray_file.proofs.TextLaws.{heading_at, line_at}
use Rattle.tray_file.proofs.state.state_byte.Goals as goal

pub returns-then-place-lt-HEADING_LENGTH : goal.returns-then-place-lt-HEADING_LENGTH
returns-then-place-lt-HEADING_LENGTH c = sym (heading_at c.args.seats.now _ c.if-place-lt-HEADING_LENGTH.true)

pub returns : goal.returns
returns c =
    ap (λ (l : List ℕ). get_or l ((c.args.place - 13) % 12) 0) c.seat_line-line.ensures
    ∙ sym (line_at c.args.seats.now c.args.place (search rules) c.if-place-lt-HEADING_LENGTH.false c.requires)
