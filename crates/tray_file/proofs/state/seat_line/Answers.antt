use mathlib.Core.Path.{◌∙◌}
use Rattle.tray_file.proofs.TextLaws.{line_spelt}
use Rattle.tray_file.proofs.state.seat_line.Goals as goal

pub returns : goal.returns
returns c =
    line_spelt c.copy_from_slice.new.self _ _ _ c.args.seat (c.copy_from_slice.ensures.after ∙ c.state_word.ensures) c.digit.ensures
    c.digit-2.ensures
