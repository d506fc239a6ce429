use mathlib.Core.Path.{sym, ◌∙◌}
use lib.Seq.{ext_get_or}
use Rattle.std.proofs.Common.{rules, arith}
use Rattle.std.specs.Prelude.{get_or}
use Rattle.tray_file.specs.State.{state_text}
use Rattle.tray_file.proofs.{MadeLaws.made_each, TextLaws.text_length_lem}
use Rattle.tray_file.proofs.state.state_text.Goals as goal

pub returns : goal.returns
returns c =
    let made = c.from_fn.ensures.items in
    ext_get_or 0 c.from_fn.result (state_text c.args.seats.now)
    (made.long ∙ sym (text_length_lem c.args.seats.now (search rules)))
    (λ k h.
    made_each _ _ 493 (λ i. get_or (state_text c.args.seats.now) i 0) (λ i y q h call. search rules) _ made k 0 (omega (arith, made.long)))
