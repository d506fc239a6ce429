use Rattle.std.proofs.Common.{ℕ, arith, length-append}
use Rattle.std.proofs.lemmas.List.{ext_get_or, places, length-replicate}
use Rattle.answer.specs.Names.{in_room}
use Rattle.answer.proofs.names.in_room.Goals as goal

pub returns : goal.returns
unfolding in_room
returns c =
    ext_get_or 0 _ _ (omega (arith, length-append {A = ℕ}, length-replicate {A = ℕ}))
    (λ k h. grind (arith, places, c.loop-place.invariant.copied k))
