-- What the writer counts lies within the destination. Assumes nothing.
use Rattle.std.specs.Prelude.{ℕ, ◌≤◌, Bool, true, false, List, length, ◌≡◌, ltb, if◌then◌else◌}
use mathlib.Core.Path.{refl, ap, sym}
use native.Mathlib.Omega.{arith}
use borrow.Author.Tests.{ltb-false}
use Rattle.answer.specs.{Types.Answer, Types.TooManyBytes, Types.ShortDestination, Answers.refused, Answers.accepted, Answers.◌over◌}
use Rattle.writer.specs.Card.{standard_card}
use Rattle.writer.specs.Written.{most_bytes, written_length, recording_of, Written, leaves, written}

chosen : (many short : Bool) (length room : ℕ) (d e : List ℕ) → short ≡ ltb room length
    → (if many then leaves (refused TooManyBytes 0) d
    else if short then leaves (refused ShortDestination 0) d else leaves (accepted length) e).answer.count ≤ room
chosen true short l room d e t = omega arith
chosen false true l room d e t = omega arith
chosen false false l room d e t = ltb-false room l (sym t)

pub count_within : (r : Answer) (bytes before after : List ℕ) → leaves r after ≡ written standard_card bytes before
    → length after ≡ length before → r.count ≤ length after
unfolding written
count_within r bytes before after e same =
    let within = chosen (ltb most_bytes (length bytes)) _ (written_length (length bytes)) (length before) before
    (recording_of standard_card bytes over before) refl in
    omega (arith, within, ap (λ (w : Written). w.answer.count) e, same)
