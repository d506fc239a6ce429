-- Each return is a row of the definition, and what is put down is read back.
use Rattle.std.proofs.Common.{ap, ap₂, ◌∙◌, arith, rules}
use Rattle.answer.specs.{Types.TooManyBytes, Types.ShortDestination, Answers.accepted, Answers.◌over◌}
use Rattle.writer.specs.Written.{leaves, recording_of}
use Rattle.writer.proofs.WrittenLaws.{too_many, no_room, all_well, refuses, puts_down}
use Rattle.writer.proofs.entry.write.Goals as goal

pub returns-then-bytes-gt-MOST_BYTES : goal.returns-then-bytes-gt-MOST_BYTES
returns-then-bytes-gt-MOST_BYTES c =
    let d = c.args.destination.now in
    let many = c.if-bytes-gt-MOST_BYTES.true in
    refuses _ d _ TooManyBytes (λ w. omega (arith, w.few, many)) (rw c.into.ensures) (too_many _ _ d (search rules))

pub returns-then-destination-length : goal.returns-then-destination-length
returns-then-destination-length c =
    let d = c.args.destination.now in
    let short = c.if-destination-length.true in
    refuses _ d _ ShortDestination (λ w. omega (arith, w.room, short, c.written_length-length.ensures))
    (rw c.into-then-destination-length.ensures) (no_room _ _ d (search rules) (search rules))

pub returns : goal.returns
returns c =
    let bytes = c.args.bytes.now in
    let d = c.args.destination.now in
    let same_answer = ap accepted c.written_length-length.ensures in
    let same_bytes = c.put_recording.ensures ∙ ap (λ card. recording_of card bytes over d) c.standard.ensures in
    puts_down bytes d _ (λ i. (c.type_inv.bytes i).fits) (search rules) (ap₂ leaves same_answer same_bytes)
    (all_well _ bytes d (search rules) (search rules))
