-- A part that is overwritten is a run of stores.
use Rattle.std.proofs.Common.{◌+◌, ◌-◌, length, ◌≡◌, sym, ◌∙◌, arith, rules}
use Rattle.std.proofs.Math.Seq.{take-length}
use Rattle.std.proofs.lemmas.{List.Edits.sets-eq, Slice.put_mid-paste}
use Rattle.recording.proofs.fields.put.Goals as goal

pub returns : goal.returns
returns g c =
    let many : length c.args.bytes ≡ g.row.N = search rules in
    let k : g.row.N ≡ c.args.at + g.row.N - c.args.at = omega arith in
    put_mid-paste _ _ _ _ c.args.bytes g.row.N c.copy_from_slice.ensures.after k (sym many)
    ∙ rw (← many, take-length c.args.bytes) (sym (sets-eq c.args.bytes c.args.destination.now c.args.at (omega (arith, many, c.requires))))
