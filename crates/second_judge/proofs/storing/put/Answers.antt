-- A part of what was lent is written, and what lies beyond it stays. Assumes nothing.
use Rattle.std.proofs.Common.{◌+◌, ◌≡◌, ◌-◌, length, arith, length-take, length-drop}
use Rattle.std.proofs.lemmas.Slice.{drop-put_mid}
use borrow.Rule.Slice.PartMut.{same_len_mid}
use Rattle.second_judge.proofs.storing.put.Goals as goal

pub returns-then-end-lent : goal.returns-then-end-lent
returns-then-end-lent g c =
    let long = c.copy_from_slice.ensures.len in
    let as-many : length c.copy_from_slice.new.self ≡ c.args.from + g.row.N - c.args.from =
    omega (arith, simp (length-take, length-drop) at long) in
    record {
      as_long = same_len_mid _ _ _ _ long;
      the_same = drop-put_mid _ _ c.args.lent.now _ (c.args.from + g.row.N) (omega arith) (omega arith) as-many;
    }
