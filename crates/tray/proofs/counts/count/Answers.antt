-- One place more, and in the end all of them.
use Rattle.std.proofs.Common.{ℕ, arith, ap, take, length, ◌≡◌, ◌∙◌, sym}
use Rattle.std.proofs.Math.Seq.{take-length}
use Rattle.tray.specs.Counts.{counts_of}
use Rattle.tray.specs.Types.{Passed, Failed, Unjudged, Vacant, Counts}
use Rattle.tray.proofs.CountLaws.{with_state, counted_on}
use Rattle.tray.proofs.counts.count.Goals as goal
use Rattle.tray.proofs.counts.count.Goals.{in-Passed, in-Failed, in-Unjudged, in-Vacant}

pub loop-seat-preserved : goal.loop-seat-preserved
loop-seat-preserved c =
    elim c.match-seat.branch [
      | in-Passed w ↦ w.counts-is ∙ ap (λ (k : Counts). with_state k Passed) c.loop-seat.invariant
          ∙ sym (counted_on _ _ _ c.loop-seat-test.true Passed w.in-Passed.is)
      | in-Failed w ↦ w.counts-is ∙ ap (λ (k : Counts). with_state k Failed) c.loop-seat.invariant
          ∙ sym (counted_on _ _ _ c.loop-seat-test.true Failed w.in-Failed.is)
      | in-Unjudged w ↦ w.counts-is ∙ ap (λ (k : Counts). with_state k Unjudged) c.loop-seat.invariant
          ∙ sym (counted_on _ _ _ c.loop-seat-test.true Unjudged w.in-Unjudged.is)
      | in-Vacant w ↦ w.counts-is ∙ ap (λ (k : Counts). with_state k Vacant) c.loop-seat.invariant
          ∙ sym (counted_on _ _ _ c.loop-seat-test.true Vacant w.in-Vacant.is)
    ]

pub returns : goal.returns
returns c =
    let all : c.loop-seat.seat-index ≡ length c.args.tray.now = omega (arith, c.loop-seat.auto.seat-index-end, c.loop-seat-test.false) in
    c.loop-seat.invariant ∙ ap counts_of (ap (λ (k : ℕ). take k c.args.tray.now) all ∙ take-length c.args.tray.now)
