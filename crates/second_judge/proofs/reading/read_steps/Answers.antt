-- What the loop's turn keeps, and what a verdict on the way carries. Assumes nothing.
use Rattle.std.proofs.Common.{◌≡◌, ℕ, ◌+◌, ◌*◌, ◌<◌, List, arith, below_more}
use borrow.Author.Tests.{ne_eqb}
use Rattle.second_judge.specs.declared.entry.Entry.{Entry}
use Rattle.second_judge.specs.declared.Finding.{Finding}
use Rattle.second_judge.specs.declared.phase.Phase.TheVariants.{End}
use Rattle.second_judge.specs.Numbers.{Among, while_reading}
use Rattle.second_judge.specs.Phases.{Rests}
use Rattle.second_judge.specs.Promise.{Judged, Kept}
use Rattle.second_judge.specs.Recording.{AtRest, lines, Marked, Passed, ticks, Unmarked}
use Rattle.second_judge.proofs.Laws.{kept_both, kept_from, ticks_more, ticks_grow}
use Rattle.second_judge.proofs.Lists.{none_while_reading}
use Rattle.second_judge.proofs.Phases.{rests_shown}
use Rattle.second_judge.proofs.reading.read_steps.Goals as goal

-- a verdict by what the lines show, before any mark
on_the_way : (entry : Entry) (finding : Finding) (file bytes bytes' ledger ledger' : List ℕ) (steps : ℕ) → Passed file steps
    → finding.step < steps → finding.tick < ticks file (finding.step + 1) → Among (while_reading entry) finding.number
    → Unmarked file (finding.step + 1) → Kept finding.count bytes bytes' → Kept (2 * finding.count) ledger ledger'
    → Judged entry finding file bytes bytes' ledger ledger'
on_the_way entry finding file bytes bytes' ledger ledger' steps passed in-time sooner verdict unmarked bytes_kept ledger_kept =
    let number = finding.number in
    let never = none_while_reading entry in
    let no-complete : number ≡ 20 → ⊥ = λ same. never.0 (rw same at verdict) in
    let no_cut : number ≡ 22 → ⊥ = λ same. never.1 (rw same at verdict) in
    let no-overrun : number ≡ 40 → ⊥ = λ same. never.2 (rw same at verdict) in
    let grown = ticks_grow file (finding.step + 1) steps (omega (arith, in-time)) in
    record {
      a_verdict = simp (ne_eqb number 20 no-complete, ne_eqb number 22 no_cut, ne_eqb number 40 no-overrun) verdict;
      timed =
          record {
            at_the_end = λ at_cut. absurd (no_cut at_cut);
            before_the_end = λ other. (
              omega (arith, sooner, grown, passed.summed),
              omega (arith, in-time, passed.counted),
            );
          };
      heeded =
          record {
            at_the_first = λ at_mark. absurd (no-overrun at_mark);
            before_any = λ reads. unmarked;
            without_any = λ runs_out. absurd (simp (ne_eqb number 20 no-complete, ne_eqb number 22 no_cut) at runs_out);
          };
      at_rest = λ at-end. absurd (no-complete at-end);
      bytes_kept = bytes_kept;
      ledger_kept = ledger_kept;
    }

pub returns-then-read-eq-MARKED : goal.returns-then-read-eq-MARKED
returns-then-read-eq-MARKED c =
    let file = c.args.file.now in
    let step = c.loop-step.step in
    let inv = c.loop-step.invariant in
    let over = c.at.ensures in
    let marked : Marked file step = omega (arith, c.if-read-eq-MARKED.true, c.step_at-read.ensures.3) in
    let lasts = c.requires.lasting step c.loop-step-test.true in
    let grown = ticks_grow file (step + 1) c.args.steps (omega (arith, c.loop-step-test.true)) in
    record {
      a_verdict = rw over.0 tt;
      timed =
          record {
            at_the_end = λ at_cut. absurd (omega (arith, at_cut, over.0));
            before_the_end = λ other. (
              omega (arith, over.1, inv.passed, ticks_more file step, lasts, grown, c.requires.summed),
              omega (arith, over.2, c.loop-step-test.true, c.requires.counted),
            );
          };
      heeded =
          record {
            at_the_first = λ at_mark. rw over.2 (marked, omega (arith, over.1, inv.passed), inv.unmarked);
            before_any = λ reads. absurd ((none_while_reading c.args.entry).2 (rw over.0 at reads));
            without_any = λ runs_out. absurd (rw over.0 at runs_out);
          };
      at_rest = λ at-end. absurd (omega (arith, at-end, over.0));
      bytes_kept = kept_from (omega (arith, over.3)) inv.bytes_kept;
      ledger_kept = kept_from (omega (arith, over.3)) inv.ledger_kept;
    }

pub returns-in-Err : goal.returns-in-Err
returns-in-Err c =
    let file = c.args.file.now in
    let step = c.loop-step.step in
    let inv = c.loop-step.invariant in
    let at = c.at-in-Err.ensures in
    let lasts = c.requires.lasting step c.loop-step-test.true in
    let unmarked : Unmarked file (step + 1) =
    below_more _ _ inv.unmarked (λ marked. c.if-read-eq-MARKED.false (omega (arith, marked, c.step_at-read.ensures.3))) in
    on_the_way c.args.entry c.at-in-Err.result file _ _ _ _ c.args.steps c.requires
    (omega (arith, at.2, c.loop-step-test.true))
    (rw at.2 (omega (arith, at.1, inv.passed, ticks_more file step, lasts)))
    (rw at.0 c.in-Err.ensures)
    (rw at.2 unmarked)
    (kept_from (omega (arith, at.3)) inv.bytes_kept)
    (kept_from (omega (arith, at.3)) inv.ledger_kept)

pub returns-in-Some : goal.returns-in-Some
returns-in-Some c =
    let file = c.args.file.now in
    let step = c.loop-step.step in
    let inv = c.loop-step.invariant in
    let read = c.step_at-read.ensures in
    let over = c.hand_over-count.ensures in
    let at = c.at-in-Some.ensures in
    let fallen = c.in-Some.ensures in
    let unmarked : Unmarked file (step + 1) =
    below_more _ _ inv.unmarked (λ marked. c.if-read-eq-MARKED.false (omega (arith, marked, read.3))) in
    on_the_way c.args.entry c.at-in-Some.result file _ _ _ _ c.args.steps c.requires
    (omega (arith, at.2, c.loop-step-test.true))
    (rw at.2 (omega (arith, at.1, fallen.1, inv.passed, read.0, ticks_more file step)))
    (rw at.0 fallen.0)
    (rw at.2 unmarked)
    (kept_from (omega (arith, at.3)) (kept_both (kept_from over.counted.0 inv.bytes_kept) over.bytes_kept))
    (kept_from (omega (arith, at.3)) (kept_both (kept_from (omega (arith, over.counted.0)) inv.ledger_kept) over.ledger_kept))

pub loop-step-preserved : goal.loop-step-preserved
loop-step-preserved c =
    let file = c.args.file.now in
    let step = c.loop-step.step in
    let inv = c.loop-step.invariant in
    let read = c.step_at-read.ensures in
    let over = c.hand_over-count.ensures in
    let place = c.after-place.ensures.in_time in
    let lasts = c.requires.lasting step c.loop-step-test.true in
    let went = c.in-Ok.ensures in
    let follows = c.after-place.ensures.follows in
    let here = c.read-first.ensures in
    let rested : c.after-place.result.phase ≡ End → (last : ℕ) → last + 1 ≡ step + 1 → AtRest c.args.entry (lines file last) =
    λ ends last this.
    let same : last ≡ step = omega (arith, this) in
    let rests : Rests c.args.entry c.from-lines.result = rw here.1 at (went.1 (cc)) in
    rw same (rests_shown c.args.entry _ (rw read.2 at (rw c.from-lines.ensures at rests))) in
    record {
      bytes_kept = kept_both (kept_from over.counted.0 inv.bytes_kept) over.bytes_kept;
      ledger_kept = kept_both (kept_from (omega (arith, over.counted.0)) inv.ledger_kept) over.ledger_kept;
      few_ticks = omega (arith, inv.few_ticks, read.1);
      passed = omega (arith, inv.passed, read.0, ticks_more file step);
      since = omega (arith, place.0);
      since_step = omega (arith, place.1);
      at_rest = λ ends. (omega (arith, place.0, read.0, lasts), omega (arith, place.1), rested ends);
      stands = rw follows (rw here.0 at went.0);
      few_bits = omega (arith, inv.few_bits, c.after-byte.ensures);
      few_bytes = omega (arith, inv.few_bytes, over.counted);
      unmarked = below_more _ _ inv.unmarked (λ marked. c.if-read-eq-MARKED.false (omega (arith, marked, read.3)));
    }
