-- Demand 2: what the writer put down is read back. Assumes nothing.
use Rattle.std.specs.Prelude.{ℕ, ◌≤◌, List, [], ◌∷◌, length}
use mathlib.Core.Path.{refl, sym, ap, subst⁻¹, ◌∙◌}
use native.Mathlib.Omega.{arith}
use Rattle.answer.specs.{Answers.◌over◌, Numbers.verdict_number}
use Rattle.recording.specs.{Types.Step, FileOf.FileOf, GoodForm.Bytes, Ticks.steps_of}
use Rattle.recording.proofs.{FileOfLaws.file_of_lem, FileOfLaws.file_length_lem, GoodFormLaws.good_form}
use Rattle.transfer.specs.{Limits.standard_limits, Outcome.Outcome, Outcome.outcome}
use Rattle.judge.specs.Judged.{ticks_shown, verdict_leaves}
use Rattle.judge.proofs.{JudgedLaws.is_verdict, LedgerLists.length-values}
use Rattle.writer.specs.{Card.standard_card, ReadBack.ReadAs, ReadBack.ReadBackLaw, Written.most_bytes, Written.recording_of}
use Rattle.writer.specs.{Written.CountedLaw, WrittenSteps.written_steps}
use Rattle.writer.proofs.{SentComplete.written_ticks, SentComplete.sent_complete, SentComplete.empty_outcome}
use Rattle.writer.proofs.{StringLaws.written_count, TickLaws.written_ticks_lem, WrittenRecordable.written_recordable}

-- A verdict over the ticks that are put down for a string, with exactly its bytes.
read_string : (steps : List Step) (string : List ℕ) → Bytes string → (bytes ledger : List ℕ)
    → ReadAs string bytes (verdict_leaves steps (outcome standard_limits (written_ticks standard_card string)) bytes ledger)
read_string steps [] is bytes ledger =
    subst⁻¹ (λ (o : Outcome). ReadAs [] bytes (verdict_leaves steps o bytes ledger)) empty_outcome
    (record { number = refl; count = refl; buffer = refl })
read_string steps (first ∷ others) is bytes ledger =
    let c = sent_complete first others is in
    let o = outcome standard_limits (written_ticks standard_card (first ∷ others)) in
    record {
      number = ap verdict_number c.verdict;
      count = sym (length-values o.bytes) ∙ ap length c.bytes;
      buffer = ap (λ (v : List ℕ). v over bytes) c.bytes;
    }

-- The recording is of good form and has the steps put down.
is_recording : (string : List ℕ) → length string ≤ most_bytes → FileOf (written_steps standard_card string)
is_recording string few =
    file_of_lem (written_steps standard_card string) (omega (arith, written_count standard_card string)) (written_recordable string)

pub counted : CountedLaw
unfolding recording_of
counted card string =
    let count = written_count card string in
    record { steps = count; bytes = file_length_lem (written_steps card string) ∙ omega arith; ticks = written_ticks_lem card string }

pub read_back : ReadBackLaw
unfolding recording_of
read_back string is few bytes ledger hb hg =
    let file = recording_of standard_card string in
    let good = (good_form file _).1 (is_recording string few).good in
    subst⁻¹ (ReadAs string bytes)
    (is_verdict standard_limits file bytes ledger _ good hb hg
    ∙ ap (λ (steps : List Step). verdict_leaves (steps_of file) (outcome standard_limits (ticks_shown steps)) bytes ledger)
    (is_recording string few).steps_back)
    (read_string (steps_of file) string is bytes ledger)
