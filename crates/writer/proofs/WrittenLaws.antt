-- What the writer leaves: the header with the steps after it is the recording, and the tests decide. Assumes nothing.
use Rattle.std.specs.Prelude.{ℕ, ◌+◌, ◌≤◌, ◌<◌, List, length, ◌≡◌}
use mathlib.Core.Path.{sym, ap, subst⁻¹, ◌∙◌}
use native.Mathlib.{Nat.zero-add, Omega.arith}
use borrow.Author.Tests.{lt-ltb, le-ltb}
use lib.Seq.{sets, sets-eq, take-append_seam}
use Rattle.answer.specs.Types.{Refusal, TooManyBytes, ShortDestination}
use Rattle.answer.specs.Answers.{refused, accepted, ◌over◌, first}
use Rattle.recording.specs.{Types.Header, Types.Step, GoodForm.Bytes, Layout.file_length, Ticks.total_ticks}
use Rattle.recording.specs.FileOf.{header_bytes, steps_bytes, good_header, file_of}
use Rattle.recording.proofs.{SetsLaws.sets-append, FileOfLaws.header_length, FileOfLaws.file_length_lem}
use Rattle.transfer.specs.Limits.{standard_limits}
use Rattle.writer.specs.{Card.standard_card, WrittenSteps.written_steps, ReadBack.ReadsBack, ReadBack.Writable, Promise.WritePromise}
use Rattle.writer.specs.{Put.with_steps}
use Rattle.writer.specs.Written.{written_ticks, most_bytes, written_step_count, written_length, recording_of, Written, leaves, written}
use Rattle.writer.specs.declared.card.Card.{Card}
use Rattle.writer.proofs.{StringLaws.written_count, TickLaws.written_ticks_lem, ReadBack.counted, ReadBack.read_back}

-- The header put down first, and then the steps.
file_put : (d d₁ d₂ : List ℕ) (steps : List Step) → file_length (length steps) ≤ length d
    → d₁ ≡ sets d 0 (header_bytes (good_header (length steps) (total_ticks steps))) → d₂ ≡ with_steps d₁ 0 steps
    → d₂ ≡ file_of steps over d
unfolding with_steps file_of
file_put d d₁ d₂ steps room header put =
    let h = good_header (length steps) (total_ticks steps) in
    let place : 0 + length (header_bytes h) ≡ 16 = omega (arith, header_length h) in
    let fits : 0 + length (file_of steps) ≤ length d = omega (arith, file_length_lem steps) in
    let all : d₂ ≡ sets d 0 (file_of steps) = rw (put, header, sets-append d 0 (header_bytes h) (steps_bytes steps), place) in
    all ∙ sets-eq (file_of steps) d 0 fits ∙ rw (zero-add (length (file_of steps)))

module _ (card : Card) (bytes : List ℕ) (d : List ℕ) where
  pub recording_put : (steps total : ℕ) (h : Header) (d₁ d₂ : List ℕ) → written_length (length bytes) ≤ length d
      → steps ≡ written_step_count (length bytes) → total ≡ written_ticks card (length bytes) → h ≡ good_header steps total
      → d₁ ≡ sets d 0 (header_bytes h) → d₂ ≡ with_steps d₁ 0 (written_steps card bytes) → d₂ ≡ recording_of card bytes over d
  unfolding recording_of
  recording_put steps total h d₁ d₂ room steps-are total-is h-is header put =
      let all = written_steps card bytes in
      let count = written_count card bytes in
      let s : steps ≡ length all = steps-are ∙ sym count in
      let t : total ≡ total_ticks all = total-is ∙ sym (written_ticks_lem card bytes) in
      let h_good : h ≡ good_header (length all) (total_ticks all) = h-is ∙ rw (s, t) in
      file_put d d₁ d₂ all (omega arith) (header ∙ rw h_good) put

  pub too_many : most_bytes < length bytes → written card bytes d ≡ leaves (refused TooManyBytes 0) d
  unfolding written
  too_many many = rw (lt-ltb most_bytes (length bytes) many)

  module _ (few : length bytes ≤ most_bytes) where
    pub no_room : length d < written_length (length bytes) → written card bytes d ≡ leaves (refused ShortDestination 0) d
    unfolding written
    no_room short = rw (le-ltb most_bytes (length bytes) few, lt-ltb (length d) (written_length (length bytes)) short)

    pub all_well : written_length (length bytes) ≤ length d
        → written card bytes d ≡ leaves (accepted (written_length (length bytes))) (recording_of card bytes over d)
    unfolding written
    all_well room = rw (le-ltb most_bytes (length bytes) few, le-ltb (length d) (written_length (length bytes)) room)

-- The writer's promise: at a refusal, and where the recording was put down.
module _ (bytes d : List ℕ) where
  abbrev Promised : Written → Type 0
  Promised = WritePromise standard_limits standard_card bytes d

  pub refuses : (w : Written) (refusal : Refusal) → (Writable bytes d → ⊥) → w ≡ leaves (refused refusal 0) d
      → written standard_card bytes d ≡ leaves (refused refusal 0) d → Promised w
  refuses w refusal due e is = record { given = e ∙ sym is; reads_back = λ writable. absurd (due writable) }

  pub puts_down : (w : Written) → Bytes bytes → length bytes ≤ most_bytes
      → w ≡ leaves (accepted (written_length (length bytes))) (recording_of standard_card bytes over d)
      → written standard_card bytes d ≡ leaves (accepted (written_length (length bytes))) (recording_of standard_card bytes over d)
      → Promised w
  puts_down w is few e all =
      let recording = recording_of standard_card bytes in
      let begins : first (written_length (length bytes)) (recording over d) ≡ recording =
      ap (λ (n : ℕ). first n (recording over d)) (sym (counted standard_card bytes).bytes) ∙ take-append_seam recording _ in
      record {
        given = e ∙ sym all;
        reads_back = λ writable. subst⁻¹ (λ (v : Written). ReadsBack standard_limits (first v.answer.count v.destination) bytes) e
            (subst⁻¹ (λ (file : List ℕ). ReadsBack standard_limits file bytes) begins (read_back bytes is few));
      }
