-- What both entries, `judge_by_steps` and `judge_command_by_steps`, promise of their finding of `file` and of the lent
-- memory: `bytes` and `ledger` are what was lent, `bytes'` and `ledger'` what it is at the end. Assumes nothing.
use Rattle.std.specs.Prelude.{ℕ, ◌+◌, ◌*◌, ◌<◌, List, [], ◌∷◌, length, drop, ◌≡◌, ◌⊎◌}
use Rattle.second_judge.specs.declared.Finding.{Finding}
use Rattle.second_judge.specs.declared.entry.Entry.{Entry}
use Rattle.second_judge.specs.Numbers.{Among, refusals, verdicts, while_reading}
use Rattle.second_judge.specs.Recording.{step_count, total_ticks, lines, AtRest, Marked, Unmarked, ticks}

-- "All further places keep what they held."
pub record Kept {A : Type 0} (further : ℕ) (before after : List A) : Type 0 where
  pub as_long : length after ≡ length before
  pub the_same : drop further after ≡ drop further before

-- "Every refusal has tick 0 and count 0, .. and no lent byte or number changes."
pub record Refused (finding : Finding) (bytes bytes' ledger ledger' : List ℕ) : Type 0 where
  pub a_refusal : Among refusals finding.number
  pub tick_0 : finding.tick ≡ 0
  pub count_0 : finding.count ≡ 0
  pub same_bytes : bytes' ≡ bytes
  pub same_ledger : ledger' ≡ ledger

-- "A verdict carries the deciding tick and the step holding it (20: the finish tick; 22: total ticks and n)."
pub record Timed (finding : Finding) (total steps : ℕ) : Type 0 where
  pub at_the_end : finding.number ≡ 22 → (finding.tick ≡ total) × (finding.step ≡ steps)
  pub before_the_end : (finding.number ≡ 22 → ⊥) → (finding.tick < total) × (finding.step < steps)

-- #103: "The first tick of a marked step gives verdict 40": no other tick does, and no later mark. A verdict by what the
-- lines show falls before any mark, and the recording is complete or cut only if "no step is marked".
pub record Heeded (entry : Entry) (finding : Finding) (file : List ℕ) : Type 0 where
  pub at_the_first : finding.number ≡ 40 → Marked file finding.step × (finding.tick ≡ ticks file finding.step)
      × Unmarked file finding.step
  pub before_any : Among (while_reading entry) finding.number → Unmarked file (finding.step + 1)
  pub without_any : Among (20 ∷ 22 ∷ []) finding.number → Unmarked file (step_count file)

-- "Its count is the bytes handed over. The byte buffer begins with those; the ledger begins with two ticks for each."
pub record Judged (entry : Entry) (finding : Finding) (file bytes bytes' ledger ledger' : List ℕ) : Type 0 where
  pub a_verdict : Among (verdicts entry) finding.number
  pub timed : Timed finding (total_ticks file) (step_count file)
  pub heeded : Heeded entry finding file
  -- "E end. .. Any tick other than (0,0): 37.", and with ATN 23; "After the finish only a pull of ATN matters: 37."
  pub at_rest : finding.number ≡ 20 → (last : ℕ) → last + 1 ≡ step_count file → AtRest entry (lines file last)
  pub bytes_kept : Kept finding.count bytes bytes'
  pub ledger_kept : Kept (2 * finding.count) ledger ledger'

abbrev pub Answered : Entry → Finding → List ℕ → List ℕ → List ℕ → List ℕ → List ℕ → Type 0
Answered entry finding file bytes bytes' ledger ledger' =
    Refused finding bytes bytes' ledger ledger' ⊎ Judged entry finding file bytes bytes' ledger ledger'
