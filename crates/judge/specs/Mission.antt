-- What the station stands on, a line each: of what the judge gives for any recording and any lent buffers.
use Rattle.std.specs.Prelude.{ℕ, suc, ◌≤◌, ◌<◌, List, ◌≡◌, ◌↔◌}
use Rattle.answer.specs.{Types.Answer, Numbers.IsVerdict}
use Rattle.recording.specs.{Layout.header_at, Ticks.steps_from, Ticks.total_ticks}
use Rattle.transfer.specs.Types.{Entry, Plain, Command, Limits, Phase, End, Finished}
use Rattle.transfer.specs.{Demand3.Consistent, Limits.standard_limits, Limits.command_limits}
use Rattle.reader.specs.{After.state_after, States.first_state}
use Rattle.judge.specs.Demand3.{GoodWithRoom}
use Rattle.judge.specs.Judged.{Judged, leaves, judged, tick_list}

-- The step of a file that holds a tick: it has begun by then, and is not over.
pub record Holds (file : List ℕ) (tick step : ℕ) : Type 0 where
  pub in_file : step < (header_at file).steps
  pub begun : total_ticks (steps_from file 0 step) ≤ tick
  pub not_over : tick < total_ticks (steps_from file 0 (suc step))

-- "22: total ticks and n", both of them the header's.
pub record AtTheEnd (file : List ℕ) (a : Answer) : Type 0 where
  pub tick : a.tick ≡ (header_at file).total
  pub step : a.step ≡ (header_at file).steps

-- Where a recording runs out that is complete: in phase E, and for commands, which have no end mark, in the phase after the finish.
abbrev pub end_of : Entry → (finish : ℕ) → Phase
end_of Plain finish = End finish
end_of Command finish = Finished finish

module _ (L : Limits) (file bytes ledger : List ℕ) where
  -- What the judge gives.
  abbrev pub given : Judged
  given = judged L file bytes ledger

  -- The transfer is finished: the recording is of good form, with enough room lent, and runs out in the entry's last phase, whose first
  -- tick is the finish tick.
  pub record IsFinished (finish : ℕ) : Type 0 where
    pub form : GoodWithRoom file bytes ledger
    pub in_end : (state_after L first_state (tick_list file)).phase ≡ end_of L.entry finish

  pub record Mission : Type 0 where
    -- Nothing but a finished transfer is ever 20, and its tick is the finish tick.
    pub only_finished_is_20 : given.answer.number ≡ 20 → IsFinished given.answer.tick
    -- A transfer of no byte is never 20.
    pub no_byte_is_never_20 : given.answer.number ≡ 20 → 1 ≤ given.answer.count
    -- A well-formed recording of no steps, with room enough, is 22 at tick 0, step 0, and no place of lent memory changes.
    pub no_steps_are_cut : (good : GoodWithRoom file bytes ledger) → good.steps ≡ 0
        → given ≡ leaves (record { number = 22; tick = 0; step = 0; count = 0 }) bytes ledger
    -- "Of good form, with enough room lent, if no refusal that the judge may give is due."
    pub no_refusal_is_due : GoodWithRoom file bytes ledger ↔ IsVerdict given.answer.number
    -- A refusal has tick 0 and count 0, "and no lent byte or number changes".
    pub refusals_change_nothing : (IsVerdict given.answer.number → ⊥)
        → given ≡ leaves (record { number = given.answer.number; tick = 0; step = given.answer.step; count = 0 }) bytes ledger
    -- 22 is at the end of the recording.
    pub cut_at_the_end : given.answer.number ≡ 22 → AtTheEnd file given.answer
    -- Any other verdict "carries the deciding tick and the step holding it".
    pub step_holds_tick : IsVerdict given.answer.number → (given.answer.number ≡ 22 → ⊥)
        → Holds file given.answer.tick given.answer.step

-- For all times that are consistent.
abbrev pub MissionLaw : Type 0
MissionLaw = (L : Limits) → Consistent L → (file bytes ledger : List ℕ) → Mission L file bytes ledger

-- And so for document 01's own, of both entries.
pub record StandardMission (file bytes ledger : List ℕ) : Type 0 where
  pub plain : Mission standard_limits file bytes ledger
  pub command : Mission command_limits file bytes ledger

abbrev pub StandardMissionLaw : Type 0
StandardMissionLaw = (file bytes ledger : List ℕ) → StandardMission file bytes ledger

-- No recording passes both entries, whatever the times and whatever is lent.
abbrev pub NeverBothLaw : Type 0
NeverBothLaw =
    (L M : Limits) (file bytes ledger bytes' ledger' : List ℕ) → L.entry ≡ Plain → M.entry ≡ Command
    → (judged L file bytes ledger).answer.number ≡ 20 → (judged M file bytes' ledger').answer.number ≡ 20 → ⊥
