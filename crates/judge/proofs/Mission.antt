-- What the station stands on. Assumes nothing.
use Rattle.std.specs.Prelude.{ℕ, Ok, Err, zero, suc, ◌≤◌, Bool, true, false, List, [], ◌++◌, length, replicate, ◌≡◌, ltb}
use mathlib.Core.Bool.{false≢true}
use mathlib.Core.Path.{refl, sym, ap, subst⁻¹, ◌∙◌}
use native.Mathlib.Omega.{arith}
use lib.ListN.{length-map}
use borrow.Author.Tests.{ltb-true, ltb-false}
use Rattle.answer.specs.{Answers.refused, Numbers.verdict_number, Numbers.IsVerdict}
use Rattle.answer.specs.Types.{Refusal, ShortBuffers, Fault, Verdict, Complete, Cut, Broken}
use Rattle.recording.specs.{Form.Form, Form.form_of, GoodForm.GoodForm, Layout.header_at}
use Rattle.recording.specs.Ticks.{steps_from, steps_of, total_ticks, ticks, ticks_of}
use Rattle.recording.specs.Types.{Step}
use Rattle.recording.proofs.{GoodFormLaws.good_form, StepLaws.steps_count, StepLaws.total_counts}
use Rattle.transfer.specs.{Demand3.Consistent, Limits.standard_limits, Limits.command_limits, Outcome.Outcome}
use Rattle.transfer.specs.Types.{Entry, Plain, Command, Limits, Phase, End, Finished}
use Rattle.transfer.specs.{Outcome.run, Outcome.outcome, Pair.values, Moves.Stage, Moves.Running, Moves.Holding, Moves.stage}
use Rattle.transfer.specs.{Moves.decision_in, Moves.decision_of, Rules.last_of}
use Rattle.reader.specs.{States.first_state, After.state_after}
use Rattle.reader.proofs.{Outcomes.outcome_states, Ends.plain_never_past, Ends.command_end_pulled}
use Rattle.answer.proofs.Numbers.{only_complete_is_20, only_cut_is_22, verdicts_are_no_refusals}
use Rattle.transfer.proofs.{DecisionTicks.decision_tick, Demand3.demand3, Demand3.standard_consistent, Attention.attention_law}
use Rattle.transfer.proofs.{Demand3.commands_consistent, Facts.pair_sends_bytes, Facts.never_both}
use Rattle.transfer.proofs.Stages.{Told, is_running, is_holding, is_end, is_past_stage, is_decided_stage, told}
use Rattle.judge.specs.Demand3.{GoodWithRoom}
use Rattle.judge.specs.Judged.{Judged, leaves, byte_room, ledger_room, shown_by, ticks_shown, tick_list, line_list, two_ticks}
use Rattle.judge.specs.Judged.{step_holding, verdict_leaves}
use Rattle.judge.specs.Mission.{Holds, AtTheEnd, end_of, given, IsFinished, Mission, MissionLaw, StandardMissionLaw, NeverBothLaw}
use Rattle.judge.proofs.{HoldingLaws.held_by_step, HoldingLaws.held_at_the_end, LedgerLists.length-values}
use Rattle.judge.proofs.JudgedLaws.{good_steps, is_refused, few_places, few_ledger_places, is_verdict}

-- The ticks of a recording of good form, as its steps have them and as its header says.
ticks_of_lem : (file : List ℕ) → length (tick_list file) ≡ total_ticks (steps_of file)
ticks_of_lem file = length-map (ticks (steps_of file)) shown_by ∙ sym (total_counts (steps_of file))

header_total : (file : List ℕ) (n : ℕ) → GoodForm file n → (header_at file).total ≡ total_ticks (steps_of file)
unfolding ticks_of
header_total file n good = good.total ∙ sym (total_counts (steps_of file))

-- A fault is no pass.
abbrev passes : Verdict → Bool
passes Complete = true
passes Cut = false
passes (Broken f) = false

unbroken : (fault : Fault) → Broken fault ≡ Complete → ⊥
unbroken fault e = false≢true (ap passes e)

-- Nor does one pass that is running at once.
abbrev ends_in : Phase → Bool
ends_in p = passes (decision_of p 0).verdict

module _ (L : Limits) (file bytes ledger : List ℕ) where
  abbrev got : Judged
  got = given L file bytes ledger

  abbrev read : Outcome
  read = outcome L (tick_list file)

  -- What the judge gives is a refusal, which changes nothing, or a verdict.
  data Kind : Type 0 where
    refusal : (r : Refusal) (step : ℕ) → got ≡ leaves (refused r step) bytes ledger → Kind
    verdict : GoodWithRoom file bytes ledger → got ≡ verdict_leaves (steps_of file) read bytes ledger → Kind

  by_form : (form : Form) → form_of file ≡ form → Kind
  by_form (Err r) e = refusal r.refusal r.step (is_refused L file bytes ledger r e)
  by_form (Ok n) e = by_room (ltb (length bytes) byte_room) (ltb (length ledger) ledger_room) refl refl
    where
      by_room : (t u : Bool) → ltb (length bytes) byte_room ≡ t → ltb (length ledger) ledger_room ≡ u → Kind
      by_room true u et eu = refusal ShortBuffers 0 (few_places L file bytes ledger n e (ltb-true (length bytes) byte_room et))
      by_room false true et eu =
          refusal ShortBuffers 0
          (few_ledger_places L file bytes ledger n e (ltb-false (length bytes) byte_room et) (ltb-true (length ledger) ledger_room eu))
      by_room false false et eu =
          let hb = ltb-false (length bytes) byte_room et in
          let hg = ltb-false (length ledger) ledger_room eu in
          verdict (record { steps = n; good_form = (good_form file n).0 e; byte_room_lent = hb; ledger_room_lent = hg })
          (is_verdict L file bytes ledger n e hb hg)

  -- The number of a verdict, and of a refusal.
  is_number : got ≡ verdict_leaves (steps_of file) read bytes ledger → verdict_number read.decision.verdict ≡ got.answer.number
  is_number is = ap (λ (j : Judged). j.answer.number) (sym is)

  no_verdict : (r : Refusal) (step : ℕ) → got ≡ leaves (refused r step) bytes ledger → (v : Verdict)
      → verdict_number v ≡ got.answer.number → ⊥
  no_verdict r step is v e = verdicts_are_no_refusals v r (e ∙ ap (λ (j : Judged). j.answer.number) is)

  -- Where commands are complete, the last tick shows ATN released.
  last_released : (finish later : ℕ) → last_of false (replicate finish true ++ replicate (suc later) false) ≡ false
  last_released finish later = past finish later false
    where
      all_released : (later : ℕ) → last_of false (replicate later false) ≡ false
      all_released zero = refl
      all_released (suc later) = all_released later

      past : (finish later : ℕ) (b : Bool) → last_of b (replicate finish true ++ replicate (suc later) false) ≡ false
      past zero later b = all_released later
      past (suc finish) later b = past finish later true

  no_end : Consistent L → L.entry ≡ Command → read.decision.verdict ≡ Complete → (finish : ℕ)
      → (state_after L first_state (tick_list file)).phase ≡ End finish → ⊥
  no_end times command e finish at =
      let explained = (((demand3 L times (tick_list file)).exactly (values read.bytes)).0 (record { verdict = e; bytes = refl })).0 in
      let until = (attention_law L (line_list file) _ explained).command command in
      false≢true
      (sym (ap (last_of false) until.is ∙ last_released until.finish until.later)
      ∙ command_end_pulled L command (tick_list file) first_state false (λ f start. ap ends_in start) finish at)

  -- A decision that is complete was taken in the entry's last phase, and its tick is the finish tick.
  complete_ends : (p : Phase) (tick : ℕ) → (L.entry ≡ Command → (finish : ℕ) → p ≡ End finish → ⊥)
      → (L.entry ≡ Plain → (finish : ℕ) → p ≡ Finished finish → ⊥) → (decision_of p tick).verdict ≡ Complete
      → p ≡ end_of L.entry (decision_of p tick).tick
  complete_ends p tick no_end no-past e = by_stage (told p)
    where
      not_cut : (g : Stage) → stage p ≡ g → (decision_in g tick).verdict ≡ Cut → ⊥
      not_cut g r c =
          omega (arith, ap verdict_number (sym c ∙ sym (ap (λ (h : Stage). (decision_in h tick).verdict) r) ∙ e))

      by_entry : (entry : Entry) → L.entry ≡ entry → Told p → p ≡ end_of entry (decision_of p tick).tick
      by_entry entry n (is_running r) = absurd (not_cut Running r refl)
      by_entry entry n (is_holding byte r) = absurd (not_cut (Holding byte) r refl)
      by_entry Plain n (is_end finish r) = r ∙ sym (ap (λ (q : Phase). End (decision_of q tick).tick) r)
      by_entry Command n (is_end finish r) = absurd (no_end n finish r)
      by_entry Plain n (is_past_stage finish r) = absurd (no-past n finish r)
      by_entry Command n (is_past_stage finish r) = r ∙ sym (ap (λ (q : Phase). Finished (decision_of q tick).tick) r)
      by_entry entry n (is_decided_stage fault r) = absurd (unbroken fault (sym (ap (λ (q : Phase). (decision_of q tick).verdict) r) ∙ e))

      by_stage : Told p → p ≡ end_of L.entry (decision_of p tick).tick
      by_stage = by_entry L.entry refl

  -- 20.
  completes : Kind → got.answer.number ≡ 20 → read.decision.verdict ≡ Complete
  completes (refusal r step is) h = absurd (no_verdict r step is Complete (sym h))
  completes (verdict form is) h = only_complete_is_20 _ (is_number is ∙ h)

  finishes : Consistent L → Kind → got.answer.number ≡ 20 → IsFinished L file bytes ledger got.answer.tick
  finishes times (refusal r step is) h = absurd (no_verdict r step is Complete (sym h))
  finishes times (verdict form is) h =
      let e = outcome_states L (tick_list file) in
      let complete = ap (λ (o : Outcome). o.decision.verdict) (sym e) ∙ completes (verdict form is) h in
      subst⁻¹ (λ (j : Judged). IsFinished L file bytes ledger j.answer.tick) is
      (record {
        form = form;
        in_end =
            subst⁻¹ (λ (o : Outcome). (state_after L first_state (tick_list file)).phase ≡ end_of L.entry o.decision.tick) e
            (complete_ends _ _ (λ command. no_end times command (completes (verdict form is) h))
            (λ plain. plain_never_past L plain (tick_list file) first_state (λ f start. false≢true (ap ends_in start))) complete);
      })

  sends_a_byte : Consistent L → Kind → got.answer.number ≡ 20 → 1 ≤ got.answer.count
  sends_a_byte times (refusal r step is) h = absurd (no_verdict r step is Complete (sym h))
  sends_a_byte times (verdict form is) h =
      let complete = completes (verdict form is) h in
      let pair = (((demand3 L times (tick_list file)).exactly (values read.bytes)).0 (record { verdict = complete; bytes = refl })).0 in
      let one = (pair_sends_bytes _ _ _ _ _ pair.explains.pair).one in
      subst⁻¹ (λ (j : Judged). 1 ≤ j.answer.count) is (omega (arith, length-values read.bytes, one))

  -- No steps.
  has_no_steps : (n : ℕ) → GoodForm file n → n ≡ 0 → steps_of file ≡ []
  unfolding steps_from
  has_no_steps n good e = good_steps file n good ∙ ap (steps_from file 0) e

  cuts : (good : GoodWithRoom file bytes ledger) → good.steps ≡ 0
      → got ≡ leaves (record { number = 22; tick = 0; step = 0; count = 0 }) bytes ledger
  unfolding ticks run step_holding two_ticks
  cuts g e =
      is_verdict L file bytes ledger g.steps ((good_form file g.steps).1 g.good_form) g.byte_room_lent g.ledger_room_lent
      ∙ ap (λ (steps : List Step). verdict_leaves steps (outcome L (ticks_shown steps)) bytes ledger)
      (has_no_steps g.steps g.good_form e)

  -- Whether a refusal is due.
  has_verdict : GoodWithRoom file bytes ledger → IsVerdict got.answer.number
  has_verdict form =
      let good = (good_form file form.steps).1 form.good_form in
      subst⁻¹ (λ (j : Judged). IsVerdict j.answer.number)
      (is_verdict L file bytes ledger form.steps good form.byte_room_lent form.ledger_room_lent)
      (record { verdict = read.decision.verdict; numbered = refl })

  has_form : Kind → IsVerdict got.answer.number → GoodWithRoom file bytes ledger
  has_form (refusal r step is) h = absurd (no_verdict r step is h.verdict h.numbered)
  has_form (verdict form is) h = form

  abbrev refused_as : Judged → Judged
  refused_as j = leaves (record { number = j.answer.number; tick = 0; step = j.answer.step; count = 0 }) bytes ledger

  unchanged : Kind → (IsVerdict got.answer.number → ⊥) → got ≡ refused_as got
  unchanged (refusal r step is) h = is ∙ ap refused_as (sym is)
  unchanged (verdict form is) h = absurd (h (has_verdict form))

  -- Where the tick lies, and its step.
  ends : Kind → got.answer.number ≡ 22 → AtTheEnd file got.answer
  unfolding steps_of
  ends (refusal r step is) h = absurd (no_verdict r step is Cut (sym h))
  ends (verdict form is) h =
      let cut = only_cut_is_22 read.decision.verdict (is_number is ∙ h) in
      let tick = (decision_tick L (tick_list file)).cut cut ∙ ticks_of_lem file in
      subst⁻¹ (λ (j : Judged). AtTheEnd file j.answer) is
      (record {
        tick = tick ∙ sym (header_total file form.steps form.good_form);
        step =
            ap (λ (t : ℕ). step_holding t (steps_of file)) tick ∙ held_at_the_end (steps_of file)
            ∙ steps_count file (header_at file).steps 0;
      })

  held : Kind → IsVerdict got.answer.number → (got.answer.number ≡ 22 → ⊥) → Holds file got.answer.tick got.answer.step
  unfolding steps_of
  held (refusal r step is) v h = absurd (no_verdict r step is v.verdict v.numbered)
  held (verdict form is) v h =
      let tick = (decision_tick L (tick_list file)).inside (λ cut. h (sym (is_number is) ∙ ap verdict_number cut)) in
      subst⁻¹ (λ (j : Judged). Holds file j.answer.tick j.answer.step) is
      (held_by_step file read.decision.tick (omega (arith, ticks_of_lem file, tick)))

  all_lines : Consistent L → Mission L file bytes ledger
  all_lines times =
      let kind = by_form (form_of file) refl in
      record {
        only_finished_is_20 = finishes times kind;
        no_byte_is_never_20 = sends_a_byte times kind;
        no_steps_are_cut = cuts;
        no_refusal_is_due = (has_verdict, has_form kind);
        refusals_change_nothing = unchanged kind;
        cut_at_the_end = ends kind;
        step_holds_tick = held kind;
      }

pub mission : MissionLaw
mission L times file bytes ledger = all_lines L file bytes ledger times

pub standard_mission : StandardMissionLaw
standard_mission file bytes ledger =
    record {
      plain = mission standard_limits standard_consistent file bytes ledger;
      command = mission command_limits (commands_consistent standard_limits standard_consistent) file bytes ledger;
    }

pub never_both_pass : NeverBothLaw
never_both_pass L M file b g b' g' p c x y =
    never_both L M (tick_list file) p c (completes L file b g (by_form L file b g (form_of file) refl) x)
    (completes M file b' g' (by_form M file b' g' (form_of file) refl) y)
