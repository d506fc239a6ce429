-- From what was read to what the judge gives. Assumes nothing.
use Rattle.std.specs.Prelude.{ℕ, Ok, ◌≤◌, List, length, ◌≡◌}
use mathlib.Core.Path.{sym, ap, ap₂, ◌∙◌}
use native.Mathlib.Nat.{zero-add}
use Rattle.answer.specs.{Types.Answer, Answers.◌over◌, Numbers.verdict_number}
use Rattle.recording.specs.{Types.Step, Form.form_of, Ticks.steps_from}
use Rattle.recording.proofs.GoodFormLaws.{good_form}
use Rattle.reader.specs.{After.handed_over, States.first_state}
use Rattle.transfer.specs.{Types.Limits, Types.Tick, Types.Decision, Outcome.Outcome, Outcome.outcome, Pair.values, Moves.decision_of}
use Rattle.reader.specs.declared.state.State.{State}
use Rattle.reader.proofs.{TickLaws.counts, Outcomes.outcome_states}
use Rattle.judge.specs.Judged.{leaves, byte_room, ledger_room, ticks_shown, two_ticks, step_holding, verdict_answer, verdict_leaves, judged}
use Rattle.judge.specs.Reading.{ticks_from, Reached, reached, read_into, state_answer}
use Rattle.judge.proofs.JudgedLaws.{good_steps, is_verdict}

-- The answer to a state, by the decision, the step and the number.
pub state_answer_lem : (steps : List Step) (s : State) (d : Decision) (step number : ℕ) → d ≡ decision_of s.phase s.tick
    → step ≡ step_holding d.tick steps → number ≡ verdict_number d.verdict
    → record { number = number; tick = d.tick; step = step; count = s.count } ≡ state_answer steps s
state_answer_lem steps s d step number ed es en =
    ap₂ (λ (n h : ℕ). record { number = n; tick = d.tick; step = h; count = s.count }) en es
    ∙ ap (λ (e : Decision). verdict_answer steps e s.count) ed

-- A tick list that was read into lent buffers, and the answer to the state reached, are the verdict's.
read_verdict : (L : Limits) (steps : List Step) (w : List Tick) (b g : List ℕ)
    → leaves (state_answer steps (read_into L w b g).state) (read_into L w b g).bytes (read_into L w b g).ledger
    ≡ verdict_leaves steps (outcome L w) b g
unfolding read_into
read_verdict L steps w b g =
    let h = handed_over L first_state w in
    let s = (read_into L w b g).state in
    let count : s.count ≡ length h = counts L w first_state ∙ zero-add (length h) in
    ap (λ (n : ℕ). leaves (verdict_answer steps (decision_of s.phase s.tick) n) (values h over b) (two_ticks h over g)) count
    ∙ ap (λ (o : Outcome). verdict_leaves steps o b g) (sym (outcome_states L w))

-- A recording of good form that was read, with enough room lent.
pub is_read : (L : Limits) (file b g : List ℕ) (n : ℕ) → form_of file ≡ Ok n → byte_room ≤ length b → ledger_room ≤ length g
    → (s : State) (b' g' : List ℕ) (a : Answer) → reached s b' g' ≡ read_into L (ticks_from file 0 n) b g
    → a ≡ state_answer (steps_from file 0 n) s → leaves a b' g' ≡ judged L file b g
is_read L file b g n e hb hg s b' g' a er ea =
    let good = (good_form file n).0 e in
    ap (λ (x : Answer). leaves x b' g') ea
    ∙ ap (λ (r : Reached). leaves (state_answer (steps_from file 0 n) r.state) r.bytes r.ledger) er
    ∙ read_verdict L (steps_from file 0 n) (ticks_from file 0 n) b g
    ∙ ap (λ (steps : List Step). verdict_leaves steps (outcome L (ticks_shown steps)) b g) (sym (good_steps file n good))
    ∙ sym (is_verdict L file b g n e hb hg)
