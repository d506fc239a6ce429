-- What the stage tells of a phase, what keeps one running, and what ATN leaves of a tick. Assumes nothing.
use Rattle.std.specs.Prelude.{ℕ, Bool, true, false, ◌≡◌}
use mathlib.Core.Bool.{false≢true}
use mathlib.Core.Path.{refl, sym, ap, ◌∙◌, subst, subst⁻¹}
use Rattle.answer.specs.Types.{Fault, Attention, Overrun}
use Rattle.transfer.specs.Phases.{Move, Stop, next}
use Rattle.transfer.specs.Moves.{Stage, Running, Holding, Ended, Past, Fallen, stage, has_fallen, is_decided, released, heed}
use Rattle.transfer.specs.{Moves.unless_fallen, Moves.unless_marked, Moves.move, Parties.under_way, Ticks.tick}
use Rattle.transfer.specs.Types.{Entry, Plain, Command, Limits, Lines, Tick, Byte, Phase, Start, FirstHold, Hold, ReadyToSend}
use Rattle.transfer.specs.Types.{ReadyForData}
use Rattle.transfer.specs.Types.{Acknowledgement, Acknowledged, SetUp, Valid, Open, Carried, End, Finished, Decided}
use Rattle.transfer.proofs.Rows.{settled, unmarked, going_on}

-- The one list of all phases that says which is E, which follows the finish of commands and which is a verdict.
pub data Told (p : Phase) : Type 0 where
  is_running : stage p ≡ Running → Told p
  is_holding : (byte : Byte) → stage p ≡ Holding byte → Told p
  is_end : (finish : ℕ) → p ≡ End finish → Told p
  is_past_stage : (finish : ℕ) → p ≡ Finished finish → Told p
  is_decided_stage : (fault : Fault) → p ≡ Decided fault → Told p

pub told : (p : Phase) → Told p
told Start = is_running refl
told FirstHold = is_running refl
told (Hold end_mark value take let_go) = is_holding _ refl
told (ReadyToSend some-handed ended) = is_running refl
told (ReadyForData some-handed since) = is_running refl
told (Acknowledgement some-handed since ready-tick) = is_running refl
told (Acknowledged some-handed since ready-tick) = is_running refl
told (SetUp end_mark value last since bits_left) = is_running refl
told (Valid end_mark value bit since bits_left) = is_running refl
told (Open end_mark value since let_go) = is_running refl
told (Carried end_mark value since) = is_holding _ refl
told (End finish) = is_end finish refl
told (Finished finish) = is_past_stage finish refl
told (Decided fault) = is_decided_stage fault refl

pub plain_is_no_command : Plain ≡ Command → ⊥
plain_is_no_command e = false≢true (ap is_command e)
  where
    is_command : Entry → Bool
    is_command Plain = false
    is_command Command = true

pub plain_or_command : (entry : Entry) → (entry ≡ Command → ⊥) → entry ≡ Plain
plain_or_command Plain never = refl
plain_or_command Command never = absurd (never refl)

-- A phase that some lines settle is not decided.
pub undecided : (entry : Entry) (p : Phase) (l : Lines) → settled entry l p ≡ true → is_decided p ≡ false
undecided entry p l e = by_stage (told p)
  where
    decided_not : (entry : Entry) (a : Bool) → heed entry a false false false ≡ true → ⊥
    decided_not Plain true e = false≢true e
    decided_not Plain false e = false≢true e
    decided_not Command true e = false≢true e
    decided_not Command false e = false≢true e

    by_stage : Told p → is_decided p ≡ false
    by_stage (is_running r) = ap has_fallen r
    by_stage (is_holding byte r) = ap has_fallen r
    by_stage (is_end finish r) = ap is_decided r
    by_stage (is_past_stage finish r) = ap is_decided r
    by_stage (is_decided_stage fault r) = absurd (decided_not entry l.atn (subst (λ (q : Phase). settled entry l q ≡ true) r e))

not_fallen : (g : Stage) (does : Move) → has_fallen g ≡ false → unless_fallen g does ≡ does
not_fallen Running does u = refl
not_fallen (Holding byte) does u = refl
not_fallen (Ended finish) does u = refl
not_fallen (Past finish) does u = refl
not_fallen (Fallen fault) does u = absurd (false≢true (sym u))

-- A marked tick in a phase that is not decided.
pub marked_move : (L : Limits) (now : ℕ) (p : Phase) (t : Tick) → is_decided p ≡ false → t.marked ≡ true → move L now p t ≡ Stop Overrun
unfolding move
marked_move L now p t u marked = not_fallen (stage p) _ u ∙ stops t.marked _ marked
  where
    stops : (m : Bool) (does : Move) → m ≡ true → unless_marked m does ≡ Stop Overrun
    stops true does e = refl
    stops false does e = absurd (false≢true e)

-- An unmarked tick in a phase that is not decided: what ATN means, then the rows.
pub undecided_move : (L : Limits) (now : ℕ) (p : Phase) (l : Lines) → is_decided p ≡ false
    → move L now p (tick false l)
    ≡ heed L.entry l.atn (Stop Attention) (next L now p l.clk l.«data») (released L now (stage p) l.clk l.«data»)
unfolding move
undecided_move L now p l = not_fallen (stage p) _

-- A tick with ATN as it is while the transfer goes on does what the rows say.
pub under_way_move : (L : Limits) (now : ℕ) (p : Phase) (c d : Bool) → move L now p (going_on L c d) ≡ next L now p c d
unfolding move next
under_way_move L now p c d = by_stage (told p)
  where
    heeded : (entry : Entry) (x y z : Move) → heed entry (under_way entry) x y z ≡ y
    heeded Plain x y z = refl
    heeded Command x y z = refl

    rows : is_decided p ≡ false → move L now p (going_on L c d) ≡ next L now p c d
    rows u = undecided_move L now p (going_on L c d).lines u ∙ heeded L.entry _ _ _

    by_stage : Told p → move L now p (going_on L c d) ≡ next L now p c d
    by_stage (is_running r) = rows (ap has_fallen r)
    by_stage (is_holding byte r) = rows (ap has_fallen r)
    by_stage (is_end finish r) = rows (ap is_decided r)
    by_stage (is_past_stage finish r) = rows (ap is_decided r)
    by_stage (is_decided_stage fault r) =
        subst⁻¹ (λ (q : Phase). move L now q (going_on L c d) ≡ next L now q c d) r refl

-- A tick of commands with ATN released.
pub released_move : (L : Limits) (now : ℕ) (p : Phase) (c d : Bool) → L.entry ≡ Command → is_decided p ≡ false
    → move L now p (unmarked false c d) ≡ released L now (stage p) c d
released_move L now p c d command u =
    undecided_move L now p (unmarked false c d).lines u
    ∙ ap (λ (entry : Entry). heed entry false (Stop Attention) (next L now p c d) (released L now (stage p) c d)) command
