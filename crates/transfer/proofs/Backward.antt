-- A complete recording has a pair: the run read back as a plan, row by row. Assumes nothing.
use Rattle.std.specs.Prelude.{ℕ, zero, suc, ◌+◌, ◌≤◌, ◌<◌, Bool, true, false, List, [], ◌∷◌, ◌++◌, map, replicate, ◌≡◌, eqb, ltb, leb}
use Rattle.std.specs.Prelude.{if◌then◌else◌}
use native.Mathlib.Omega.{arith}
use mathlib.Core.Logic.{inl, inr}
use mathlib.Core.Path.{refl, ap, ◌∙◌, subst, subst⁻¹}
use borrow.Author.Tests.{ltb-true, ltb-false, leb-true, leb-false}
use Rattle.transfer.specs.{Rules.PlanRules, Demand3.Consistent}
use Rattle.transfer.specs.Phases.{below, up_to, Move, Go, Stop, next, same, with_bit, handover, after_bit}
use Rattle.transfer.specs.Moves.{cut_at, Stage, Running, Holding, Ended, Past, Fallen, stage, finishing, released, heed}
use Rattle.transfer.specs.{Moves.unless_fallen, Moves.unless_marked, Moves.move, Moves.decision_in, Ticks.tick}
use Rattle.transfer.specs.Outcome.{Outcome, decided, ended, give, onward, run}
use Rattle.transfer.specs.Parties.{Pulls, under_way, nobody, held, clock, clock_held, sets, offers, Free, finish_tick, free_tick}
use Rattle.transfer.specs.Parties.{Plan, track}
use Rattle.transfer.specs.Parties.{sending_bytes, plan_bytes}
use Rattle.transfer.specs.Types.{Entry, Plain, Command, Limits, Tick, Byte, Phase, Start, FirstHold, Hold, ReadyToSend}
use Rattle.transfer.specs.Types.{ReadyForData, Acknowledgement}
use Rattle.transfer.specs.Types.{Acknowledged, SetUp, Valid, Open, Carried, End, Finished, Decided}
use Rattle.answer.specs.Types.{Fault, Attention, ClockStall, Verdict, Complete, Cut, Broken}
use Rattle.transfer.proofs.{Rows.lines, Rows.unmarked, Rows.going_on, Forward.shows, Plans.sends}
use Rattle.transfer.proofs.Stages.{Told, is_running, is_holding, is_end, is_past_stage, is_decided_stage, told}
use Rattle.transfer.proofs.Shapes.{clock_kept, leaves, stay, one, many, Tidy, Frees, releases, finishes, opens, carries, Shape}

abbrev IsComplete : Verdict → Type 0
IsComplete Complete = Unit {0}
IsComplete Cut = ⊥
IsComplete (Broken f) = ⊥

-- If the outcome is complete, its bytes are as G says.
record Sound (G : List Byte → Type 0) (o : Outcome) : Type 0 where
  prove : IsComplete o.decision.verdict → G o.bytes

dead : (G : List Byte → Type 0) (f : Fault) (now : ℕ) → Sound G (decided f now)
dead G f now = record { prove = λ h. absurd h }

-- A row with a test: what the test says may be used, and the other arm is no concern.
module _ (G : List Byte → Type 0) (n since now : ℕ) (x : Move) (f : Fault) (k : Phase → Outcome) where
  if_below : (now < since + n → Sound G (onward x now k)) → Sound G (onward (if below n since now then x else Stop f) now k)
  unfolding below
  if_below h = at (ltb now (since + n)) refl
    where
      at : (t : Bool) → ltb now (since + n) ≡ t → Sound G (onward (if t then x else Stop f) now k)
      at true e = h (ltb-true now (since + n) e)
      at false e = dead G f now

  unless_below : (since + n ≤ now → Sound G (onward x now k)) → Sound G (onward (if below n since now then Stop f else x) now k)
  unfolding below
  unless_below h = at (ltb now (since + n)) refl
    where
      at : (t : Bool) → ltb now (since + n) ≡ t → Sound G (onward (if t then Stop f else x) now k)
      at true e = dead G f now
      at false e = h (ltb-false now (since + n) e)

  if_up_to : (now ≤ since + n → Sound G (onward x now k)) → Sound G (onward (if up_to n since now then x else Stop f) now k)
  unfolding up_to
  if_up_to h = at (leb now (since + n)) refl
    where
      at : (t : Bool) → leb now (since + n) ≡ t → Sound G (onward (if t then x else Stop f) now k)
      at true e = h (leb-true now (since + n) e)
      at false e = dead G f now

  unless_up_to : (since + n < now → Sound G (onward x now k)) → Sound G (onward (if up_to n since now then Stop f else x) now k)
  unfolding up_to
  unless_up_to h = at (leb now (since + n)) refl
    where
      at : (t : Bool) → leb now (since + n) ≡ t → Sound G (onward (if t then Stop f else x) now k)
      at true e = dead G f now
      at false e = h (leb-false now (since + n) e)

module _ (L : Limits) where
  -- What holds of the tick that a phase meets.
  abbrev InTime : Phase → ℕ → Type 0
  InTime Start now = now ≤ L.presence
  InTime FirstHold now = Unit {0}
  InTime (Hold end_mark value take let_go) now = Unit {0}
  InTime (ReadyToSend some-handed ended) now = Unit {0}
  InTime (ReadyForData some-handed since) now = now ≤ since + L.end_mark_latest
  InTime (Acknowledgement some-handed since ready-tick) now = now ≤ since + L.acknowledge_most
  InTime (Acknowledged some-handed since ready-tick) now = Unit {0}
  InTime (SetUp end_mark value last since bits_left) now = now ≤ since + L.set_up_most
  InTime (Valid end_mark value bit since bits_left) now = now ≤ since + L.valid_most
  InTime (Open end_mark value since let_go) now = now ≤ since + L.take_latest
  InTime (Carried end_mark value since) now = Unit {0}
  InTime (End finish) now = Unit {0}
  InTime (Finished finish) now = Unit {0}
  InTime (Decided fault) now = Unit {0}

  -- The ticks from a phase on are given by tracks of the phase's shape.
  record From (p : Phase) (now : ℕ) (w : List Tick) (l : List Byte) : Type 0 where
    js : List Pulls
    gives : w ≡ map (shows L) js
    shape : Shape L p now js l

  -- One tick j, by which a phase leads to another or stays, or hands a byte over.
  module _ (j : Pulls) {p q : Phase} {now : ℕ} {w : List Tick} where
    comes_first : {l l' : List Byte} → ((js : List Pulls) → Shape L q (suc now) js l → Shape L p now (j ∷ js) l')
        → From q (suc now) w l → From p now (shows L j ∷ w) l'
    comes_first f r = record { js = j ∷ r.js; gives = ap (λ x. shows L j ∷ x) r.gives; shape = f r.js r.shape }

    goes : {o : Outcome} → ((js : List Pulls) (l : List Byte) → Shape L q (suc now) js l → Shape L p now (j ∷ js) l)
        → Sound (From q (suc now) w) o → Sound (From p now (shows L j ∷ w)) o
    goes f s = record { prove = λ h. comes_first (λ js. f js _) (s.prove h) }

    hands : {o : Outcome} (b : Byte) → ((js : List Pulls) (l : List Byte) → Shape L q (suc now) js l → Shape L p now (j ∷ js) (b ∷ l))
        → Sound (From q (suc now) w) o → Sound (From p now (shows L j ∷ w)) (give b o)
    hands b f s = record { prove = λ h. comes_first (λ js. f js _) (s.prove h) }

  abbrev Holds : List Tick → Type 0
  Holds w = (now : ℕ) (p : Phase) → InTime p now → Sound (From p now w) (run L now p w)

  abbrev Row : Phase → (clk dat : Bool) → Type 0
  Row p c d =
      (now : ℕ) (w : List Tick) → Holds w → InTime p now
      → Sound (From p now (going_on L c d ∷ w)) (onward (next L now p c d) now (λ (q : Phase). run L (suc now) q w))

  row_start : (c d : Bool) → Row Start c d
  unfolding next
  row_start false d now w ih i = at (eqb now 0)
    where
      at : (t : Bool) → Sound (From Start now (going_on L false d ∷ w)) (onward (if t then Stop Fault.BadStart
          else Stop Fault.OutOfTurn) now (λ (q : Phase). run L (suc now) q w))
      at true = dead _ _ _
      at false = dead _ _ _
  row_start true true now w ih i = goes clock_held (λ js l h. leaves (i, one h)) (ih (suc now) FirstHold tt)
  row_start true false now w ih i = if_below _ _ _ _ _ _ _ (λ a. goes clock (λ js l h. stay h) (ih (suc now) Start (omega arith)))

  row_first_hold : (c d : Bool) → Row FirstHold c d
  unfolding next
  row_first_hold true true now w ih i = goes clock_held (λ js l h. stay h) (ih (suc now) FirstHold tt)
  row_first_hold false true now w ih i = goes held (λ js l h. leaves (one h)) (ih (suc now) (ReadyToSend false false) tt)
  row_first_hold true false now w ih i = dead _ _ _
  row_first_hold false false now w ih i = dead _ _ _

  row_hold : (end_mark : Bool) (value t g : ℕ) (c d : Bool) → Row (Hold end_mark value t g) c d
  unfolding next
  row_hold end_mark value t g true true now w ih i = goes clock_held (λ js l h. stay h) (ih (suc now) (Hold end_mark value t g) tt)
  row_hold end_mark value t g false true now w ih i =
      unless_below _ _ _ _ _ _ _
      (λ late. hands held (record { value = value; let_go = g; take = t })
      (λ js l h. leaves (record { late = late; others = l; hands = refl; after = releases (one h) }))
      (ih (suc now) (ReadyToSend true end_mark) tt))
  row_hold end_mark value t g true false now w ih i = dead _ _ _
  row_hold end_mark value t g false false now w ih i = dead _ _ _

  row_acknowledgement : (some-handed : Bool) (s ready-tick : ℕ) (c d : Bool) → Row (Acknowledgement some-handed s ready-tick) c d
  unfolding next
  row_acknowledgement some-handed s ready-tick true d now w ih i = dead _ _ _
  row_acknowledgement some-handed s ready-tick false true now w ih i =
      if_below _ _ _ _ _ _ _ (λ a. goes held (λ js l h. stay h) (ih (suc now) (Acknowledgement some-handed s ready-tick) (omega arith)))
  row_acknowledgement some-handed s ready-tick false false now w ih i =
      unless_below _ _ _ _ _ _ _
      (λ a. goes nobody (λ js l h. leaves (a, i, one h)) (ih (suc now) (Acknowledged some-handed now ready-tick) tt))

  row_end : (f : ℕ) (c d : Bool) → Row (End f) c d
  unfolding next
  row_end f true d now w ih i = dead _ _ _
  row_end f false true now w ih i = dead _ _ _
  row_end f false false now w ih i =
      goes nobody (λ js l h. record { count = suc h.count; is = ap (λ x. nobody ∷ x) h.is; bytes = h.bytes })
      (ih (suc now) (End f) tt)

  -- A tick of commands with ATN released: the finish, or one after it.
  abbrev Released : Phase → (clk dat : Bool) → Type 0
  Released p c d =
      (now : ℕ) (w : List Tick) → Holds w
      → Sound (From p now (unmarked false c d ∷ w)) (onward (released L now (stage p) c d) now (λ (q : Phase). run L (suc now) q w))

  module _ (command : L.entry ≡ Command) where
    -- The finish, in a phase that holds the byte b.
    finishes_in : (p : Phase) (b : Byte) (now : ℕ) (w : List Tick) → Holds w
        → (b.take + L.between_bytes ≤ now → (js : List Pulls) (l : List Byte) → Frees L (suc now) js l
        → Shape L p now (finish_tick ∷ js) (b ∷ l))
        → (c d : Bool) → Sound (From p now (unmarked false c d ∷ w))
        (onward (finishing (below L.between_bytes b.take now) now b c d) now (λ (q : Phase). run L (suc now) q w))
    unfolding finishing below
    finishes_in p b now w ih shape c d = by_test (ltb now (b.take + L.between_bytes)) refl c d
      where
        by_test : (t : Bool) → ltb now (b.take + L.between_bytes) ≡ t → (c d : Bool)
            → Sound (From p now (unmarked false c d ∷ w)) (onward (finishing t now b c d) now (λ (q : Phase). run L (suc now) q w))
        by_test false e true true =
            hands finish_tick b (shape (ltb-false now (b.take + L.between_bytes) e)) (ih (suc now) (Finished now) tt)
        by_test false e true false = dead _ _ _
        by_test false e false d = dead _ _ _
        by_test true e c d = dead _ _ _

    -- Any DATA pull after the finish can be the receiver's.
    receives : (x : Free) (f : ℕ) → x.sender ≡ false → (now : ℕ) (w : List Tick) → Holds w
        → Sound (From (Finished f) now (shows L (free_tick x) ∷ w)) (run L (suc now) (Finished f) w)
    receives x f off now w ih =
        goes (free_tick x)
        (λ js l h. record { after = x ∷ h.after; tidy = (off, h.tidy); is = ap (λ y. free_tick x ∷ y) h.is; bytes = h.bytes })
        (ih (suc now) (Finished f) tt)

    released_past : (f : ℕ) (c d : Bool) → Released (Finished f) c d
    released_past f c true now w ih = receives (record { clk = c; sender = false; receiver = true }) f refl now w ih
    released_past f c false now w ih = receives (record { clk = c; sender = false; receiver = false }) f refl now w ih

    released_in_lem : (p : Phase) (c d : Bool) → Released p c d
    released_in_lem (Hold end_mark value t g) c d = λ now w ih.
        finishes_in (Hold end_mark value t g) _ now w ih
        (λ late js l h. leaves (record { late = late; others = l; hands = refl; after = finishes command (one h) })) c d
    released_in_lem (Carried end_mark value s) c d = λ now w ih.
        finishes_in (Carried end_mark value s) _ now w ih
        (λ late js l h. inr (leaves (record { late = omega arith; others = l; hands = refl; after = finishes command (one h) }))) c d
    released_in_lem (Finished f) c d = released_past f c d
    released_in_lem Start c d = λ now w ih. dead _ _ _
    released_in_lem FirstHold c d = λ now w ih. dead _ _ _
    released_in_lem (ReadyToSend some-handed ended) c d = λ now w ih. dead _ _ _
    released_in_lem (ReadyForData some-handed s) c d = λ now w ih. dead _ _ _
    released_in_lem (Acknowledgement some-handed s ready-tick) c d = λ now w ih. dead _ _ _
    released_in_lem (Acknowledged some-handed s ready-tick) c d = λ now w ih. dead _ _ _
    released_in_lem (SetUp end_mark value b s bits_left) c d = λ now w ih. dead _ _ _
    released_in_lem (Valid end_mark value b s bits_left) c d = λ now w ih. dead _ _ _
    released_in_lem (Open end_mark value s l) c d = λ now w ih. dead _ _ _
    released_in_lem (End f) c d = λ now w ih. dead _ _ _
    released_in_lem (Decided f) c d = λ now w ih. dead _ _ _

  row_open : (end_mark : Bool) (value s l : ℕ) (c d : Bool) → Row (Open end_mark value s l) c d
  unfolding next
  row_open end_mark value s l false d now w ih i = dead _ _ _
  row_open end_mark value s l true false now w ih i =
      if_below _ _ _ _ _ _ _ (λ a. goes clock (λ js l h. stay h) (ih (suc now) (Open end_mark value s l) (omega arith)))
  row_open end_mark value s l true true now w ih i =
      goes clock_held (λ js l h. leaves (i, one h)) (ih (suc now) (Hold end_mark value now l) tt)

  module _ (times : Consistent L) where
    row_carried : (end_mark : Bool) (value s : ℕ) (c d : Bool) → Row (Carried end_mark value s) c d
    unfolding next
    row_carried end_mark value s false false now w ih i = dead _ _ _
    row_carried end_mark value s true true now w ih i = record { prove = λ h. on _ ((ih (suc now) (Carried end_mark value s) tt).prove h) }
      where
        by_shape : (l : List Byte) (js : List Pulls) → w ≡ map (shows L) js → Shape L (Carried end_mark value s) (suc now) js l
            → From (Carried end_mark value s) now (going_on L true true ∷ w) l
        by_shape l js e (inl h) = record { js = clock_kept ∷ js; gives = ap (λ x. going_on L true true ∷ x) e; shape = inl (stay h) }
        by_shape l js e (inr h) = record { js = clock_held ∷ js; gives = ap (λ x. going_on L true true ∷ x) e; shape = inr (stay h) }

        on : (l : List Byte) → From (Carried end_mark value s) (suc now) w l
            → From (Carried end_mark value s) now (going_on L true true ∷ w) l
        on l r = by_shape l r.js r.gives r.shape
    row_carried end_mark value s true false now w ih i =
        if_up_to _ _ _ _ _ _ _
        (λ a. goes clock (λ js l h. inl (leaves (a, one h))) (ih (suc now) (Open end_mark value s now) (omega (arith, times.keep_take))))
    row_carried end_mark value s false true now w ih i =
        unless_up_to _ _ _ _ _ _ _
        (λ late. hands held (record { value = value; let_go = s + 1; take = s + 1 })
        (λ js l h. inr (leaves (record { late = late; others = l; hands = refl; after = releases (one h) })))
        (ih (suc now) (ReadyToSend true end_mark) tt))

    row_ready_for_data : (some-handed : Bool) (s : ℕ) (c d : Bool) → Row (ReadyForData some-handed s) c d
    unfolding next
    row_ready_for_data some-handed s true d now w ih i =
        if_below _ _ _ _ _ _ _
        (λ a. goes (sets d) (λ js l h. leaves (inl (a, (d, one h))))
        (ih (suc now) (SetUp false 0 d now 7) (omega (arith, times.set_up_some))))
    row_ready_for_data some-handed s false true now w ih i =
        unless_below _ _ _ _ _ _ _
        (λ a. goes held (λ js l h. leaves (inr (a, i, one h)))
        (ih (suc now) (Acknowledgement some-handed now s) (omega (arith, times.acknowledge_some, times.acknowledge_room))))
    row_ready_for_data some-handed s false false now w ih i =
        if_below _ _ _ _ _ _ _ (λ a. goes nobody (λ js l h. stay h) (ih (suc now) (ReadyForData some-handed s) (omega arith)))

    row_acknowledged : (some-handed : Bool) (s ready-tick : ℕ) (c d : Bool) → Row (Acknowledged some-handed s ready-tick) c d
    unfolding next
    row_acknowledged some-handed s ready-tick false true now w ih i = dead _ _ _
    row_acknowledged some-handed s ready-tick true d now w ih i =
        if_up_to _ _ _ _ _ _ _
        (λ a. goes (sets d) (λ js l h. leaves (a, (d, one h))) (ih (suc now) (SetUp true 0 d now 7) (omega (arith, times.set_up_some))))
    row_acknowledged false s ready-tick false false now w ih i =
        if_below _ _ _ _ _ _ _ (λ a. goes nobody (λ js l h. stay h) (ih (suc now) (Acknowledged false s ready-tick) tt))
    row_acknowledged true s ready-tick false false now w ih i =
        if_below _ _ _ _ _ _ _ (λ a. goes nobody (λ js l h. stay h) (ih (suc now) (Acknowledged true s ready-tick) tt))

    -- The last set-up tick shows b, and the first valid tick too.
    to_valid : (end_mark : Bool) (bits_left value s : ℕ) (b : Bool) (now : ℕ) (w : List Tick) → Holds w
        → InTime (SetUp end_mark value b s bits_left) now
        → Sound (From (SetUp end_mark value b s bits_left) now (going_on L false b ∷ w))
        (run L (suc now) (Valid end_mark value b now bits_left) w)
    to_valid end_mark bits_left value s b now w ih i =
        goes (offers b)
        (λ js l h. record { pulled = []; till = now; rest = offers b ∷ js; ends = omega arith; fits = i; splits = refl; after = one h })
        (ih (suc now) (Valid end_mark value b now bits_left) (omega (arith, times.valid_some, times.valid_room)))

    row_set_up : (end_mark : Bool) (bits_left value s : ℕ) (b c d : Bool) → Row (SetUp end_mark value b s bits_left) c d
    unfolding next same
    row_set_up end_mark bits_left value s b true d now w ih i =
        if_below _ _ _ _ _ _ _
        (λ a.
        goes (sets d)
        (λ js l h.
        record {
          pulled = d ∷ h.pulled;
          till = h.till;
          rest = h.rest;
          ends = omega (arith, h.ends);
          fits = h.fits;
          splits = ap (λ x. sets d ∷ x) h.splits;
          after = h.after;
        })
        (ih (suc now) (SetUp end_mark value d s bits_left) (omega arith)))
    row_set_up end_mark bits_left value s true false true now w ih i = to_valid end_mark bits_left value s true now w ih i
    row_set_up end_mark bits_left value s false false false now w ih i = to_valid end_mark bits_left value s false now w ih i
    row_set_up end_mark bits_left value s true false false now w ih i = dead _ _ _
    row_set_up end_mark bits_left value s false false true now w ih i = dead _ _ _

    on_valid : (end_mark : Bool) (bits_left value s : ℕ) (b : Bool) (now : ℕ) (w : List Tick) → Holds w
        → InTime (Valid end_mark value b s bits_left) now
        → Sound (From (Valid end_mark value b s bits_left) now (going_on L false b ∷ w))
        (onward (if below L.valid_most s now then Go (Valid end_mark value b s bits_left)
        else Stop ClockStall) now (λ (q : Phase). run L (suc now) q w))
    on_valid end_mark bits_left value s b now w ih i =
        if_below _ _ _ _ _ _ _ (λ a. goes (offers b) (λ js l h. stay h) (ih (suc now) (Valid end_mark value b s bits_left) (omega arith)))

    row_valid : (end_mark : Bool) (bits_left value s : ℕ) (b c d : Bool) → Row (Valid end_mark value b s bits_left) c d
    unfolding next same after_bit handover
    row_valid end_mark bits_left value s true false true now w ih i = on_valid end_mark bits_left value s true now w ih i
    row_valid end_mark bits_left value s false false false now w ih i = on_valid end_mark bits_left value s false now w ih i
    row_valid end_mark bits_left value s true false false now w ih i = dead _ _ _
    row_valid end_mark bits_left value s false false true now w ih i = dead _ _ _
    row_valid end_mark (suc bits_left) value s b true d now w ih i =
        unless_below _ _ _ _ _ _ _
        (λ a. goes (sets d) (λ js l h. leaves (a, i, (d, one h)))
        (ih (suc now) (SetUp end_mark (with_bit value b) d now bits_left) (omega (arith, times.set_up_some))))
    row_valid end_mark zero value s b true false now w ih i =
        unless_below _ _ _ _ _ _ _
        (λ a. goes clock (λ js l h. leaves (a, i, opens (one h)))
        (ih (suc now) (Open end_mark (with_bit value b) now now) (omega (arith, times.keep_take))))
    row_valid end_mark zero value s true true true now w ih i =
        unless_below _ _ _ _ _ _ _
        (λ a. goes clock_kept (λ js l h. leaves (a, i, carries refl (one h)))
        (ih (suc now) (Carried end_mark (with_bit value true) now) tt))
    row_valid end_mark zero value s false true true now w ih i = unless_below _ _ _ _ _ _ _ (λ a. dead _ _ _)

    row_ready_to_send : (some-handed ended c d : Bool) → Row (ReadyToSend some-handed ended) c d
    unfolding next
    row_ready_to_send some-handed ended true d now w ih i = dead _ _ _
    row_ready_to_send some-handed ended false true now w ih i =
        goes held (λ js l h. stay h) (ih (suc now) (ReadyToSend some-handed ended) tt)
    row_ready_to_send some-handed true false false now w ih i = goes nobody (λ js l h. leaves (one h)) (ih (suc now) (End now) tt)
    row_ready_to_send some-handed false false false now w ih i =
        goes nobody (λ js l h. leaves (sends L times now (nobody ∷ js) l (one h)))
        (ih (suc now) (ReadyForData some-handed now) (omega (arith, times.ready_for_data)))

    row : (p : Phase) (c d : Bool) → Row p c d
    unfolding next
    row Start c d = row_start c d
    row FirstHold c d = row_first_hold c d
    row (Hold end_mark value t g) c d = row_hold end_mark value t g c d
    row (ReadyToSend some-handed ended) c d = row_ready_to_send some-handed ended c d
    row (ReadyForData some-handed s) c d = row_ready_for_data some-handed s c d
    row (Acknowledgement some-handed s ready-tick) c d = row_acknowledgement some-handed s ready-tick c d
    row (Acknowledged some-handed s ready-tick) c d = row_acknowledged some-handed s ready-tick c d
    row (SetUp end_mark value b s bits_left) c d = row_set_up end_mark bits_left value s b c d
    row (Valid end_mark value b s bits_left) c d = row_valid end_mark bits_left value s b c d
    row (Open end_mark value s l) c d = row_open end_mark value s l c d
    row (Carried end_mark value s) c d = row_carried end_mark value s c d
    row (End f) c d = row_end f c d
    row (Finished f) c d = λ now w ih i. dead _ _ _
    row (Decided f) c d = λ now w ih i. dead _ _ _

    cut : (p : Phase) (now : ℕ) → Sound (From p now []) (record { decision = cut_at now; bytes = [] })
    cut p now = record { prove = λ h. absurd h }

    runs_out : (p : Phase) (now : ℕ) → Sound (From p now []) (ended p now)
    runs_out p now = by_stage (told p)
      where
        by_stage : Told p → Sound (From p now []) (ended p now)
        by_stage (is_running r) =
            subst⁻¹ (λ (g : Stage). Sound (From p now []) (record { decision = decision_in g now; bytes = [] })) r (cut _ _)
        by_stage (is_holding byte r) =
            subst⁻¹ (λ (g : Stage). Sound (From p now []) (record { decision = decision_in g now; bytes = [] })) r (cut _ _)
        by_stage (is_end finish r) =
            subst⁻¹ (λ (q : Phase). Sound (From q now []) (ended q now)) r
            (record { prove = λ h. record { js = []; gives = refl; shape = record { count = 0; is = refl; bytes = refl } } })
        by_stage (is_past_stage finish r) =
            subst⁻¹ (λ (q : Phase). Sound (From q now []) (ended q now)) r
            (record { prove = λ h. record { js = []; gives = refl; shape = record { after = []; tidy = tt; is = refl; bytes = refl } } })
        by_stage (is_decided_stage fault r) = subst⁻¹ (λ (q : Phase). Sound (From q now []) (ended q now)) r (dead _ _ _)

    one_more : (p : Phase) (now : ℕ) (w : List Tick) (m a c d : Bool) → Holds w → InTime p now
        → Sound (From p now (tick m (lines a c d) ∷ w)) (run L now p (tick m (lines a c d) ∷ w))
    unfolding run move
    one_more p now w m a c d ih i = by_stage (stage p) _ (by_mark m)
      where
        Reads : (m atn : Bool) → Move → Type 0
        Reads m atn does = Sound (From p now (tick m (lines atn c d) ∷ w)) (onward does now (λ (q : Phase). run L (suc now) q w))

        heeded : Entry → (atn : Bool) → Move
        heeded entry atn = heed entry atn (Stop Attention) (next L now p c d) (released L now (stage p) c d)

        by_entry : (entry : Entry) → L.entry ≡ entry → (atn : Bool) → Reads false atn (heeded entry atn)
        by_entry Plain e true = dead _ _ _
        by_entry Plain e false = subst (λ (entry : Entry). Reads false (under_way entry) (next L now p c d)) e (row p c d now w ih i)
        by_entry Command e true = subst (λ (entry : Entry). Reads false (under_way entry) (next L now p c d)) e (row p c d now w ih i)
        by_entry Command e false = released_in_lem e p c d now w ih

        by_mark : (m : Bool) → Reads m a (unless_marked m (heeded L.entry a))
        by_mark true = dead _ _ _
        by_mark false = by_entry L.entry refl a

        by_stage : (g : Stage) (does : Move) → Reads m a does → Reads m a (unless_fallen g does)
        by_stage Running does here = here
        by_stage (Holding byte) does here = here
        by_stage (Ended finish) does here = here
        by_stage (Past finish) does here = here
        by_stage (Fallen fault) does here = dead _ _ _

    sound : (w : List Tick) → Holds w
    unfolding run
    sound [] now p i = runs_out p now
    sound (t ∷ w) now p i = one_more p now w t.marked t.lines.atn t.lines.clk t.lines.«data» (sound w) i

    -- A plan that keeps the rules gives the ticks, and its bytes and ticks are these.
    pub record Planned (w : List Tick) (l : List Byte) : Type 0 where
      pub plan : Plan
      pub rules : PlanRules L plan
      pub tidy : Tidy plan.sending
      pub gives : w ≡ map (shows L) (track plan)
      pub bytes : l ≡ plan_bytes plan

    planned : (w : List Tick) (l : List Byte) → From Start 0 w l → Planned w l
    planned w l f =
        let a = f.shape in
        let h = many a.after.1 in
        let x = many h.after in
        let s = x.after in
        record {
          plan = record { found = a.count; hold = h.count; wait = x.count; sending = s.plan };
          rules = record {
            first_take = record { in_time = omega (arith, a.ends, a.after.0) };
            first_release = record { after_take = h.some };
            first_let_go = record { later = x.some };
            sending = s.rules;
          };
          tidy = s.tidy;
          gives =
              f.gives
              ∙ ap (map (shows L))
              (a.splits
              ∙ ap (λ y. replicate a.count clock ++ y)
              (h.splits
              ∙ ap (λ y. replicate h.count clock_held ++ y) (x.splits ∙ ap (λ y. replicate x.count held ++ y) s.is)));
          bytes = s.bytes ∙ ap (λ (e : ℕ). sending_bytes e s.plan) (omega (arith, a.ends, h.ends, x.ends));
        }

    -- A complete run is given by a plan whose bytes and ticks are the judge's.
    pub back : (w : List Tick) → (run L 0 Start w).decision.verdict ≡ Complete → Planned w (run L 0 Start w).bytes
    back w e = planned w _ ((sound w 0 Start (omega arith)).prove (subst⁻¹ IsComplete e tt))
