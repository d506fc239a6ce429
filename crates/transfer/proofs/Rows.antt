-- One walk over the rows of the table: how far each has come with its byte, and which lines it settles in. A row that goes on leads
-- to a phase that its own lines keep, so that no row leads to `Decided`, and it comes one place further at most, not at all where
-- the lines stay. Where it leads to the end, the finish tick is the tick itself or the one that stood. A byte that it hands over is
-- the one that the phase holds, and was taken by then. The same of the finish of commands.
-- Assumes nothing.
use Rattle.std.specs.Prelude.{ℕ, zero, suc, ◌+◌, ◌-◌, ◌*◌, ◌≤◌, ◌<◌, Bool, true, false, not, ◌&&◌, ◌≡◌, eqb, ltb, leb, if◌then◌else◌}
use native.Mathlib.Omega.{arith}
use mathlib.Core.Path.{refl, ap}
use borrow.Author.Tests.{ltb-false, leb-false}
use Rattle.transfer.specs.Phases.{below, up_to, Move, Go, Hand, Stop, next, same, handover, after_bit}
use Rattle.transfer.specs.Moves.{Stage, Running, Holding, Ended, Past, Fallen, stage, finishing, released, heed, unless_fallen}
use Rattle.transfer.specs.{Moves.unless_marked, Moves.move, Moves.held_byte, Parties.under_way, Ticks.tick}
use Rattle.transfer.specs.Types.{Entry, Plain, Command, Limits, Lines, Tick, Byte, Phase, Start, FirstHold, Hold, ReadyToSend}
use Rattle.transfer.specs.Types.{ReadyForData, Acknowledgement}
use Rattle.transfer.specs.Types.{Acknowledged, SetUp, Valid, Open, Carried, End, Finished, Decided}
use Rattle.answer.specs.Types.{Fault, Attention}

-- How far the reading of a byte has come: 19 places make a byte.
abbrev pub place : Phase → ℕ
place Start = 0
place FirstHold = 0
place (Hold end_mark value take let_go) = 18
place (ReadyToSend some-handed ended) = 0
place (ReadyForData some-handed since) = 1
place (Acknowledgement some-handed since ready-tick) = 1
place (Acknowledged some-handed since ready-tick) = 1
place (SetUp end_mark value last since bits_left) = 16 - 2 * bits_left
place (Valid end_mark value bit since bits_left) = 17 - 2 * bits_left
place (Open end_mark value since let_go) = 18
place (Carried end_mark value since) = 18
place (End finish) = 0
place (Finished finish) = 0
place (Decided fault) = 0

-- CLK and DATA in which a phase stays.
abbrev pub rests : Phase → (clk dat : Bool) → Bool
rests Start c d = c && not d
rests FirstHold c d = c && d
rests (Hold end_mark value take let_go) c d = c && d
rests (ReadyToSend some-handed ended) c d = not c && d
rests (ReadyForData some-handed since) c d = not c && not d
rests (Acknowledgement some-handed since ready-tick) c d = not c && d
rests (Acknowledged some-handed since ready-tick) c d = not c && not d
rests (SetUp end_mark value last since bits_left) c d = c && same last d
rests (Valid end_mark value bit since bits_left) c d = not c && same bit d
rests (Open end_mark value since let_go) c d = c && not d
rests (Carried end_mark value since) c d = c && d
rests (End finish) c d = not c && not d
rests (Finished finish) c d = false
rests (Decided fault) c d = false

-- Whether commands are past their finish.
abbrev pub is_past : Stage → Bool
is_past Running = false
is_past (Holding byte) = false
is_past (Ended finish) = false
is_past (Past finish) = true
is_past (Fallen fault) = false

-- The lines in which a phase stays.
abbrev pub settled : Entry → Lines → Phase → Bool
settled entry l p = heed entry l.atn false (rests p l.clk l.«data») (is_past (stage p))

abbrev pub lines : (atn clk dat : Bool) → Lines
lines a c d = record { atn = a; clk = c; «data» = d }

-- A tick that shows them, with no ticks lost before it.
abbrev pub unmarked : (atn clk dat : Bool) → Tick
unmarked a c d = tick false (lines a c d)

-- With ATN as it is while a transfer goes on.
abbrev pub going_on : Limits → (clk dat : Bool) → Tick
going_on L c d = unmarked (under_way L.entry) c d

-- DATA that stays is the same.
pub stays_same : (d : Bool) → same d d ≡ true
unfolding same
stays_same true = refl
stays_same false = refl

-- A place further at most, none where the lines stay.
abbrev pub further : Bool → ℕ
further true = 0
further false = 1

-- The tick after the finish tick, for the end; and the latest that a row can lead to at tick `now`.
abbrev pub finished_in : Stage → ℕ
finished_in Running = 0
finished_in (Holding byte) = 0
finished_in (Ended finish) = suc finish
finished_in (Past finish) = suc finish
finished_in (Fallen fault) = 0

abbrev pub latest_in : Stage → (now : ℕ) → ℕ
latest_in Running now = suc now
latest_in (Holding byte) now = suc now
latest_in (Ended finish) now = suc finish
latest_in (Past finish) now = suc finish
latest_in (Fallen fault) now = suc now

abbrev pub finished : Phase → ℕ
finished p = finished_in (stage p)

abbrev pub latest : Phase → (now : ℕ) → ℕ
latest p now = latest_in (stage p) now

-- The highest place that a tick can lead to that keeps those phases in which its lines stay.
abbrev pub most : Phase → (stays : Phase → Bool) → ℕ
most p stays = place p + further (stays p)

-- What a move does at tick `now`, in the phase p and by lines in which `stays` says which phases stay.
pub data Climbs (now : ℕ) (p : Phase) (stays : Phase → Bool) : Move → Type 0 where
  stops : {f : Fault} → Climbs now p stays (Stop f)
  goes : {q : Phase} → place q ≤ most p stays → finished q ≤ latest p now → stays q ≡ true → Climbs now p stays (Go q)
  hands : {b : Byte} {q : Phase} → 19 + place q ≤ most p stays → finished q ≤ latest p now → stays q ≡ true
      → b ≡ held_byte p → b.take ≤ now → Climbs now p stays (Hand b q)

module _ {now : ℕ} {p : Phase} {stays : Phase → Bool} where
  on : (q : Phase) → place q ≤ most p stays → finished q ≤ latest p now → stays q ≡ true → Climbs now p stays (Go q)
  on q a f e = goes a f e

  over : (q : Phase) → 19 + place q ≤ most p stays → finished q ≤ latest p now → stays q ≡ true
      → (held_byte p).take ≤ now → Climbs now p stays (Hand (held_byte p) q)
  over q a f e t = hands a f e refl t

  either : (t : Bool) (x y : Move) → Climbs now p stays x → Climbs now p stays y → Climbs now p stays (if t then x else y)
  either true x y a b = a
  either false x y a b = b

  if_below : (n s t : ℕ) (x y : Move) → Climbs now p stays x → Climbs now p stays y → Climbs now p stays (if below n s t then x else y)
  if_below n s t x y a b = either (below n s t) x y a b

  if_up_to : (n s t : ℕ) (x y : Move) → Climbs now p stays x → Climbs now p stays y → Climbs now p stays (if up_to n s t then x else y)
  if_up_to n s t x y a b = either (up_to n s t) x y a b

  unless_below : (n s : ℕ) (x y : Move) → Climbs now p stays x → (s + n ≤ now → Climbs now p stays y)
      → Climbs now p stays (if below n s now then x else y)
  unfolding below
  unless_below n s x y a b = by_test (ltb now (s + n)) refl
    where
      by_test : (t : Bool) → ltb now (s + n) ≡ t → Climbs now p stays (if t then x else y)
      by_test true e = a
      by_test false e = b (ltb-false now (s + n) e)

  unless_up_to : (n s : ℕ) (x y : Move) → Climbs now p stays x → (s + n < now → Climbs now p stays y)
      → Climbs now p stays (if up_to n s now then x else y)
  unfolding up_to
  unless_up_to n s x y a b = by_test (leb now (s + n)) refl
    where
      by_test : (t : Bool) → leb now (s + n) ≡ t → Climbs now p stays (if t then x else y)
      by_test true e = a
      by_test false e = b (leb-false now (s + n) e)

  if_same : (a b : Bool) (x y : Move) → (same a b ≡ true → Climbs now p stays x) → Climbs now p stays y
      → Climbs now p stays (if same a b then x else y)
  if_same a b x y f g = by_test (same a b) refl
    where
      by_test : (t : Bool) → same a b ≡ t → Climbs now p stays (if t then x else y)
      by_test true e = f e
      by_test false e = g

module _ (L : Limits) where
  climbs_row : (now : ℕ) (p : Phase) (c d : Bool) → Climbs now p (λ q. rests q c d) (next L now p c d)
  unfolding next handover after_bit
  climbs_row now Start false d = either (eqb now 0) _ _ stops stops
  climbs_row now Start true true = on _ (omega arith) (omega arith) refl
  climbs_row now Start true false = if_below _ _ _ _ _ (on _ (omega arith) (omega arith) refl) stops
  climbs_row now FirstHold true true = on _ (omega arith) (omega arith) refl
  climbs_row now FirstHold false true = on _ (omega arith) (omega arith) refl
  climbs_row now FirstHold true false = stops
  climbs_row now FirstHold false false = stops
  climbs_row now (Hold end_mark value take let_go) true true = on _ (omega arith) (omega arith) refl
  climbs_row now (Hold end_mark value take let_go) false true =
      unless_below _ _ _ _ stops (λ h. over _ (omega arith) (omega arith) refl (omega arith))
  climbs_row now (Hold end_mark value take let_go) true false = stops
  climbs_row now (Hold end_mark value take let_go) false false = stops
  climbs_row now (ReadyToSend some-handed ended) false true = on _ (omega arith) (omega arith) refl
  climbs_row now (ReadyToSend some-handed false) false false = on _ (omega arith) (omega arith) refl
  climbs_row now (ReadyToSend some-handed true) false false = on _ (omega arith) (omega arith) refl
  climbs_row now (ReadyToSend some-handed ended) true d = stops
  climbs_row now (ReadyForData some-handed since) true d = if_below _ _ _ _ _ (on _ (omega arith) (omega arith) (stays_same d)) stops
  climbs_row now (ReadyForData some-handed since) false true = if_below _ _ _ _ _ stops (on _ (omega arith) (omega arith) refl)
  climbs_row now (ReadyForData some-handed since) false false = if_below _ _ _ _ _ (on _ (omega arith) (omega arith) refl) stops
  climbs_row now (Acknowledgement some-handed since ready-tick) true d = stops
  climbs_row now (Acknowledgement some-handed since ready-tick) false true =
      if_below _ _ _ _ _ (on _ (omega arith) (omega arith) refl) stops
  climbs_row now (Acknowledgement some-handed since ready-tick) false false =
      if_below _ _ _ _ _ stops (on _ (omega arith) (omega arith) refl)
  climbs_row now (Acknowledged some-handed since ready-tick) false true = stops
  climbs_row now (Acknowledged some-handed since ready-tick) true d =
      if_up_to _ _ _ _ _ (on _ (omega arith) (omega arith) (stays_same d)) stops
  climbs_row now (Acknowledged some-handed since ready-tick) false false =
      if_below _ _ _ _ _ (on _ (omega arith) (omega arith) refl) (either some-handed _ _ stops stops)
  climbs_row now (SetUp end_mark value last since bits_left) true d =
      if_below _ _ _ _ _ (on _ (omega arith) (omega arith) (stays_same d)) stops
  climbs_row now (SetUp end_mark value last since bits_left) false d =
      if_same _ _ _ _ (λ e. on _ (omega arith) (omega arith) (stays_same d)) stops
  climbs_row now (Valid end_mark value bit since bits_left) false d =
      if_same _ _ _ _ (λ e. if_below _ _ _ _ _ (on _ (omega arith) (omega arith) e) stops) stops
  climbs_row now (Valid end_mark value bit since (suc bits_left)) true d =
      if_below _ _ _ _ _ stops (on _ (omega arith) (omega arith) (stays_same d))
  climbs_row now (Valid end_mark value bit since zero) true false = if_below _ _ _ _ _ stops (on _ (omega arith) (omega arith) refl)
  climbs_row now (Valid end_mark value true since zero) true true = if_below _ _ _ _ _ stops (on _ (omega arith) (omega arith) refl)
  climbs_row now (Valid end_mark value false since zero) true true = if_below _ _ _ _ _ stops stops
  climbs_row now (Open end_mark value since let_go) false d = stops
  climbs_row now (Open end_mark value since let_go) true false = if_below _ _ _ _ _ (on _ (omega arith) (omega arith) refl) stops
  climbs_row now (Open end_mark value since let_go) true true = on _ (omega arith) (omega arith) refl
  climbs_row now (Carried end_mark value since) false false = stops
  climbs_row now (Carried end_mark value since) true true = on _ (omega arith) (omega arith) refl
  climbs_row now (Carried end_mark value since) true false = if_up_to _ _ _ _ _ (on _ (omega arith) (omega arith) refl) stops
  climbs_row now (Carried end_mark value since) false true =
      unless_up_to _ _ _ _ stops (λ h. over _ (omega arith) (omega arith) refl (omega arith))
  climbs_row now (End finish) false false = on _ (omega arith) (omega arith) refl
  climbs_row now (End finish) false true = stops
  climbs_row now (End finish) true d = stops
  climbs_row now (Finished finish) c d = stops
  climbs_row now (Decided fault) c d = stops

  -- The finish of commands.
  climbs_finish : (now : ℕ) (p : Phase) (c d : Bool) → place p ≡ 18 → is_past (stage p) ≡ false → latest p now ≡ suc now
      → Climbs now p (λ q. is_past (stage q)) (finishing (below L.between_bytes (held_byte p).take now) now (held_byte p) c d)
  unfolding finishing below
  climbs_finish now p c d e s f = by_test (ltb now ((held_byte p).take + L.between_bytes)) refl c d
    where
      by_test : (t : Bool) → ltb now ((held_byte p).take + L.between_bytes) ≡ t → (c d : Bool)
          → Climbs now p (λ q. is_past (stage q)) (finishing t now (held_byte p) c d)
      by_test false h true true =
          over _ (omega (arith, ap further s)) (omega arith) refl (omega (arith, ltb-false now ((held_byte p).take + L.between_bytes) h))
      by_test false h true false = stops
      by_test false h false d = stops
      by_test true h c d = stops

  climbs_released : (now : ℕ) (p : Phase) (c d : Bool) → Climbs now p (λ q. is_past (stage q)) (released L now (stage p) c d)
  climbs_released now (Hold end_mark value take let_go) c d =
      climbs_finish now (Hold end_mark value take let_go) c d refl refl refl
  climbs_released now (Carried end_mark value since) c d =
      climbs_finish now (Carried end_mark value since) c d refl refl refl
  climbs_released now (Finished finish) c d = on _ (omega arith) (omega arith) refl
  climbs_released now Start c d = stops
  climbs_released now FirstHold c d = stops
  climbs_released now (ReadyToSend some-handed ended) c d = stops
  climbs_released now (ReadyForData some-handed since) c d = stops
  climbs_released now (Acknowledgement some-handed since ready-tick) c d = stops
  climbs_released now (Acknowledged some-handed since ready-tick) c d = stops
  climbs_released now (SetUp end_mark value last since bits_left) c d = stops
  climbs_released now (Valid end_mark value bit since bits_left) c d = stops
  climbs_released now (Open end_mark value since let_go) c d = stops
  climbs_released now (End finish) c d = stops
  climbs_released now (Decided fault) c d = stops

  -- A whole tick.
  pub climbs : (now : ℕ) (p : Phase) (t : Tick) → Climbs now p (settled L.entry t.lines) (move L now p t)
  unfolding move
  climbs now p t =
      by_stage (stage p) (by_mark t.marked (heeded L.entry t.lines.atn t.lines.clk t.lines.«data»))
    where
      by_mark : (marked : Bool) {stays : Phase → Bool} {does : Move} → Climbs now p stays does
          → Climbs now p stays (unless_marked marked does)
      by_mark true here = stops
      by_mark false here = here

      heeded : (entry : Entry) (a c d : Bool)
          → Climbs now p (settled entry (lines a c d)) (heed entry a (Stop Attention) (next L now p c d) (released L now (stage p) c d))
      heeded Plain true c d = stops
      heeded Plain false c d = climbs_row now p c d
      heeded Command true c d = climbs_row now p c d
      heeded Command false c d = climbs_released now p c d

      by_stage : (g : Stage) {stays : Phase → Bool} {does : Move} → Climbs now p stays does → Climbs now p stays (unless_fallen g does)
      by_stage Running here = here
      by_stage (Holding byte) here = here
      by_stage (Ended finish) here = here
      by_stage (Past finish) here = here
      by_stage (Fallen fault) here = stops
