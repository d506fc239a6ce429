-- A pair's recording is complete: the run goes along a plan, phase by phase. Assumes nothing.
use Rattle.std.specs.Prelude.{ℕ, zero, suc, ◌+◌, ◌≤◌, ◌<◌, Bool, true, false, ◌||◌, List, [], ◌∷◌, ◌++◌, map, length, replicate, ◌≡◌}
use Rattle.std.specs.Prelude.{if◌then◌else◌}
use native.Mathlib.Omega.{arith}
use mathlib.Core.List.{append-nil}
use mathlib.Core.Path.{refl, sym, ap, ◌∙◌, subst, subst⁻¹}
use borrow.Author.Tests.{lt-ltb, le-ltb, le-leb, lt-leb}
use Rattle.transfer.specs.{Moves.Stage, Moves.Holding, Moves.stage, Moves.has_fallen, Moves.is_decided, Moves.finishing}
use Rattle.transfer.specs.{Moves.released, Moves.held_byte, Pair.SameOrLater}
use Rattle.transfer.specs.{Demand3.Consistent}
use Rattle.transfer.specs.Phases.{below, up_to, Move, Go, Hand, next, same, with_bit, handover, after_bit}
use Rattle.transfer.specs.Outcome.{Outcome, ended, give, onward, run}
use Rattle.transfer.specs.Parties.{Pulls, pulls, past, nobody, held, clock, clock_held, sets, offers, Bit, Frame, Free}
use Rattle.transfer.specs.Parties.{Sending, more, last, last_command, Plan, finish_tick, free_tick}
use Rattle.transfer.specs.Parties.{bits_track, frame_track, sending_track, track, bits_ticks}
use Rattle.transfer.specs.Parties.{byte_of, after_frame, sending_bytes, plan_bytes}
use Rattle.transfer.specs.Rules.{last_of, FirstTakeRule, FirstReleaseRule, LetGoRule, EndMarkRule, BitRule, BitRules, FrameRules}
use Rattle.transfer.specs.Rules.{SendingRules, PlanRules}
use Rattle.transfer.specs.Types.{Command, Limits, Tick, Byte, Phase, Start, FirstHold, Hold, ReadyToSend, ReadyForData}
use Rattle.transfer.specs.Types.{Acknowledgement}
use Rattle.transfer.specs.Types.{Acknowledged, SetUp, Valid, Open, Carried, End, Finished}
use Rattle.answer.specs.Types.{Complete}
use Rattle.transfer.proofs.{Rows.unmarked, Rows.going_on, Stages.under_way_move, Stages.released_move, ByteValue.taken_in}
use Rattle.transfer.proofs.{ByteValue.last_bit, ByteValue.eight_bits}
use Rattle.transfer.proofs.HandoverTicks.{is_positive, less, handover_ticks, frame_ticks, frame_ticks_lem}

-- What the bus shows of one tick of both tracks.
abbrev pub shows : Limits → Pulls → Tick
shows L (pulls c s r) = going_on L c (r || s)
shows L (past c s r) = unmarked false c (r || s)

-- A row's test that holds, and one that fails.
module _ (n since now : ℕ) (x y : Move) where
  is_below : now < since + n → (if below n since now then x else y) ≡ x
  unfolding below
  is_below h = ap (λ t. if t then x else y) (lt-ltb now (since + n) h)

  not_below : since + n ≤ now → (if below n since now then x else y) ≡ y
  unfolding below
  not_below h = ap (λ t. if t then x else y) (le-ltb now (since + n) h)

  is_up_to : now ≤ since + n → (if up_to n since now then x else y) ≡ x
  unfolding up_to
  is_up_to h = ap (λ t. if t then x else y) (le-leb now (since + n) h)

  not_up_to : since + n < now → (if up_to n since now then x else y) ≡ y
  unfolding up_to
  not_up_to h = ap (λ t. if t then x else y) (lt-leb now (since + n) h)

is_same : (b : Bool) (x y : Move) → (if same b b then x else y) ≡ x
unfolding same
is_same true x y = refl
is_same false x y = refl

-- Complete, with the bytes of `other` and no tick later than its.
pub record CompleteBy (o : Outcome) (other : List Byte) : Type 0 where
  pub verdict : o.decision.verdict ≡ Complete
  pub ledger : SameOrLater o.bytes other

-- o hands a byte over, of the value of b and with ticks no later, and goes on as r.
record Hands (o r : Outcome) (b : Byte) : Type 0 where
  let_go : ℕ
  take : ℕ
  is : o ≡ give (record { value = b.value; let_go = let_go; take = take }) r
  let_go_by : let_go ≤ b.let_go
  take_by : take ≤ b.take

then_hands : {o o' r : Outcome} {b : Byte} → o ≡ o' → Hands o' r b → Hands o r b
then_hands e h =
    record { let_go = h.let_go; take = h.take; is = e ∙ h.is; let_go_by = h.let_go_by; take_by = h.take_by }

module _ (L : Limits) where
  -- One tick.
  one_tick_lem : (now : ℕ) (p : Phase) (x : Move) (c d : Bool) (w : List Tick) → next L now p c d ≡ x
      → run L now p (going_on L c d ∷ w) ≡ onward x now (λ (q : Phase). run L (suc now) q w)
  unfolding run
  one_tick_lem now p x c d w e = ap (λ (y : Move). onward y now (λ (q : Phase). run L (suc now) q w)) (under_way_move L now p c d ∙ e)

  step : (now : ℕ) (p q : Phase) (c d : Bool) (w : List Tick) → next L now p c d ≡ Go q
      → run L now p (going_on L c d ∷ w) ≡ run L (suc now) q w
  step now p q c d w e = one_tick_lem now p (Go q) c d w e

  at_tick : (p : Phase) (w : List Tick) {a b : ℕ} → a ≡ b → run L a p w ≡ run L b p w
  at_tick p w e = ap (λ (t : ℕ). run L t p w) e

  -- k equal ticks in which a phase stays; k equal ticks of which the first leads into a phase.
  stays : (p : Phase) (c s r : Bool) (k now : ℕ) (js : List Pulls) → ((i : ℕ) → now ≤ i → i < now + k → next L i p c (r || s) ≡ Go p)
      → run L now p (map (shows L) (replicate k (pulls c s r) ++ js)) ≡ run L (now + k) p (map (shows L) js)
  stays p c s r zero now js h = at_tick p (map (shows L) js) (omega arith)
  stays p c s r (suc k) now js h =
      step now p p c (r || s) _ (h now (omega arith) (omega arith))
      ∙ stays p c s r k (suc now) js (λ i a b. h i (omega arith) (omega arith))
      ∙ at_tick p (map (shows L) js) (omega arith)

  enters : (p q : Phase) (c s r : Bool) (k now : ℕ) (js : List Pulls) → 1 ≤ k → next L now p c (r || s) ≡ Go q
      → ((i : ℕ) → now < i → i < now + k → next L i q c (r || s) ≡ Go q)
      → run L now p (map (shows L) (replicate k (pulls c s r) ++ js)) ≡ run L (now + k) q (map (shows L) js)
  enters p q c s r zero now js one e h = absurd (omega arith)
  enters p q c s r (suc k) now js one e h =
      step now p q c (r || s) _ e
      ∙ stays q c s r k (suc now) js (λ i a b. h i (omega arith) (omega arith))
      ∙ at_tick q (map (shows L) js) (omega arith)

  -- A, B and C, up to the first letting go.
  along_start : (found hold wait : ℕ) (js : List Pulls) → FirstTakeRule L found → FirstReleaseRule L hold → LetGoRule L wait
      → run L 0 Start (map (shows L) (replicate found clock ++ (replicate hold clock_held ++ (replicate wait held ++ js))))
      ≡ run L (found + hold + wait) (ReadyToSend false false) (map (shows L) js)
  unfolding next
  along_start found hold wait js take release let_go =
      stays Start true false false found 0 _ (λ i x y. is_below _ _ _ _ _ (omega arith))
      ∙ at_tick Start _ (omega arith)
      ∙ enters Start FirstHold true false true hold found _ release.after_take refl (λ i x y. refl)
      ∙ enters FirstHold (ReadyToSend false false) false false true wait (found + hold) js let_go.later refl (λ i x y. refl)

  -- A set-up's further ticks.
  along_set_up : (end_mark : Bool) (bits_left value s now : ℕ) (d : Bool) (ds : List Bool) (js : List Pulls)
      → now + length ds ≤ s + L.set_up_most
      → run L now (SetUp end_mark value d s bits_left) (map (shows L) (map sets ds ++ js))
      ≡ run L (now + length ds) (SetUp end_mark value (last_of d ds) s bits_left) (map (shows L) js)
  unfolding next
  along_set_up end_mark bits_left value s now d [] js h = at_tick _ _ (omega arith)
  along_set_up end_mark bits_left value s now d (e ∷ ds) js h =
      step now (SetUp end_mark value d s bits_left) (SetUp end_mark value e s bits_left) true e _ (is_below _ _ _ _ _ (omega arith))
      ∙ along_set_up end_mark bits_left value s (suc now) e ds js (omega arith)
      ∙ at_tick _ _ (omega arith)

  -- One bit, from the tick after its first set-up tick `s` to its last valid tick.
  along_bit : (end_mark : Bool) (bits_left value s : ℕ) (x : Bit) (js : List Pulls) → 1 ≤ x.valid → BitRule L x
      → run L (suc s) (SetUp end_mark value x.first s bits_left)
      (map (shows L) (map sets x.others ++ (replicate x.valid (offers x.bit) ++ js)))
      ≡ run L (s + suc (length x.others + x.valid)) (Valid end_mark value x.bit (suc s + length x.others) bits_left)
      (map (shows L) js)
  unfolding next
  along_bit end_mark bits_left value s x js one rules =
      along_set_up end_mark bits_left value s (suc s) x.first x.others _ (omega (arith, rules.set_up))
      ∙ ap (λ (b : Bool). run L (suc s + length x.others) (SetUp end_mark value b s bits_left)
      (map (shows L) (replicate x.valid (offers x.bit) ++ js))) (sym rules.steady)
      ∙ enters (SetUp end_mark value x.bit s bits_left) (Valid end_mark value x.bit (suc s + length x.others) bits_left)
      false x.bit false x.valid
      (suc s + length x.others) js one (is_same x.bit _ _)
      (λ i a b. is_same x.bit _ _ ∙ is_below _ _ _ _ _ (omega (arith, rules.valid_most)))
      ∙ at_tick _ _ (omega arith)

  -- What follows the hold of a byte, or its carried handover, at tick `at`: the byte is handed over, and then r.
  record Leaves (end_mark : Bool) (js : List Pulls) (at : ℕ) (r : Outcome) : Type 0 where
    from_hold : (value t l : ℕ) → t + L.between_bytes ≤ at
        → run L at (Hold end_mark value t l) (map (shows L) js) ≡ give (held_byte (Hold end_mark value t l)) r
    from_carried : (value s : ℕ) → s + L.between_bytes < at
        → run L at (Carried end_mark value s) (map (shows L) js) ≡ give (held_byte (Carried end_mark value s)) r

  -- The sender releases CLK, which hands the byte over, and the receiver lets go k ticks later.
  releases : (p : Phase) (end_mark : Bool) (k at : ℕ) (js : List Pulls) → 1 ≤ k
      → next L at p false true ≡ Hand (held_byte p) (ReadyToSend true end_mark)
      → run L at p (map (shows L) (replicate k held ++ js))
      ≡ give (held_byte p) (run L (at + k) (ReadyToSend true end_mark) (map (shows L) js))
  unfolding next
  releases p end_mark zero at js one e = absurd (omega arith)
  releases p end_mark (suc k) at js one e =
      one_tick_lem at p (Hand (held_byte p) (ReadyToSend true end_mark)) false true _ e
      ∙ ap (give (held_byte p))
      (stays (ReadyToSend true end_mark) false false true k (suc at) js (λ i x y. refl) ∙ at_tick _ _ (omega arith))

  lets_go : (end_mark : Bool) (k at : ℕ) (js : List Pulls) → LetGoRule L k
      → Leaves end_mark (replicate k held ++ js) at (run L (at + k) (ReadyToSend true end_mark) (map (shows L) js))
  unfolding next
  lets_go end_mark k at js rule =
      record {
        from_hold = λ value t l h. releases (Hold end_mark value t l) end_mark k at js rule.later (not_below _ _ _ _ _ h);
        from_carried = λ value s h. releases (Carried end_mark value s) end_mark k at js rule.later (not_up_to _ _ _ _ _ h);
      }

  -- Commands: a tick with ATN released, the finish, and the ticks after it.
  module _ (command : L.entry ≡ Command) where
    released_tick : (now : ℕ) (p : Phase) (x : Move) (c d : Bool) (w : List Tick) → is_decided p ≡ false → released L now (stage p) c d ≡ x
        → run L now p (unmarked false c d ∷ w) ≡ onward x now (λ (q : Phase). run L (suc now) q w)
    unfolding run
    released_tick now p x c d w u e =
        ap (λ (y : Move). onward y now (λ (q : Phase). run L (suc now) q w)) (released_move L now p c d command u ∙ e)

    -- The finish, in a phase that holds a byte.
    finishes_in : (p : Phase) (at : ℕ) (js : List Pulls) → stage p ≡ Holding (held_byte p) → (held_byte p).take + L.between_bytes ≤ at
        → run L at p (map (shows L) (finish_tick ∷ js)) ≡ give (held_byte p) (run L (suc at) (Finished at) (map (shows L) js))
    unfolding finishing below
    finishes_in p at js held late =
        released_tick at p (Hand (held_byte p) (Finished at)) true true _ (ap has_fallen held)
        (ap (λ (g : Stage). released L at g true true) held
        ∙ ap (λ (soon : Bool). finishing soon at (held_byte p) true true) (le-ltb at ((held_byte p).take + L.between_bytes) late))

    finishes : (end_mark : Bool) (at : ℕ) (js : List Pulls)
        → Leaves end_mark (finish_tick ∷ js) at (run L (suc at) (Finished at) (map (shows L) js))
    finishes end_mark at js =
        record {
          from_hold = λ value t l h. finishes_in (Hold end_mark value t l) at js refl h;
          from_carried = λ value s h. finishes_in (Carried end_mark value s) at js refl (omega arith);
        }

    -- Whatever is shown after it, it stays complete.
    along_free : (finish now : ℕ) (after : List Free) → CompleteBy (run L now (Finished finish) (map (shows L) (map free_tick after))) []
    unfolding run
    along_free finish now [] = record { verdict = refl; ledger = tt }
    along_free finish now (x ∷ after) =
        subst⁻¹ (λ o. CompleteBy o [])
        (released_tick now (Finished finish) (Go (Finished finish)) x.clk (x.receiver || x.sender) (map (shows L) (map free_tick after))
        refl refl)
        (along_free finish (suc now) after)

  -- A handover: CLK was pulled at tick `since`, the receiver takes at tick `take`, and from tick `at` on js follows.
  module _ (end_mark : Bool) (value since take at : ℕ) (js : List Pulls) (r : Outcome)
      (after : Leaves end_mark js at r) (begun : since < take)
      (in_time : take ≤ since + L.take_latest) (held_on : take < at) (late : take + L.between_bytes ≤ at) where
    -- The receiver holds DATA for n more ticks.
    along_hold : (l n now : ℕ) → now + n ≡ at
        → run L now (Hold end_mark value take l) (map (shows L) (handover_ticks n 0 0 ++ js))
        ≡ give (held_byte (Hold end_mark value take l)) r
    unfolding next
    along_hold l zero now e = at_tick _ _ (omega arith) ∙ after.from_hold value take l late
    along_hold l (suc n) now e =
        step now (Hold end_mark value take l) (Hold end_mark value take l) true true _ refl ∙ along_hold l n (suc now) (omega arith)

    -- Open, with the take t ticks ahead.
    along_open : (l t n now : ℕ) → now + t ≡ take → now + n ≡ at
        → run L now (Open end_mark value since l) (map (shows L) (handover_ticks n 0 t ++ js))
        ≡ give (held_byte (Hold end_mark value take l)) r
    unfolding next
    along_open l t zero now d e = absurd (omega arith)
    along_open l zero (suc n) now d e =
        step now (Open end_mark value since l) (Hold end_mark value take l) true true _
        (ap (λ (t : ℕ). Go (Hold end_mark value t l)) (omega arith))
        ∙ along_hold l n (suc now) (omega arith)
    along_open l (suc t) (suc n) now d e =
        step now (Open end_mark value since l) (Open end_mark value since l) true false _ (is_below _ _ _ _ _ (omega arith))
        ∙ along_open l t n (suc now) (omega arith) (omega arith)

    -- Carried, with the receiver on DATA, alone or beside the sender, for n more ticks.
    along_both : (l n now : ℕ) → now + n ≡ at
        → run L now (Carried end_mark value since) (map (shows L) (handover_ticks n l 0 ++ js))
        ≡ give (held_byte (Carried end_mark value since)) r
    unfolding next
    along_both l zero now e = at_tick _ _ (omega arith) ∙ after.from_carried value since (omega arith)
    along_both l (suc n) now e =
        step now (Carried end_mark value since) (Carried end_mark value since) true true _ refl
        ∙ along_both (less l) n (suc now) (omega arith)

    -- Carried, with the letting go l ticks ahead and the take t.
    along_carried : (let_go l t n now : ℕ) → let_go ≤ since + L.keep_most → since < now → now + l ≡ let_go → now + t ≡ take
        → now + n ≡ at
        → Hands (run L now (Carried end_mark value since) (map (shows L) (handover_ticks n l t ++ js))) r
        (record { value = value; let_go = let_go; take = take })
    unfolding next
    along_carried let_go l zero n now k b c d e =
        let handed = held_byte (Carried end_mark value since) in
        record { let_go = handed.let_go; take = handed.take; is = along_both l n now e; let_go_by = omega arith; take_by = omega arith }
    along_carried let_go l (suc t) zero now k b c d e = absurd (omega arith)
    along_carried let_go zero (suc t) (suc n) now k b c d e =
        record {
          let_go = now;
          take = take;
          is =
              step now (Carried end_mark value since) (Open end_mark value since now) true false _ (is_up_to _ _ _ _ _ (omega arith))
              ∙ along_open now t n (suc now) (omega arith) (omega arith);
          let_go_by = omega arith;
          take_by = omega arith;
        }
    along_carried let_go (suc l) (suc t) (suc n) now k b c d e =
        then_hands (step now (Carried end_mark value since) (Carried end_mark value since) true true _ refl)
        (along_carried let_go l t n (suc now) k (omega arith) (omega arith) (omega arith) (omega arith))

    -- From the CLK pull after bit 8 on.
    along_handover : (bit8 : Bool) (l t n : ℕ) → (bit8 ≡ false → l ≡ 0) → l ≤ L.keep_most → since + suc t ≡ take → since + suc n ≡ at
        → Hands (onward (handover end_mark value since bit8 (is_positive l)) since
        (λ (q : Phase). run L (suc since) q (map (shows L) (handover_ticks n (less l) t ++ js)))) r
        (record { value = value; let_go = since + l; take = take })
    unfolding handover
    along_handover bit8 zero t n z k d e =
        record {
          let_go = since;
          take = take;
          is = along_open since t n (suc since) (omega arith) (omega arith);
          let_go_by = omega arith;
          take_by = omega arith;
        }
    along_handover false (suc l) t n z k d e = absurd (omega (arith, z refl))
    along_handover true (suc l) t n z k d e =
        along_carried (since + suc l) l t n (suc since) (omega arith) (omega arith) (omega arith) (omega arith) (omega arith)

  module _ (times : Consistent L) where
    -- D up to a CLK pull or an acknowledgement, F and G.
    along_gap : (some-handed : Bool) (gap now : ℕ) (js : List Pulls) → 1 ≤ gap → gap ≤ L.end_mark_latest
        → run L now (ReadyToSend some-handed false) (map (shows L) (replicate gap nobody ++ js))
        ≡ run L (now + gap) (ReadyForData some-handed now) (map (shows L) js)
    unfolding next
    along_gap some-handed gap now js a b =
        enters (ReadyToSend some-handed false) (ReadyForData some-handed now) false false false gap now _ a refl
        (λ i x y. is_below _ _ _ _ _ (omega arith))

    along_mark : (some-handed : Bool) (gap ack resp now : ℕ) (js : List Pulls) → EndMarkRule L gap ack resp
        → run L now (ReadyToSend some-handed false)
        (map (shows L) (replicate gap nobody ++ (replicate ack held ++ (replicate resp nobody ++ js))))
        ≡ run L (now + gap + ack + resp) (Acknowledged some-handed (now + gap + ack) now) (map (shows L) js)
    unfolding next
    along_mark some-handed gap ack resp now js rule =
        along_gap some-handed gap now _ (omega (arith, times.end_mark)) rule.gap_most
        ∙ enters (ReadyForData some-handed now) (Acknowledgement some-handed (now + gap) now) false false true ack (now + gap) _
        (omega (arith, times.acknowledge_some)) (not_below _ _ _ _ _ (omega arith)) (λ i x y. is_below _ _ _ _ _ (omega arith))
        ∙ enters (Acknowledgement some-handed (now + gap) now) (Acknowledged some-handed (now + gap + ack) now) false false false resp
        (now + gap + ack) _ rule.response_least (not_below _ _ _ _ _ (omega arith))
        (λ i x y. is_below _ _ _ _ _ (omega (arith, times.timeout)))

    -- Bits, from the tick after the first set-up tick to the CLK pull after the last of them, which shows DATA d.
    along_bits : (end_mark : Bool) (value now : ℕ) (x : Bit) (xs : List Bit) (d : Bool) (js : List Pulls) → BitRule L x → BitRules L xs
        → run L (suc now) (SetUp end_mark value x.first now (length xs))
        (map (shows L) (map sets x.others ++ (replicate x.valid (offers x.bit) ++ bits_track xs (sets d ∷ js))))
        ≡ onward (handover end_mark (taken_in value (x ∷ xs)) (now + bits_ticks (x ∷ xs)) (last_bit x.bit xs) d) (now + bits_ticks (x ∷ xs))
        (λ (q : Phase). run L (suc (now + bits_ticks (x ∷ xs))) q (map (shows L) js))
    unfolding next after_bit
    along_bits end_mark value now x [] d js rules all =
        along_bit end_mark 0 value now x (sets d ∷ js) (omega (arith, times.valid_some, rules.valid_least)) rules
        ∙ one_tick_lem _ (Valid end_mark value x.bit (suc now + length x.others) 0)
        (handover end_mark (with_bit value x.bit) (now + suc (length x.others + x.valid)) x.bit d) true d _
        (not_below _ _ _ _ _ (omega (arith, rules.valid_least)))
        ∙ ap (λ e. onward (handover end_mark (with_bit value x.bit) e x.bit d) e (λ (q : Phase). run L (suc e) q (map (shows L) js)))
        (omega arith)
    along_bits end_mark value now x (y ∷ ys) d js rules all =
        along_bit end_mark (suc (length ys)) value now x _ (omega (arith, times.valid_some, rules.valid_least)) rules
        ∙ step _ (Valid end_mark value x.bit (suc now + length x.others) (suc (length ys)))
        (SetUp end_mark (with_bit value x.bit) y.first (now + suc (length x.others + x.valid)) (length ys)) true y.first _
        (not_below _ _ _ _ _ (omega (arith, rules.valid_least)))
        ∙ along_bits end_mark (with_bit value x.bit) (now + suc (length x.others + x.valid)) y ys d js all.0 all.1
        ∙ ap (λ e. onward (handover end_mark (taken_in value (x ∷ y ∷ ys)) e (last_bit y.bit ys) d) e
        (λ (q : Phase). run L (suc e) q (map (shows L) js))) (omega arith)

    -- A phase that a CLK pull at tick e leaves for the bits of a byte.
    abbrev Begins : Bool → ℕ → Phase → Type 0
    Begins end_mark e p = (d : Bool) → next L e p true d ≡ Go (SetUp end_mark 0 d e 7)

    seven_left : (end_mark : Bool) (e : ℕ) (d : Bool) (w : List Tick) {bits_left : ℕ} → bits_left ≡ 7
        → run L (suc e) (SetUp end_mark 0 d e 7) w ≡ run L (suc e) (SetUp end_mark 0 d e bits_left) w
    seven_left end_mark e d w h = ap (λ (bits_left : ℕ). run L (suc e) (SetUp end_mark 0 d e bits_left) w) (sym h)

    -- A byte, from the CLK pull that begins its bits to what follows its hold.
    along_fields : (end_mark : Bool) (p : Phase) (e : ℕ) (bits : List Bit) (l t n : ℕ) (js : List Pulls) (r : Outcome) → Begins end_mark e p
        → let f : Frame = record { bits = bits; let_go = l; take = t; release = n } in
        FrameRules L f → Leaves end_mark js (after_frame e f) r → Hands (run L e p (map (shows L) (frame_ticks f js))) r (byte_of e f)
    along_fields end_mark p e [] l t n js r b rules after = absurd (omega (arith, rules.bits.eight))
    along_fields end_mark p e (x ∷ xs) l zero n js r b rules after = absurd (omega (arith, rules.handover.take_least))
    along_fields end_mark p e (x ∷ xs) l (suc t) zero js r b rules after = absurd (omega (arith, rules.release.after_take))
    along_fields end_mark p e (x ∷ xs) l (suc t) (suc n) js r b rules after =
        let seven : length xs ≡ 7 = omega (arith, rules.bits.eight) in
        let since = e + bits_ticks (x ∷ xs) in
        subst
        (λ (value : ℕ). Hands (run L e p (map (shows L) (bits_track (x ∷ xs) (handover_ticks (suc n) l (suc t) ++ js)))) r
        (record { value = value; let_go = since + l; take = since + suc t })) (eight_bits (x ∷ xs) rules.bits.eight)
        (then_hands
        (step e p (SetUp end_mark 0 x.first e 7) true x.first _ (b x.first)
        ∙ seven_left end_mark e x.first _ seven
        ∙ along_bits end_mark 0 e x xs (is_positive l) (handover_ticks n (less l) t ++ js) rules.bits.each.0 rules.bits.each.1)
        (along_handover end_mark (taken_in 0 (x ∷ xs)) since (since + suc t) (since + suc n) js r after (omega arith)
        (omega (arith, rules.handover.take_most))
        (omega (arith, rules.release.after_take, times.keep_release, times.keep_some)) (omega (arith, rules.release.after_take))
        (last_bit x.bit xs) l t n rules.handover.zero_keeps_not rules.handover.keeps refl refl))

    along_frame : (end_mark : Bool) (p : Phase) (e : ℕ) (f : Frame) (js : List Pulls) (r : Outcome) → Begins end_mark e p → FrameRules L f
        → Leaves end_mark js (after_frame e f) r → Hands (run L e p (map (shows L) (frame_track f js))) r (byte_of e f)
    along_frame end_mark p e f js r b rules after =
        then_hands (ap (λ (js : List Pulls). run L e p (map (shows L) js)) (frame_ticks_lem f js))
        (along_fields end_mark p e f.bits f.let_go f.take f.release js r b rules after)

    along_end : (silence now : ℕ) → 1 ≤ silence
        → run L now (ReadyToSend true true) (map (shows L) (replicate silence nobody)) ≡ ended (End now) now
    unfolding next run
    along_end n now one =
        rw (← (append-nil (replicate n nobody)))
        (enters (ReadyToSend true true) (End now) false false false n now [] one refl (λ i x y. refl))

    complete_on : {o r : Outcome} {b : Byte} {rest : List Byte} → Hands o r b → CompleteBy r rest → CompleteBy o (b ∷ rest)
    complete_on {b = b} {rest = rest} h k =
        subst⁻¹ (λ o. CompleteBy o (b ∷ rest)) h.is
        (record { verdict = k.verdict; ledger = (refl, h.let_go_by, h.take_by, k.ledger) })

    along_sending : (some-handed : Bool) (now : ℕ) (s : Sending) → SendingRules L s
        → CompleteBy (run L now (ReadyToSend some-handed false) (map (shows L) (sending_track s))) (sending_bytes now s)
    unfolding next
    along_sending some-handed now (more gap f wait rest) rules =
        let r = rules.0 in
        complete_on
        (then_hands (along_gap some-handed gap now _ r.plain.least (omega (arith, r.plain.most, times.end_mark_in_time)))
        (along_frame false (ReadyForData some-handed now) (now + gap) f _ _
        (λ d. is_below _ _ _ _ _ (omega (arith, r.plain.most))) r.frame (lets_go false wait _ _ r.let_go)))
        (along_sending true _ rest rules.1)
    along_sending some-handed now (last gap ack resp f wait silence) rules =
        complete_on
        (then_hands (along_mark some-handed gap ack resp now _ rules.end_mark)
        (along_frame true (Acknowledged some-handed (now + gap + ack) now) (now + gap + ack + resp) f _ _
        (λ d. is_up_to _ _ _ _ _ (omega (arith, rules.end_mark.response_most))) rules.frame (lets_go true wait _ _ rules.let_go)))
        (subst⁻¹ (λ o. CompleteBy o []) (along_end silence _ rules.silent.some) (record { verdict = refl; ledger = tt }))
    along_sending some-handed now (last_command gap f after) rules =
        complete_on
        (then_hands (along_gap some-handed gap now _ rules.plain.least (omega (arith, rules.plain.most, times.end_mark_in_time)))
        (along_frame false (ReadyForData some-handed now) (now + gap) f _ _
        (λ d. is_below _ _ _ _ _ (omega (arith, rules.plain.most))) rules.frame (finishes rules.entry false _ _)))
        (along_free rules.entry _ _ after)

    -- A plan that keeps the rules is read as complete, with the plan's bytes and each tick the plan's or an earlier one.
    pub along : (p : Plan) → PlanRules L p → CompleteBy (run L 0 Start (map (shows L) (track p))) (plan_bytes p)
    along p rules =
        subst⁻¹ (λ o. CompleteBy o (plan_bytes p))
        (along_start p.found p.hold p.wait _ rules.first_take rules.first_release rules.first_let_go)
        (along_sending false _ p.sending rules.sending)
