-- The shapes of specs' tracks as plans: what follows a letting go is what a plan that keeps the rules sends. Assumes nothing.
use Rattle.std.specs.Prelude.{ℕ, zero, suc, ◌+◌, ◌≤◌, Bool, true, false, List, [], ◌∷◌, ◌++◌, map, length, replicate, ◌≡◌}
use native.Mathlib.Omega.{arith}
use mathlib.Core.Logic.{inl, inr}
use mathlib.Core.Path.{refl, sym, ap, ap₂, ◌∙◌, subst, subst⁻¹, subst₂}
use Rattle.transfer.specs.{Types.Command, Types.Limits, Types.Byte, Phases.with_bit, Demand3.Consistent}
use Rattle.transfer.specs.Parties.{Pulls, nobody, held, clock, clock_held, sets, offers, Bit, Frame, more, last, last_command}
use Rattle.transfer.specs.Parties.{finish_tick}
use Rattle.transfer.specs.Parties.{bits_track, frame_track, bits_ticks, byte_of, after_frame, sending_bytes}
use Rattle.transfer.specs.Rules.{last_of, ReleaseRule, PlainRule, EndMarkRule, BitRules, HandoverRule, FrameRules}
use Rattle.transfer.proofs.{HandoverTicks.handover_ticks, HandoverTicks.frame_ticks_lem, ByteValue.taken_in, ByteValue.last_bit}
use Rattle.transfer.proofs.{ByteValue.eight_bits, Stages.plain_or_command}
use Rattle.transfer.proofs.Shapes.{clock_kept, Stays, First, Many, many, joined, Sends, AfterHold, releases, finishes, HandsOver}
use Rattle.transfer.proofs.Shapes.{Carries}
use Rattle.transfer.proofs.Shapes.{Handover, opens, carries, Bits, AfterD}

-- l ticks with the sender on DATA, t with nobody on it, k with the receiver.
pub handover_is : (l t k u n : ℕ) (js : List Pulls) → l + t ≡ u → u + k ≡ n
    → replicate l clock_kept ++ (replicate t clock ++ (replicate k clock_held ++ js)) ≡ handover_ticks n l u ++ js
handover_is (suc l) t k zero n js a b = absurd (omega arith)
handover_is (suc l) t k (suc u) zero js a b = absurd (omega arith)
handover_is (suc l) t k (suc u) (suc n) js a b = ap (λ x. clock_kept ∷ x) (handover_is l t k u n js (omega arith) (omega arith))
handover_is zero (suc t) k zero n js a b = absurd (omega arith)
handover_is zero (suc t) k (suc u) zero js a b = absurd (omega arith)
handover_is zero (suc t) k (suc u) (suc n) js a b = ap (λ x. clock ∷ x) (handover_is zero t k u n js (omega arith) (omega arith))
handover_is zero zero (suc k) (suc u) n js a b = absurd (omega arith)
handover_is zero zero (suc k) zero zero js a b = absurd (omega arith)
handover_is zero zero (suc k) zero (suc n) js a b = ap (λ x. clock_held ∷ x) (handover_is zero zero k zero n js (omega arith)
    (omega arith))
handover_is zero zero zero u (suc n) js a b = absurd (omega arith)
handover_is zero zero zero u zero js a b = refl

-- A set-up tick, further ones, valid ticks and the rest, joined.
bit_splits : (d : Bool) (pulled : List Bool) (c : Bool) (n : ℕ) {js after_first after-pulled after-valid rest : List Pulls}
    → js ≡ sets d ∷ after_first → after_first ≡ map sets pulled ++ after-pulled
    → after-pulled ≡ replicate n (offers c) ++ after-valid → after-valid ≡ rest
    → js ≡ sets d ∷ (map sets pulled ++ (replicate n (offers c) ++ rest))
bit_splits d pulled c n p q r s =
    p ∙ ap (λ x. sets d ∷ x) (q ∙ ap (λ x. map sets pulled ++ x) (r ∙ ap (λ x. replicate n (offers c) ++ x) s))

module _ (L : Limits) where
  -- A handover that begins at tick e, as a frame has it.
  record HandoverPlan (end_mark bit8 : Bool) (value e : ℕ) (js : List Pulls) (l : List Byte) : Type 0 where
    let_go : ℕ
    take : ℕ
    release : ℕ
    rest : List Pulls
    others : List Byte
    handover : HandoverRule L bit8 let_go take
    releases : ReleaseRule L take release
    tidy : let_go ≤ take
    is : js ≡ handover_ticks release let_go take ++ rest
    bytes : l ≡ record { value = value; let_go = e + let_go; take = e + take } ∷ others
    after : AfterHold L end_mark (e + release) rest others

  -- From tick `now` on the receiver holds DATA, until the byte is handed over, `earliest` or later.
  abbrev Holding : (end_mark : Bool) (value : ℕ) (l : List Byte) (let_go take now earliest : ℕ) → List Pulls → Type 0
  Holding end_mark value l let_go take now earliest js =
      Stays clock_held (HandsOver L (record { value = value; let_go = let_go; take = take }) end_mark earliest) now js l

  -- What stands before the take, a ticks with DATA pulled by the sender and t ticks open; then the receiver's hold.
  handover_of : (end_mark bit8 : Bool) (value e a t take let_go : ℕ) (js js' : List Pulls) (l : List Byte)
      → js ≡ replicate a clock_kept ++ (replicate t clock ++ js') → e + a ≡ let_go → a + t ≡ take → HandoverRule L bit8 a take
      → Holding end_mark value l let_go (e + take) (e + take) (e + take + L.between_bytes) js'
      → HandoverPlan end_mark bit8 value e js l
  handover_of end_mark bit8 value e a t take let_go js js' l split at sum rule h =
      record {
        let_go = a;
        take = take;
        release = take + h.count;
        rest = h.rest;
        others = h.after.others;
        handover = rule;
        releases = record { after_take = omega (arith, h.after.late, h.ends) };
        tidy = omega arith;
        is =
            split
            ∙ ap (λ x. replicate a clock_kept ++ (replicate t clock ++ x)) h.splits
            ∙ handover_is a t h.count take (take + h.count) _ sum refl;
        bytes =
            h.after.hands
            ∙ ap (λ (x : ℕ). record { value = value; let_go = x; take = e + take } ∷ h.after.others) (sym at);
        after = subst (λ (x : ℕ). AfterHold L end_mark x h.rest h.after.others) (omega (arith, h.ends)) h.after.after;
      }

  module _ (times : Consistent L) where
    handover_plan : (end_mark bit8 : Bool) (value e : ℕ) (js : List Pulls) (l : List Byte) → Handover L end_mark bit8 value e js l
        → HandoverPlan end_mark bit8 value e js l
    handover_plan end_mark bit8 value e js l (opens f) =
        let c = many f in
        handover_of end_mark bit8 value e 0 c.count c.count e js c.rest l c.splits (omega arith) (omega arith)
        (record {
          keeps = omega arith;
          zero_keeps_not = λ z. refl;
          take_least = c.some;
          take_most = omega (arith, c.ends, c.after.0);
        })
        (subst⁻¹ (λ (x : ℕ). Holding end_mark value l e x x (x + L.between_bytes) c.rest) c.ends (joined c.after.1))
    handover_plan end_mark bit8 value e js l (carries b f) = at f.after
      where
        no_zero : (n : ℕ) → bit8 ≡ false → n ≡ 0
        no_zero n z = let q : ◌≡◌ {A = ℕ} n 0 = cc in q

        at : Carries L end_mark value e (suc e) f.rest l → HandoverPlan end_mark bit8 value e js l
        at (inl h) =
            let a = many {js = js} (record { rest = f.rest; splits = f.splits; after = h }) in
            let c = many a.after.1 in
            handover_of end_mark bit8 value e a.count c.count (a.count + c.count) a.till js c.rest l
            (a.splits ∙ ap (λ x. replicate a.count clock_kept ++ x) c.splits) a.ends refl
            (record {
              keeps = omega (arith, a.ends, a.after.0);
              zero_keeps_not = no_zero a.count;
              take_least = omega (arith, c.some);
              take_most = omega (arith, c.ends, a.ends, c.after.0);
            })
            (subst⁻¹ (λ (x : ℕ). Holding end_mark value l a.till x x (x + L.between_bytes) c.rest) (omega
            (arith, c.ends, a.ends))
            (joined c.after.1))
        at (inr h) =
            handover_of end_mark bit8 value e 1 0 1 (e + 1) js f.rest l f.splits refl refl
            (record {
              keeps = times.keep_some;
              zero_keeps_not = no_zero 1;
              take_least = omega arith;
              take_most = omega (arith, times.keep_take);
            })
            (subst₂ (λ (x y : ℕ). Holding end_mark value l (e + 1) (e + 1) x y f.rest) (omega arith) (omega arith) h)

    -- Bits, and the handover after them.
    record BitsPlan (end_mark b : Bool) (bits_left value e : ℕ) (js : List Pulls) (l : List Byte) : Type 0 where
      bits : List Bit
      number : length bits ≡ bits_left
      rules : BitRules L bits
      till : ℕ
      rest : List Pulls
      ends : e + bits_ticks bits ≡ till
      is : js ≡ bits_track bits rest
      after : HandoverPlan end_mark (last_bit b bits) (taken_in value bits) till rest l

    bits_plan : (end_mark b : Bool) (bits_left value e : ℕ) (js : List Pulls) (l : List Byte) → Bits L end_mark bits_left value b e js l
        → BitsPlan end_mark b bits_left value e js l
    bits_plan end_mark b zero value e js l h =
        record {
          bits = [];
          number = refl;
          rules = tt;
          till = e;
          rest = js;
          ends = omega arith;
          is = refl;
          after = handover_plan end_mark b value e js l h;
        }
    bits_plan end_mark b (suc bits_left) value e js l h =
        let d = h.0 in
        let f = h.1 in
        let s = f.after in
        let c = last_of d s.pulled in
        let o = many s.after in
        let r = bits_plan end_mark c bits_left (with_bit value c) o.till o.rest l o.after.2 in
        record {
          bits = record { first = d; others = s.pulled; bit = c; valid = o.count } ∷ r.bits;
          number = ap suc r.number;
          rules = (
            record {
              set_up = omega (arith, s.ends, s.fits);
              valid_least = omega (arith, o.ends, o.after.0);
              valid_most = omega (arith, o.ends, o.after.1);
              steady = refl;
            },
            r.rules,
          );
          till = r.till;
          rest = r.rest;
          ends = omega (arith, r.ends, o.ends, s.ends);
          is = bit_splits d s.pulled c o.count {rest = bits_track r.bits r.rest} f.splits s.splits o.splits r.is;
          after = r.after;
        }

    -- A byte whose bits begin at tick e.
    record FramePlan (end_mark : Bool) (e : ℕ) (js : List Pulls) (l : List Byte) : Type 0 where
      frame : Frame
      rules : FrameRules L frame
      tidy : frame.let_go ≤ frame.take
      rest : List Pulls
      others : List Byte
      is : js ≡ frame_track frame rest
      bytes : l ≡ byte_of e frame ∷ others
      after : AfterHold L end_mark (after_frame e frame) rest others

    frame_of : (end_mark : Bool) (e : ℕ) (js : List Pulls) (l : List Byte) → BitsPlan end_mark false 8 0 e js l → FramePlan end_mark e js l
    frame_of end_mark e js l x =
        let h = x.after in
        let f : Frame = record { bits = x.bits; let_go = h.let_go; take = h.take; release = h.release } in
        record {
          frame = f;
          rules =
              record {
                bits = record { eight = x.number; each = x.rules };
                handover = h.handover;
                release = h.releases;
              };
          tidy = h.tidy;
          rest = h.rest;
          others = h.others;
          is = x.is ∙ ap (bits_track x.bits) h.is ∙ sym (frame_ticks_lem f h.rest);
          bytes =
              h.bytes
              ∙ ap₂ (λ (v t : ℕ). record { value = v; let_go = t + h.let_go; take = t + h.take } ∷ h.others)
              (eight_bits x.bits x.number) (sym x.ends);
          after = subst⁻¹ (λ (t : ℕ). AfterHold L end_mark (t + h.release) h.rest h.others) x.ends h.after;
        }

    frame_plan : (end_mark : Bool) (e : ℕ) (js : List Pulls) (l : List Byte) → Bits L end_mark 8 0 false e js l → FramePlan end_mark e js l
    frame_plan end_mark e js l h = frame_of end_mark e js l (bits_plan end_mark false 8 0 e js l h)

    sends_more : (now gap e : ℕ) (js js' : List Pulls) (l : List Byte) → PlainRule L gap → now + gap ≡ e
        → js ≡ replicate gap nobody ++ js' → FramePlan false e js' l → Sends L now js l
    sends_more now gap e js js' l rule ends split f = by_end f.after
      where
        by_end : AfterHold L false (after_frame e f.frame) f.rest f.others → Sends L now js l
        by_end (releases r) =
            let w = many r in
            let s = w.after in
            record {
              plan = more gap f.frame w.count s.plan;
              rules = (record { plain = rule; frame = f.rules; let_go = record { later = w.some } }, s.rules);
              tidy = (f.tidy, s.tidy);
              is =
                  split
                  ∙ ap (λ x. replicate gap nobody ++ x)
                  (f.is ∙ ap (frame_track f.frame) (w.splits ∙ ap (λ x. replicate w.count held ++ x) s.is));
              bytes =
                  f.bytes
                  ∙ ap (λ x. byte_of e f.frame ∷ x) s.bytes
                  ∙ ap₂ (λ (x y : ℕ). byte_of x f.frame ∷ sending_bytes y s.plan) (sym ends) (omega (arith, w.ends));
            }
        by_end (finishes command r) =
            let s = r.after in
            record {
              plan = last_command gap f.frame s.after;
              rules = record { entry = command; plain = rule; frame = f.rules };
              tidy = (f.tidy, s.tidy);
              is =
                  split
                  ∙ ap (λ x. replicate gap nobody ++ x)
                  (f.is ∙ ap (frame_track f.frame) (r.splits ∙ ap (λ x. finish_tick ∷ x) s.is));
              bytes = f.bytes ∙ ap₂ (λ (x : ℕ) y. byte_of x f.frame ∷ y) (sym ends) s.bytes;
            }

    -- Where there is room for an end mark, it is no command.
    no_command : (gap : ℕ) → L.end_mark ≤ gap → gap ≤ L.end_mark_latest → L.entry ≡ Command → ⊥
    no_command gap a b command = omega (arith, times.no_end_mark command)

    sends_last : (now gap ack resp e : ℕ) (js js' : List Pulls) (l : List Byte) → EndMarkRule L gap ack resp → now + gap + ack + resp ≡ e
        → js ≡ replicate gap nobody ++ (replicate ack held ++ (replicate resp nobody ++ js')) → FramePlan true e js' l → Sends L now js l
    sends_last now gap ack resp e js js' l rule ends split f = by_end f.after
      where
        by_end : AfterHold L true (after_frame e f.frame) f.rest f.others → Sends L now js l
        by_end (releases r) =
            let w = many r in
            let s = w.after in
            record {
              plan = last gap ack resp f.frame w.count (suc s.after.count);
              rules =
                  record {
                    entry = plain_or_command L.entry (no_command gap rule.gap_least rule.gap_most);
                    end_mark = rule;
                    frame = f.rules;
                    let_go = record { later = w.some };
                    silent = record { some = omega arith };
                  };
              tidy = f.tidy;
              is =
                  split
                  ∙ ap (λ x. replicate gap nobody ++ (replicate ack held ++ (replicate resp nobody ++ x)))
                  (f.is
                  ∙ ap (frame_track f.frame)
                  (w.splits ∙ ap (λ x. replicate w.count held ++ x) (s.splits ∙ ap (λ x. nobody ∷ x) s.after.is)));
              bytes = f.bytes ∙ ap₂ (λ (x : ℕ) y. byte_of x f.frame ∷ y) (sym ends) s.after.bytes;
            }
        by_end (finishes command r) = absurd (no_command gap rule.gap_least rule.gap_most command)

    -- D, from the letting go on.
    pub sends : (now : ℕ) (js : List Pulls) (l : List Byte) → First nobody (Stays nobody (AfterD L now)) now js l → Sends L now js l
    sends now js l f = let g = many f in at g g.after
      where
        at : (g : Many nobody (AfterD L now) now js l) → AfterD L now g.till g.rest l → Sends L now js l
        at g (inl h) =
            sends_more now g.count g.till js g.rest l (record { least = g.some; most = omega (arith, g.ends, h.0) })
            g.ends g.splits (frame_plan false g.till g.rest l h.1)
        at g (inr h) =
            let a = many h.2 in
            let r = many a.after.2 in
            sends_last now g.count a.count r.count r.till js r.rest l
            (record {
              gap_least = omega (arith, g.ends, h.0);
              gap_most = omega (arith, g.ends, h.1);
              acknowledgement_least = omega (arith, a.ends, a.after.0);
              acknowledgement_most = omega (arith, a.ends, a.after.1);
              response_least = r.some;
              response_most = omega (arith, r.ends, r.after.0);
            })
            (omega (arith, g.ends, a.ends, r.ends))
            (g.splits ∙ ap (λ x. replicate g.count nobody ++ x) (a.splits ∙ ap (λ x. replicate a.count held ++ x) r.splits))
            (frame_plan true r.till r.rest l r.after.1)
