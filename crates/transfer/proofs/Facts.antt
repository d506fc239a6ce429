-- Facts that keep the statements from being empty or wide.
-- Assumes nothing.
use Rattle.std.specs.Prelude.{ℕ, suc, ◌+◌, ◌*◌, ◌^◌, ◌≤◌, ◌<◌, Bool, true, false, List, [], ◌∷◌, ◌++◌, length, ◌≡◌, if◌then◌else◌}
use native.Mathlib.{Omega.arith, Nat.pow-suc}
use mathlib.Core.Path.{refl, sym, ap, ◌∙◌, subst}
use borrow.Author.Rules.{rules}
use Rattle.transfer.specs.{Types.Entry, Types.Plain, Types.Command, Types.Limits, Types.Tick, Types.Phase, Types.Start}
use Rattle.transfer.specs.{Limits.standard_limits, Limits.command_limits, Outcome.onward, Outcome.run, Outcome.outcome}
use Rattle.transfer.specs.{Ticks.tick}
use Rattle.transfer.specs.{Demand3.CompleteWith, Moves.finishing, Moves.heed}
use Rattle.transfer.specs.{Moves.unless_marked, Moves.move}
use Rattle.transfer.specs.Spans.{◌∶◌, ticks, s1, listen}
use Rattle.transfer.specs.Phases.{Stop, below, up_to, next, same, with_bit, handover, after_bit}
use Rattle.transfer.specs.Parties.{Bit, Frame, Free, Plan, Sending, more, last, last_command}
use Rattle.transfer.specs.Parties.{value_of, sending_bytes, plan_bytes, after_frame}
use Rattle.transfer.specs.Rules.{BitRule, FrameRules, SendingRules, PlanRules}
use Rattle.transfer.specs.Pair.{sender_track, receiver_track, attention_track, gives, values}
use Rattle.transfer.specs.Facts.{AllBytes, SomeBytes, PairSendsBytes, S1Explained, LostThoughExplained, one_tick, frame80}
use Rattle.transfer.specs.Facts.{plan80, Explains80, byte80, TwoPairs, ListenExplained, command80, receiver_after, sender_after}
use Rattle.transfer.specs.Facts.{FreeAfterFinish, NeverBoth}
use Rattle.answer.specs.Types.{Attention, AttentionReleased, Verdict, Complete, Cut, Broken}
use Rattle.transfer.proofs.{Rows.lines, Demand3.standard_demand3, Demand3.command_demand3}

-- A pair is for a string of one or more bytes, each below 256.
sends_one : (now : ℕ) (s : Sending) → 1 ≤ length (values (sending_bytes now s))
sends_one now (more gap f wait rest) = omega arith
sends_one now (last gap ack resp f wait silence) = omega arith
sends_one now (last_command gap f after) = omega arith

weight_bounds : (w : ℕ) (xs : List Bit) → value_of w xs + w ≤ w * 2 ^ length xs
weight_bounds w [] = omega arith
weight_bounds w (x ∷ xs) = at x.bit (weight_bounds (w + w) xs)
  where
    at : (b : Bool) → value_of (w + w) xs + (w + w) ≤ (w + w) * 2 ^ length xs
        → (if b then w else 0) + value_of (w + w) xs + w ≤ w * 2 ^ suc (length xs)
    at true h = rw pow-suc (omega arith)
    at false h = rw pow-suc (omega arith)

is_byte : (L : Limits) (f : Frame) → FrameRules L f → value_of 1 f.bits < 256
is_byte L f rules =
    let h : value_of 1 f.bits + 1 ≤ 1 * 2 ^ 8 =
    subst (λ (n : ℕ). value_of 1 f.bits + 1 ≤ 1 * 2 ^ n) rules.bits.eight (weight_bounds 1 f.bits) in
    omega arith

sends_bytes : (L : Limits) (now : ℕ) (s : Sending) → SendingRules L s → AllBytes (values (sending_bytes now s))
sends_bytes L now (more gap f wait rest) rules =
    (is_byte L f rules.0.frame, sends_bytes L (after_frame (now + gap) f + wait) rest rules.1)
sends_bytes L now (last gap ack resp f wait silence) rules = (is_byte L f rules.frame, tt)
sends_bytes L now (last_command gap f after) rules = (is_byte L f rules.frame, tt)

pub pair_sends_bytes : PairSendsBytes
pair_sends_bytes L string sender receiver dated p =
    subst SomeBytes (sym p.string_is)
    (record { one = sends_one _ p.plan.sending; bytes = sends_bytes L _ p.plan.sending p.rules.sending })

-- S1 has a pair.
s1_complete : CompleteWith standard_limits (ticks s1) (0x41 ∷ [])
unfolding below up_to next same with_bit handover after_bit move run
s1_complete = record { verdict = refl; bytes = refl }

pub s1_explained : S1Explained
s1_explained = (((standard_demand3 (ticks s1)).exactly (0x41 ∷ [])).0 s1_complete).0

-- The same lines, with ticks lost.
pub lost_though_explained : LostThoughExplained
unfolding below up_to next same with_bit handover after_bit move run
lost_though_explained = record { has_pair = s1_explained; is_broken = refl }

-- The byte 0x80 keeps the rules, at document 01's times for bits and handover.
module _ (L : Limits) (set_up : L.set_up_most ≡ 200) (valid_least : L.valid_least ≡ 20) (valid_most : L.valid_most ≡ 200)
    (keep : L.keep_most ≡ 100) (latest : L.take_latest ≡ 1000) (between : L.between_bytes ≡ 100) where
  bit_keeps : (b : Bool) → BitRule L (one_tick b)
  bit_keeps b = record { set_up = omega arith; valid_least = omega arith; valid_most = omega arith; steady = refl }

  frame80_keeps : (let_go take release : ℕ) → let_go ≤ 100 → 1 ≤ take → take ≤ 60 → take + 100 ≤ release
      → FrameRules L (frame80 let_go take release)
  frame80_keeps let_go take release a b c d =
      let o = bit_keeps false in
      record {
        bits = record { eight = refl; each = (o, (o, (o, (o, (o, (o, (o, (bit_keeps true, tt)))))))) };
        handover = record { keeps = omega arith; zero_keeps_not = no_zero; take_least = b; take_most = omega arith };
        release = record { after_take = omega arith };
      }
    where
      no_zero : Path Bool true false → let_go ≡ 0
      no_zero e = let z : ◌≡◌ {A = ℕ} 0 1 = cc in absurd (omega arith)

explains80 : (L : Limits) (q p : Plan) → PlanRules L p → 0x80 ∷ [] ≡ values (plan_bytes p)
    → gives (attention_track L.entry p) (sender_track p) (receiver_track p)
    ≡ gives (attention_track L.entry q) (sender_track q) (receiver_track q)
    → Explains80 L q p
explains80 L q p rules string e =
    record {
      pair = record { plan = p; rules = rules; sends = refl; receives = refl; string_is = string; dated_so = refl };
      gives_it = e;
    }

plan80_keeps : (L : Limits) (sending : Sending) → SendingRules L sending → PlanRules L (plan80 sending)
plan80_keeps L sending held =
    record { first_take = search rules; first_release = search rules; first_let_go = search rules; sending = held }

-- Two pairs for one recording.
byte80_keeps : (let_go take : ℕ) → let_go ≤ 100 → 1 ≤ take → take ≤ 60 → PlanRules standard_limits (byte80 let_go take)
byte80_keeps let_go take a b c =
    plan80_keeps standard_limits _
    (record {
      entry = refl;
      end_mark = search rules;
      frame = frame80_keeps standard_limits refl refl refl refl refl refl let_go take 160 a b c (omega arith);
      let_go = search rules;
      silent = search rules;
    })

pub two_pairs : TwoPairs
two_pairs =
    record {
      early = explains80 standard_limits (byte80 1 1) _ (byte80_keeps 1 1 (omega arith) (omega arith) (omega arith)) refl refl;
      late = explains80 standard_limits (byte80 1 1) _ (byte80_keeps 60 50 (omega arith) (omega arith) (omega arith)) refl refl;
      early_bytes = refl;
      late_bytes = refl;
    }

-- A command recording has a pair.
listen_complete : CompleteWith command_limits (ticks (listen 200 ++ (1 ∶ 6 ∷ 9 ∶ 4 ∷ []))) (0x28 ∷ 0x6F ∷ [])
unfolding below up_to next same with_bit handover after_bit finishing move run
listen_complete = record { verdict = refl; bytes = refl }

pub listen_explained : ListenExplained
listen_explained = (((command_demand3 (ticks (listen 200 ++ (1 ∶ 6 ∷ 9 ∶ 4 ∷ [])))).exactly (0x28 ∷ 0x6F ∷ [])).0 listen_complete).0

-- Both tracks are free after the finish.
command80_keeps : (after : Free) → PlanRules command_limits (command80 after)
command80_keeps after =
    plan80_keeps command_limits _
    (record {
      entry = refl;
      plain = search rules;
      frame = frame80_keeps command_limits refl refl refl refl refl refl 1 1 101 (omega arith) (omega arith) (omega arith) (omega arith);
    })

pub free_after_finish : FreeAfterFinish
free_after_finish =
    record {
      receiver_pulling = explains80 command_limits (command80 receiver_after) _ (command80_keeps receiver_after) refl refl;
      sender_pulling = explains80 command_limits (command80 receiver_after) _ (command80_keeps sender_after) refl refl;
    }

-- Tick 0 has ATN pulled or released, or is marked, and one of the entries stops there.
stops_at_once : (L : Limits) (entry : Entry) (m a c d : Bool) (w : List Tick) → L.entry ≡ entry
    → run L 0 Start (tick m (lines a c d) ∷ w)
    ≡ onward (unless_marked m (heed entry a (Stop Attention) (next L 0 Start c d) (Stop AttentionReleased))) 0 (λ (q : Phase). run L 1 q w)
unfolding run move
stops_at_once L entry m a c d w e =
    ap (λ (n : Entry).
    onward (unless_marked m (heed n a (Stop Attention) (next L 0 Start c d) (Stop AttentionReleased))) 0 (λ (q : Phase). run L 1 q w)) e

abbrev IsComplete : Verdict → Type 0
IsComplete Complete = Unit {0}
IsComplete Cut = ⊥
IsComplete (Broken f) = ⊥

pub never_both : NeverBoth
unfolding run
never_both L M [] p c x y = subst IsComplete (sym x) tt
never_both L M (t ∷ w) p c x y = by_atn t.marked t.lines.atn t.lines.clk t.lines.«data» x y
  where
    by_atn : (m a b d : Bool)
        → let t = tick m (lines a b d) in
        (outcome L (t ∷ w)).decision.verdict ≡ Complete → (outcome M (t ∷ w)).decision.verdict ≡ Complete → ⊥
    by_atn true a b d x y = subst IsComplete (sym x ∙ ap (λ o. o.decision.verdict) (stops_at_once L Plain true a b d w p)) tt
    by_atn false true b d x y = subst IsComplete (sym x ∙ ap (λ o. o.decision.verdict) (stops_at_once L Plain false true b d w p)) tt
    by_atn false false b d x y =
        subst IsComplete (sym y ∙ ap (λ o. o.decision.verdict) (stops_at_once M Command false false b d w c)) tt
