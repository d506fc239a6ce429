-- Facts that keep the statements from being empty or wide.
use Rattle.std.specs.Prelude.{ℕ, suc, ◌≤◌, ◌<◌, Bool, true, false, List, [], ◌∷◌, ◌++◌, map, length, replicate, ◌≡◌}
use Rattle.transfer.specs.Types.{Plain, Command, Limits, Lines, Tick, Byte}
use Rattle.transfer.specs.{Limits.standard_limits, Limits.command_limits, Outcome.outcome, Moves.broken_at, Spans.Span}
use Rattle.transfer.specs.Demand3.{Explains, Explained}
use Rattle.transfer.specs.Ticks.{lines_in}
use Rattle.transfer.specs.Spans.{◌∶◌, lost, ticks, till41, s1, listen}
use Rattle.transfer.specs.Parties.{Bit, Frame, Free, Sending, last, last_command, Plan, plan_bytes}
use Rattle.transfer.specs.Pair.{SenderPulls, Pair, sender_track, receiver_track, attention_track, gives}
use Rattle.answer.specs.Types.{Overrun, Complete}

-- A pair is for one byte or more, each of them below 256.
abbrev pub AllBytes : List ℕ → Type 0
AllBytes [] = Unit {0}
AllBytes (v ∷ string) = (v < 256) × AllBytes string

pub record SomeBytes (string : List ℕ) : Type 0 where
  pub one : 1 ≤ length string
  pub bytes : AllBytes string

abbrev pub PairSendsBytes : Type 0
PairSendsBytes =
    (L : Limits) (string : List ℕ) (sender : List SenderPulls) (receiver : List Bool) (dated : List Byte)
    → Pair L string sender receiver dated → SomeBytes string

-- S1 has a pair.
abbrev pub S1Explained : Type 0
S1Explained = Explained standard_limits (lines_in (ticks s1)) (0x41 ∷ [])

-- With ticks lost after its end, S1 shows the same lines, so that it has a pair; and it is not complete.
abbrev pub s1_lost : List Span
s1_lost = till41 ++ (30 ∶ 2 ∷ 200 ∶ 6 ∷ 50 ∶ 4 ∷ lost (100 ∶ 0) ∷ [])

pub record LostThoughExplained : Type 0 where
  pub has_pair : Explained standard_limits (lines_in (ticks s1_lost)) (0x41 ∷ [])
  pub is_broken : (outcome standard_limits (ticks s1_lost)).decision ≡ broken_at Overrun 1910

-- The byte 0x80, each set-up one tick and each valid time 20, as the first and last one of a plan.
abbrev pub one_tick : Bool → Bit
one_tick b = record { first = b; others = []; bit = b; valid = 20 }

abbrev pub frame80 : (let_go take release : ℕ) → Frame
frame80 let_go take release =
    let o = one_tick false in
    record { bits = o ∷ o ∷ o ∷ o ∷ o ∷ o ∷ o ∷ one_tick true ∷ []; let_go = let_go; take = take; release = release }

abbrev pub plan80 : Sending → Plan
plan80 sending = record { found = 0; hold = 1; wait = 1; sending = sending }

-- The pair of the plan p explains, with the byte 0x80, what the pair of the plan q gives.
abbrev pub Explains80 : Limits → (q p : Plan) → Type 0
Explains80 L q p =
    Explains L (gives (attention_track L.entry q) (sender_track q) (receiver_track q)) (0x80 ∷ []) (sender_track p) (receiver_track p)
    (plan_bytes p)

-- One recording may have several pairs. DATA pulled without a break for 160 ticks after bit 8: the sender lets go and the receiver takes at
-- offset 1, or the receiver takes at offset 50 while the sender keeps DATA until offset 60.
abbrev pub byte80 : (let_go take : ℕ) → Plan
byte80 let_go take = plan80 (last 200 60 1 (frame80 let_go take 160) 1 1)

pub record TwoPairs : Type 0 where
  pub early : Explains80 standard_limits (byte80 1 1) (byte80 1 1)
  pub late : Explains80 standard_limits (byte80 1 1) (byte80 60 50)
  pub early_bytes : plan_bytes (byte80 1 1) ≡ record { value = 0x80; let_go = 432; take = 432 } ∷ []
  pub late_bytes : plan_bytes (byte80 60 50) ≡ record { value = 0x80; let_go = 491; take = 481 } ∷ []

-- A command recording has a pair.
abbrev pub ListenExplained : Type 0
ListenExplained = Explained command_limits (lines_in (ticks (listen 200 ++ (1 ∶ 6 ∷ 9 ∶ 4 ∷ [])))) (0x28 ∷ 0x6F ∷ [])

-- "What CLK and DATA show after [the finish] binds nobody": DATA in the tick after it may be the receiver's or the sender's.
abbrev pub command80 : Free → Plan
command80 after = plan80 (last_command 1 (frame80 1 1 101) (after ∷ []))

abbrev pub receiver_after : Free
receiver_after = record { clk = true; sender = false; receiver = true }

abbrev pub sender_after : Free
sender_after = record { clk = true; sender = true; receiver = false }

pub record FreeAfterFinish : Type 0 where
  pub receiver_pulling : Explains80 command_limits (command80 receiver_after) (command80 receiver_after)
  pub sender_pulling : Explains80 command_limits (command80 receiver_after) (command80 sender_after)

-- ATN in a tick list that a pair gives: "released throughout"; for commands "pulled until the finish and released from it on", and "the
-- finish is in the recording".
pub record UntilFinish (w : List Lines) : Type 0 where
  pub finish : ℕ
  pub later : ℕ
  pub is : map (λ (l : Lines). l.atn) w ≡ replicate finish true ++ replicate (suc later) false

pub record AttentionIs (L : Limits) (w : List Lines) : Type 0 where
  pub plain : L.entry ≡ Plain → map (λ (l : Lines). l.atn) w ≡ replicate (length w) false
  pub command : L.entry ≡ Command → UntilFinish w

abbrev pub AttentionLaw : Type 0
AttentionLaw = (L : Limits) (w : List Lines) (string : List ℕ) → Explained L w string → AttentionIs L w

-- No tick list passes both entries, whatever the times.
abbrev pub NeverBoth : Type 0
NeverBoth =
    (L M : Limits) (w : List Tick) → L.entry ≡ Plain → M.entry ≡ Command → (outcome L w).decision.verdict ≡ Complete
    → (outcome M w).decision.verdict ≡ Complete → ⊥
