-- A pair of a sender and a receiver for a string, what it gives, and its two ticks for each byte.
use Rattle.std.specs.Prelude.{ℕ, ◌≤◌, Bool, ◌||◌, List, [], ◌∷◌, map, ◌≡◌}
use Rattle.transfer.specs.{Types.Entry, Types.Limits, Types.Lines, Types.Byte, Rules.PlanRules}
use Rattle.transfer.specs.Parties.{Pulls, pulls, past, attention, Plan, track, plan_bytes}

-- A sender track has CLK and DATA pulls at each tick, a receiver track DATA pulls.
pub record SenderPulls : Type 0 where
  pub clk : Bool
  pub «data» : Bool

abbrev pub sender_pulls : Pulls → SenderPulls
sender_pulls (pulls clk sender receiver) = record { clk = clk; «data» = sender }
sender_pulls (past clk sender receiver) = record { clk = clk; «data» = sender }

abbrev pub receiver_pulls : Pulls → Bool
receiver_pulls (pulls clk sender receiver) = receiver
receiver_pulls (past clk sender receiver) = receiver

abbrev pub sender_track : Plan → List SenderPulls
sender_track p = map sender_pulls (track p)

abbrev pub receiver_track : Plan → List Bool
receiver_track p = map receiver_pulls (track p)

-- ATN beside the two tracks.
abbrev pub attention_track : Entry → Plan → List Bool
attention_track entry p = map (attention entry) (track p)

-- "The pair gives the recording if ATN is released", or for commands as #101 has it, "CLK is the sender's and DATA is pulled exactly when
-- either pulls." All tracks of a pair come from one plan, so they are of one length.
abbrev pub gives : (atn : List Bool) → List SenderPulls → List Bool → List Lines
gives [] sender receiver = []
gives (a ∷ atn) [] receiver = []
gives (a ∷ atn) (s ∷ sender) [] = []
gives (a ∷ atn) (s ∷ sender) (r ∷ receiver) =
    record { atn = a; clk = s.clk; «data» = r || s.«data» } ∷ gives atn sender receiver

abbrev pub values : List Byte → List ℕ
values bytes = map (λ (b : Byte). b.value) bytes

-- "A pair for a string of one or more bytes is a sender track .. and a receiver track .. with" a plan that keeps the rules;
-- `dated` has the bytes with "a pair's two ticks for" each.
pub record Pair (L : Limits) (string : List ℕ) (sender : List SenderPulls) (receiver : List Bool) (dated : List Byte) : Type 0 where
  pub plan : Plan
  pub rules : PlanRules L plan
  pub sends : sender ≡ sender_track plan
  pub receives : receiver ≡ receiver_track plan
  pub string_is : string ≡ values (plan_bytes plan)
  pub dated_so : dated ≡ plan_bytes plan

-- "At each of the two places of each byte, that tick or a later one": b against the ledger's a, for the same bytes.
abbrev pub SameOrLater : (ledger other : List Byte) → Type 0
SameOrLater [] [] = Unit {0}
SameOrLater [] (b ∷ other) = ⊥
SameOrLater (a ∷ ledger) [] = ⊥
SameOrLater (a ∷ ledger) (b ∷ other) =
    (a.value ≡ b.value) × (a.let_go ≤ b.let_go) × (a.take ≤ b.take) × SameOrLater ledger other
