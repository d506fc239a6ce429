-- The rules that both parties keep: the bullets of "The two parties' own rules", in their order, with #101's words for commands beside
-- them, and then what they ask of a byte, of a sending and of a plan. "Every change is dated by the first tick that shows it."
use Rattle.std.specs.Prelude.{ℕ, suc, ◌+◌, ◌≤◌, ◌<◌, Bool, false, List, [], ◌∷◌, map, length, ◌≡◌}
use Rattle.transfer.specs.Types.{Plain, Command, Limits}
use Rattle.transfer.specs.Parties.{Bit, Frame, Sending, more, last, last_command, Plan}

-- The last of d and what follows it.
abbrev pub last_of : Bool → List Bool → Bool
last_of d [] = d
last_of d (e ∷ others) = last_of e others

-- Bit 8, the last of a byte's bits.
abbrev pub bit_eight : List Bit → Bool
bit_eight bits = last_of false (map (λ (x : Bit). x.bit) bits)

module _ (L : Limits) where
  -- "The sender pulls CLK from tick 0. The receiver takes DATA at tick 0 to 256 and holds it."
  pub record FirstTakeRule (found : ℕ) : Type 0 where
    pub in_time : found ≤ L.presence

  -- "The sender releases CLK 1 or more ticks after that take; .."
  pub record FirstReleaseRule (hold : ℕ) : Type 0 where
    pub after_take : 1 ≤ hold

  -- ".. for later bytes, and after the last, 100 or more after the latest take." Commands: "the finish .. comes 100 or more ticks after
  -- the latest take".
  pub record ReleaseRule (take release : ℕ) : Type 0 where
    pub after_take : take + L.between_bytes ≤ release

  -- "The receiver lets go 1 or more ticks later."
  pub record LetGoRule (wait : ℕ) : Type 0 where
    pub later : 1 ≤ wait

  -- "Not the last byte: the sender pulls CLK 1 to 199 ticks after the letting go." Commands: "the CLK pull before the last byte's bits
  -- keeps the 1 to 199".
  pub record PlainRule (gap : ℕ) : Type 0 where
    pub least : 1 ≤ gap
    pub most : gap < L.end_mark

  -- "Last byte: the receiver pulls DATA 200 to 290 ticks after, for 60 to 150 ticks; the sender pulls CLK 1 to 60 ticks after
  -- that."
  pub record EndMarkRule (gap acknowledgement response : ℕ) : Type 0 where
    pub gap_least : L.end_mark ≤ gap
    pub gap_most : gap ≤ L.end_mark_latest
    pub acknowledgement_least : L.acknowledge_least ≤ acknowledgement
    pub acknowledgement_most : acknowledgement ≤ L.acknowledge_most
    pub response_least : 1 ≤ response
    pub response_most : response ≤ L.response

  -- "The sender sends eight bits with the set-up, valid and steadiness rules above; .." Steady: the first valid tick shows the DATA
  -- of the last set-up tick, and the further ones keep it.
  pub record BitRule (x : Bit) : Type 0 where
    pub set_up : suc (length x.others) ≤ L.set_up_most
    pub valid_least : L.valid_least ≤ x.valid
    pub valid_most : x.valid ≤ L.valid_most
    pub steady : x.bit ≡ last_of x.first x.others

  abbrev pub BitRules : List Bit → Type 0
  BitRules [] = Unit {0}
  BitRules (x ∷ bits) = BitRule x × BitRules bits

  pub record EightBitsRule (bits : List Bit) : Type 0 where
    pub eight : length bits ≡ 8
    pub each : BitRules bits

  -- "After bit 8 the sender pulls CLK. If that bit was one it may go on pulling DATA without a break and stops at offset 0 to
  -- 100; if zero it doesn't pull. The receiver takes DATA at offset 1 to 1,000 and holds it."
  pub record HandoverRule (bit8 : Bool) (let_go take : ℕ) : Type 0 where
    pub keeps : let_go ≤ L.keep_most
    pub zero_keeps_not : bit8 ≡ false → let_go ≡ 0
    pub take_least : 1 ≤ take
    pub take_most : take ≤ L.take_latest

  -- "The tick of the last letting go is in the recording, and from it on nobody pulls anything."
  pub record SilenceRule (silence : ℕ) : Type 0 where
    pub some : 1 ≤ silence

  -- A byte keeps the rules of its bits, of its handover and of the release, or the finish, after it.
  pub record FrameRules (f : Frame) : Type 0 where
    pub bits : EightBitsRule f.bits
    pub handover : HandoverRule (bit_eight f.bits) f.let_go f.take
    pub release : ReleaseRule f.take f.release

  pub record MoreRules (gap : ℕ) (f : Frame) (wait : ℕ) : Type 0 where
    pub plain : PlainRule gap
    pub frame : FrameRules f
    pub let_go : LetGoRule wait

  -- So ends a data transfer.
  pub record LastRules (gap acknowledgement response : ℕ) (f : Frame) (wait silence : ℕ) : Type 0 where
    pub entry : L.entry ≡ Plain
    pub end_mark : EndMarkRule gap acknowledgement response
    pub frame : FrameRules f
    pub let_go : LetGoRule wait
    pub silent : SilenceRule silence

  -- So end commands: "minus the end mark .. and minus document 01's release, letting go and silence after the last byte". Nothing is asked
  -- of the ticks after the finish.
  pub record LastCommandRules (gap : ℕ) (f : Frame) : Type 0 where
    pub entry : L.entry ≡ Command
    pub plain : PlainRule gap
    pub frame : FrameRules f

  abbrev pub SendingRules : Sending → Type 0
  SendingRules (more gap f wait rest) = MoreRules gap f wait × SendingRules rest
  SendingRules (last gap acknowledgement response f wait silence) = LastRules gap acknowledgement response f wait silence
  SendingRules (last_command gap f after) = LastCommandRules gap f

  pub record PlanRules (p : Plan) : Type 0 where
    pub first_take : FirstTakeRule p.found
    pub first_release : FirstReleaseRule p.hold
    pub first_let_go : LetGoRule p.wait
    pub sending : SendingRules p.sending
