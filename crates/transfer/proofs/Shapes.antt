-- What may follow in each phase of a run that ends complete, as ticks of both tracks: so many ticks of one kind, then a tick of another.
-- Assumes nothing.
use Rattle.std.specs.Prelude.{ℕ, zero, suc, ◌+◌, ◌≤◌, ◌<◌, Bool, true, false, List, [], ◌∷◌, ◌++◌, map, length, replicate, ◌≡◌}
use native.Mathlib.Omega.{arith}
use mathlib.Core.{Path.refl, Path.ap, Path.◌∙◌, Logic.◌⊎◌}
use Rattle.transfer.specs.{Phases.with_bit, Rules.last_of, Rules.SendingRules}
use Rattle.transfer.specs.Parties.{Pulls, pulls, nobody, held, clock, clock_held, sets, offers, Free, Sending, more, last, last_command}
use Rattle.transfer.specs.Parties.{finish_tick, free_tick, sending_track, sending_bytes}
use Rattle.transfer.specs.Types.{Command, Limits, Byte, Phase, Start, FirstHold, Hold, ReadyToSend, ReadyForData, Acknowledgement}
use Rattle.transfer.specs.Types.{Acknowledged, SetUp, Valid, Open, Carried, End, Finished, Decided}

-- The sender pulls CLK and keeps DATA.
abbrev pub clock_kept : Pulls
clock_kept = pulls true true false

-- The rest of the tracks from a tick on, and the bytes that are handed over in it.
abbrev pub Rest : Type 1
Rest = (now : ℕ) → List Pulls → List Byte → Type 0

-- So many ticks of p, then K.
pub record Stays (p : Pulls) (K : Rest) (now : ℕ) (js : List Pulls) (l : List Byte) : Type 0 where
  pub count : ℕ
  pub till : ℕ
  pub rest : List Pulls
  pub ends : now + count ≡ till
  pub splits : js ≡ replicate count p ++ rest
  pub after : K till rest l

-- One tick of p, then K.
pub record First (p : Pulls) (K : Rest) (now : ℕ) (js : List Pulls) (l : List Byte) : Type 0 where
  pub rest : List Pulls
  pub splits : js ≡ p ∷ rest
  pub after : K (suc now) rest l

-- One tick of p or more, then K.
pub record Many (p : Pulls) (K : Rest) (now : ℕ) (js : List Pulls) (l : List Byte) : Type 0 where
  pub count : ℕ
  pub till : ℕ
  pub rest : List Pulls
  pub some : 1 ≤ count
  pub ends : now + count ≡ till
  pub splits : js ≡ replicate count p ++ rest
  pub after : K till rest l

module _ {p : Pulls} {K : Rest} {now : ℕ} {js : List Pulls} {l : List Byte} where
  pub leaves : K now js l → Stays p K now js l
  leaves k = record { count = 0; till = now; rest = js; ends = omega arith; splits = refl; after = k }

  pub stay : Stays p K (suc now) js l → Stays p K now (p ∷ js) l
  stay s =
      record {
        count = suc s.count;
        till = s.till;
        rest = s.rest;
        ends = omega (arith, s.ends);
        splits = ap (λ x. p ∷ x) s.splits;
        after = s.after;
      }

  pub one : K (suc now) js l → First p K now (p ∷ js) l
  one k = record { rest = js; splits = refl; after = k }

  pub many : First p (Stays p K) now js l → Many p K now js l
  many f =
      let s = f.after in
      record {
        count = suc s.count;
        till = s.till;
        rest = s.rest;
        some = omega arith;
        ends = omega (arith, s.ends);
        splits = f.splits ∙ ap (λ x. p ∷ x) s.splits;
        after = s.after;
      }

  pub joined : First p (Stays p K) now js l → Stays p K now js l
  joined f =
      let s = many f in
      record { count = s.count; till = s.till; rest = s.rest; ends = s.ends; splits = s.splits; after = s.after }

-- Ticks after the finish in which the sender keeps off DATA.
abbrev pub KeepsOff : List Free → Type 0
KeepsOff [] = Unit {0}
KeepsOff (x ∷ after) = (x.sender ≡ false) × KeepsOff after

-- A plan in which the sender has let go when the receiver takes, and keeps off DATA after the finish.
abbrev pub Tidy : Sending → Type 0
Tidy (more gap f wait rest) = (f.let_go ≤ f.take) × Tidy rest
Tidy (last gap acknowledgement response f wait silence) = f.let_go ≤ f.take
Tidy (last_command gap f after) = (f.let_go ≤ f.take) × KeepsOff after

module _ (L : Limits) where
  -- The rest is what a plan that keeps the rules sends from here on.
  pub record Sends (now : ℕ) (js : List Pulls) (l : List Byte) : Type 0 where
    pub plan : Sending
    pub rules : SendingRules L plan
    pub tidy : Tidy plan
    pub is : js ≡ sending_track plan
    pub bytes : l ≡ sending_bytes now plan

  -- E
  pub record Silent (now : ℕ) (js : List Pulls) (l : List Byte) : Type 0 where
    pub count : ℕ
    pub is : js ≡ replicate count nobody
    pub bytes : l ≡ []

  -- After the finish of commands.
  pub record Frees (now : ℕ) (js : List Pulls) (l : List Byte) : Type 0 where
    pub after : List Free
    pub tidy : KeepsOff after
    pub is : js ≡ map free_tick after
    pub bytes : l ≡ []

  -- After C: the end, or a further byte.
  abbrev pub AfterC : (ended : Bool) → Rest
  AfterC true now js l = First nobody Silent now js l
  AfterC false now js l = Sends now js l

  -- After a hold: the release of CLK, and C; or the finish of commands.
  pub data AfterHold (end_mark : Bool) (now : ℕ) (js : List Pulls) (l : List Byte) : Type 0 where
    releases : First held (Stays held (AfterC end_mark)) now js l → AfterHold end_mark now js l
    finishes : L.entry ≡ Command → First finish_tick Frees now js l → AfterHold end_mark now js l

  -- b is handed over, `earliest` or later.
  pub record HandsOver (b : Byte) (end_mark : Bool) (earliest : ℕ) (now : ℕ) (js : List Pulls) (l : List Byte) : Type 0 where
    pub late : earliest ≤ now
    pub others : List Byte
    pub hands : l ≡ b ∷ others
    pub after : AfterHold end_mark now js others

  -- B
  abbrev pub Holds : Byte → (end_mark : Bool) → Rest
  Holds b end_mark = Stays clock_held (HandsOver b end_mark (b.take + L.between_bytes))

  -- Handover
  abbrev pub Opened : (end_mark : Bool) (value since let_go : ℕ) → Rest
  Opened end_mark value since let_go =
      Stays clock
      (λ now js l.
      (now ≤ since + L.take_latest)
      × First clock_held (Holds (record { value = value; let_go = let_go; take = now }) end_mark) now js l)

  abbrev pub Carries : (end_mark : Bool) (value since : ℕ) → Rest
  Carries end_mark value since now js l =
      Stays clock_kept (λ now js l. (now ≤ since + L.keep_most) × First clock (Opened end_mark value since now) now js l) now js l
      ⊎ Stays clock_held
      (HandsOver (record { value = value; let_go = since + 1; take = since + 1 }) end_mark (suc (since + L.between_bytes)))
      now js l

  pub data Handover (end_mark bit8 : Bool) (value now : ℕ) (js : List Pulls) (l : List Byte) : Type 0 where
    opens : First clock (Opened end_mark value now now) now js l → Handover end_mark bit8 value now js l
    carries : bit8 ≡ true → First clock_kept (Carries end_mark value now) now js l → Handover end_mark bit8 value now js l

  -- Bits
  abbrev pub ValidTicks : (since : ℕ) (bit : Bool) → (Bool → Rest) → Rest
  ValidTicks since bit K =
      Stays (offers bit) (λ now js l. (since + L.valid_least ≤ now) × (now ≤ since + L.valid_most) × K bit now js l)

  pub record SetUpTicks (since : ℕ) (d : Bool) (K : Bool → Rest) (now : ℕ) (js : List Pulls) (l : List Byte) : Type 0 where
    pub pulled : List Bool
    pub till : ℕ
    pub rest : List Pulls
    pub ends : now + length pulled ≡ till
    pub fits : till ≤ since + L.set_up_most
    pub splits : js ≡ map sets pulled ++ rest
    pub after : First (offers (last_of d pulled)) (ValidTicks till (last_of d pulled) K) till rest l

  -- `bits_left` bits after those that make `value`, of which the last was `bit`; then the handover.
  abbrev pub Bits : (end_mark : Bool) (bits_left value : ℕ) (bit : Bool) → Rest
  Bits end_mark zero value bit now js l = Handover end_mark bit value now js l
  Bits end_mark (suc bits_left) value bit now js l =
      (d : Bool) × First (sets d) (SetUpTicks now d (λ c. Bits end_mark bits_left (with_bit value c) c)) now js l

  -- G, F and D
  abbrev pub Responds : (since : ℕ) → Rest
  Responds since = Stays nobody (λ now js l. (now ≤ since + L.response) × Bits true 8 0 false now js l)

  abbrev pub Acknowledges : (since : ℕ) → Rest
  Acknowledges since =
      Stays held
      (λ now js l.
      (since + L.acknowledge_least ≤ now) × (now ≤ since + L.acknowledge_most) × First nobody (Responds now) now js l)

  -- What ends D: the CLK pull of a plain byte, or the acknowledgement of an end mark.
  abbrev pub AfterD : (since : ℕ) → Rest
  AfterD since now js l =
      ((now < since + L.end_mark) × Bits false 8 0 false now js l)
      ⊎ ((since + L.end_mark ≤ now) × (now ≤ since + L.end_mark_latest) × First held (Acknowledges now) now js l)

  -- B before any byte
  abbrev pub FirstHolds : Rest
  FirstHolds = Stays clock_held (First held (Stays held Sends))

  abbrev pub Shape : Phase → Rest
  Shape Start = Stays clock (λ now js l. (now ≤ L.presence) × First clock_held FirstHolds now js l)
  Shape FirstHold = FirstHolds
  Shape (Hold end_mark value take let_go) = Holds (record { value = value; let_go = let_go; take = take }) end_mark
  Shape (ReadyToSend some-handed ended) = Stays held (AfterC ended)
  Shape (ReadyForData some-handed since) = Stays nobody (AfterD since)
  Shape (Acknowledgement some-handed since ready-tick) = Acknowledges since
  Shape (Acknowledged some-handed since ready-tick) = Responds since
  Shape (SetUp end_mark value d since bits_left) = SetUpTicks since d (λ c. Bits end_mark bits_left (with_bit value c) c)
  Shape (Valid end_mark value bit since bits_left) = ValidTicks since bit (λ c. Bits end_mark bits_left (with_bit value c) c)
  Shape (Open end_mark value since let_go) = Opened end_mark value since let_go
  Shape (Carried end_mark value since) = Carries end_mark value since
  Shape (End finish) = Silent
  Shape (Finished finish) = Frees
  Shape (Decided fault) = λ now js l. ⊥
