-- The shown pair of a tidy plan's recording and of the plan's own ticks is the plan's tracks. Assumes nothing.
use Rattle.std.specs.Prelude.{ℕ, zero, suc, ◌+◌, ◌≤◌, ◌<◌, Bool, true, false, ◌||◌, List, [], ◌∷◌, ◌++◌, map, length, replicate, ◌≡◌}
use Rattle.std.specs.Prelude.{if◌then◌else◌}
use native.Mathlib.Omega.{arith}
use mathlib.Core.Bool.{true≢false}
use mathlib.Core.Path.{refl, ap, ◌∙◌, subst, subst⁻¹}
use borrow.Author.Tests.{lt-ltb, le-ltb}
use Rattle.transfer.specs.{Types.Limits, Types.Lines, Types.Byte, Rules.FrameRules, Rules.SendingRules, Rules.PlanRules}
use Rattle.transfer.specs.{Demand3.Consistent, Ticks.lines_in}
use Rattle.transfer.specs.Parties.{Pulls, pulls, past, nobody, held, clock, clock_held, sets, offers, Bit, Frame, Free, Sending}
use Rattle.transfer.specs.Parties.{more, last}
use Rattle.transfer.specs.Parties.{last_command, Plan, finish_tick, free_tick}
use Rattle.transfer.specs.Parties.{bits_track, frame_track, sending_track, track, bits_ticks}
use Rattle.transfer.specs.Parties.{byte_of, after_frame, sending_bytes, plan_bytes}
use Rattle.transfer.specs.Shown.{Turn, holding, waiting, sending, pulls_in, shown_from, shown}
use Rattle.transfer.proofs.{Rows.lines, Forward.shows, Shapes.KeepsOff, Shapes.Tidy}
use Rattle.transfer.proofs.HandoverTicks.{is_zero, less, handover_ticks, frame_ticks_lem}

-- Who pulls in a tick: what is shown does not say whether it is past the finish.
abbrev pub bare : Pulls → Pulls
bare (pulls c s r) = pulls c s r
bare (past c s r) = pulls c s r

-- The lines that the bus shows.
abbrev pub seen : Limits → List Pulls → List Lines
seen L js = lines_in (map (shows L) js)

-- The ticks are shown as they are, from a tick and a turn on. It is a record so that tick and turn are found from what is to be shown.
record Same (L : Limits) (now : ℕ) (turn : Turn) (js : List Pulls) : Type 0 where
  is : shown_from now turn (seen L js) ≡ map bare js

at_tick : {L : Limits} {a b : ℕ} {turn : Turn} {js : List Pulls} → a ≡ b → Same L a turn js → Same L b turn js
at_tick {L = L} {turn = turn} {js = js} e h = subst (λ (now : ℕ). Same L now turn js) e h

-- What is shown of a tick within the byte b and of the rest, by the test that the letting go is ahead.
abbrev showing : Limits → (now : ℕ) (b : Byte) (ledger : List Byte) (js : List Pulls) (c d ahead : Bool) → List Pulls
showing L now b ledger js c d ahead =
    let turn = if ahead then sending b ledger else holding ledger in
    pulls_in turn c d ∷ shown_from (suc now) turn (seen L js)

-- One tick, and then the rest.
module _ {L : Limits} {now : ℕ} {ledger : List Byte} {js : List Pulls} where
  -- The receiver's turn: CLK stays pulled, is released, stays released.
  holds : (r : Bool) → Same L (suc now) (holding ledger) js → Same L now (holding ledger) (pulls true false r ∷ js)
  unfolding shown_from
  holds true h = record { is = ap (λ x. clock_held ∷ x) h.is }
  holds false h = record { is = ap (λ x. clock ∷ x) h.is }

  releases : Same L (suc now) (waiting ledger) js → Same L now (holding ledger) (held ∷ js)
  unfolding shown_from
  releases h = record { is = ap (λ x. held ∷ x) h.is }

  waits : (r : Bool) → Same L (suc now) (waiting ledger) js → Same L now (waiting ledger) (pulls false false r ∷ js)
  unfolding shown_from
  waits true h = record { is = ap (λ x. held ∷ x) h.is }
  waits false h = record { is = ap (λ x. nobody ∷ x) h.is }

  -- The sender's turn, within the byte b: it begins, goes on, and is over where the sender has let go.
  module _ (b : Byte) where
    begins : (d : Bool) → Same L (suc now) (sending b ledger) js → Same L now (waiting (b ∷ ledger)) (sets d ∷ js)
    unfolding shown_from
    begins d h = record { is = ap (λ x. sets d ∷ x) h.is }

    sends : (c d : Bool) → now < b.let_go → Same L (suc now) (sending b ledger) js
        → Same L now (sending b ledger) (pulls c d false ∷ js)
    unfolding shown_from
    sends c d e h =
        record { is = ap (showing L now b ledger js c d) (lt-ltb now b.let_go e) ∙ ap (λ x. pulls c d false ∷ x) h.is }

    lets_go : (r : Bool) → b.let_go ≤ now → Same L now (holding ledger) (pulls true false r ∷ js)
        → Same L now (sending b ledger) (pulls true false r ∷ js)
    unfolding shown_from
    lets_go r e h = record { is = ap (showing L now b ledger js true (r || false)) (le-ltb now b.let_go e) ∙ h.is }

-- k equal ticks in which the turn stays.
stays : {L : Limits} (turn : Turn) (p : Pulls) (k now : ℕ) {js : List Pulls}
    → ((i : ℕ) (ks : List Pulls) → i < now + k → Same L (suc i) turn ks → Same L i turn (p ∷ ks)) → Same L (now + k) turn js
    → Same L now turn (replicate k p ++ js)
stays turn p zero now f h = at_tick (omega arith) h
stays turn p (suc k) now f h =
    f now _ (omega arith) (stays turn p k (suc now) (λ i ks e. f i ks (omega arith)) (at_tick (omega arith) h))

module _ {L : Limits} {ledger : List Byte} {js : List Pulls} where
  holds_on : (r : Bool) (k now : ℕ) → Same L (now + k) (holding ledger) js
      → Same L now (holding ledger) (replicate k (pulls true false r) ++ js)
  holds_on r k now h = stays (holding ledger) (pulls true false r) k now (λ i ks e. holds r) h

  waits_on : (r : Bool) (k now : ℕ) → Same L (now + k) (waiting ledger) js
      → Same L now (waiting ledger) (replicate k (pulls false false r) ++ js)
  waits_on r k now h = stays (waiting ledger) (pulls false false r) k now (λ i ks e. waits r) h

  holds_waits : (k now : ℕ) → 1 ≤ k → Same L (now + k) (waiting ledger) js → Same L now (holding ledger) (replicate k held ++ js)
  holds_waits zero now one h = absurd (omega arith)
  holds_waits (suc k) now one h = releases (waits_on true k (suc now) (at_tick (omega arith) h))

  -- A handover once the sender has let go.
  holds_handover : (t n now : ℕ) → Same L (now + n) (holding ledger) js → Same L now (holding ledger) (handover_ticks n 0 t ++ js)
  holds_handover t zero now h = at_tick (omega arith) h
  holds_handover t (suc n) now h = holds (is_zero t) (holds_handover (less t) n (suc now) (at_tick (omega arith) h))

-- The sender's turn, within the byte b.
module _ {L : Limits} (b : Byte) {ledger : List Byte} where
  sends_set_up : (ds : List Bool) (now : ℕ) {js : List Pulls} → now + length ds ≤ b.let_go
      → Same L (now + length ds) (sending b ledger) js → Same L now (sending b ledger) (map sets ds ++ js)
  sends_set_up [] now e h = at_tick (omega arith) h
  sends_set_up (d ∷ ds) now e h = sends b true d (omega arith) (sends_set_up ds (suc now) (omega arith) (at_tick (omega arith) h))

  -- A bit after its first set-up tick; bits after others; and all bits of the byte.
  sends_bit : (x : Bit) (now : ℕ) {js : List Pulls} → now + length x.others + x.valid ≤ b.let_go
      → Same L (now + length x.others + x.valid) (sending b ledger) js
      → Same L now (sending b ledger) (map sets x.others ++ (replicate x.valid (offers x.bit) ++ js))
  sends_bit x now e h =
      sends_set_up x.others now (omega arith)
      (stays (sending b ledger) (offers x.bit) x.valid (now + length x.others) (λ i ks a. sends b false x.bit (omega arith)) h)

  sends_bits : (xs : List Bit) (now : ℕ) {js : List Pulls} → now + bits_ticks xs ≤ b.let_go
      → Same L (now + bits_ticks xs) (sending b ledger) js → Same L now (sending b ledger) (bits_track xs js)
  sends_bits [] now e h = at_tick (omega arith) h
  sends_bits (x ∷ xs) now e h =
      sends b true x.first (omega arith)
      (sends_bit x (suc now) (omega arith) (sends_bits xs _ (omega arith) (at_tick (omega arith) h)))

  sends_byte : (xs : List Bit) (now : ℕ) {js : List Pulls} → length xs ≡ 8 → now + bits_ticks xs ≤ b.let_go
      → Same L (now + bits_ticks xs) (sending b ledger) js → Same L now (waiting (b ∷ ledger)) (bits_track xs js)
  sends_byte [] now eight e h = absurd (omega arith)
  sends_byte (x ∷ xs) now eight e h =
      begins b x.first (sends_bit x (suc now) (omega arith) (sends_bits xs _ (omega arith) (at_tick (omega arith) h)))

  -- The handover, with the letting go k ticks ahead and the take t.
  sends_handover : (k t n now : ℕ) {js : List Pulls} → now + k ≡ b.let_go → k ≤ t → t < n → Same L (now + n) (holding ledger) js
      → Same L now (sending b ledger) (handover_ticks n k t ++ js)
  sends_handover k t zero now e f g h = absurd (omega arith)
  sends_handover zero t (suc n) now e f g h = lets_go b (is_zero t) (omega arith) (holds_handover t (suc n) now h)
  sends_handover (suc k) zero (suc n) now e f g h = absurd (omega arith)
  sends_handover (suc k) (suc t) (suc n) now e f g h =
      sends b true true (omega arith)
      (sends_handover k t n (suc now) (omega arith) (omega arith) (omega arith) (at_tick (omega arith) h))

-- After the finish the ledger is spent, and any DATA pull is the receiver's.
abbrev spent : (clk : Bool) → Turn
spent true = holding []
spent false = waiting []

shows_free : {L : Limits} (c : Bool) (now : ℕ) (after : List Free) → KeepsOff after → Same L now (spent c) (map free_tick after)
unfolding shown_from
shows_free c now [] off = record { is = refl }
shows_free {L = L} c now (x ∷ after) off =
    record {
      is =
          one c x.clk x.sender x.receiver off.0
          ∙ ap (λ y. bare (free_tick x) ∷ y) (shows_free {L = L} x.clk (suc now) after off.1).is;
    }
  where
    one : (b c s r : Bool) → s ≡ false
        → shown_from now (spent b) (lines false c (r || s) ∷ seen L (map free_tick after))
        ≡ pulls c s r ∷ shown_from (suc now) (spent c) (seen L (map free_tick after))
    one b c true r e = absurd (true≢false e)
    one true true false true e = refl
    one true true false false e = refl
    one true false false true e = refl
    one true false false false e = refl
    one false true false true e = refl
    one false true false false e = refl
    one false false false true e = refl
    one false false false false e = refl

shows_finish : {L : Limits} (now : ℕ) (after : List Free) → KeepsOff after → Same L now (holding []) (finish_tick ∷ map free_tick after)
unfolding shown_from
shows_finish {L = L} now after off = record { is = ap (λ x. clock_held ∷ x) (shows_free {L = L} true (suc now) after off).is }

shows_end : {L : Limits} (n now : ℕ) → Same L now (waiting []) (replicate n nobody)
unfolding shown_from
shows_end zero now = record { is = refl }
shows_end (suc n) now = waits false (shows_end n (suc now))

module _ (L : Limits) (times : Consistent L) where
  -- A byte whose bits begin at tick `now`.
  shows_frame : (f : Frame) (now : ℕ) {ledger : List Byte} {js : List Pulls} → FrameRules L f → f.let_go ≤ f.take
      → Same L (after_frame now f) (holding ledger) js → Same L now (waiting (byte_of now f ∷ ledger)) (frame_track f js)
  shows_frame f now {ledger = ledger} {js = js} rules tidy h =
      subst⁻¹ (Same L now (waiting (byte_of now f ∷ ledger))) (frame_ticks_lem f js)
      (sends_byte (byte_of now f) f.bits now rules.bits.eight (omega arith)
      (sends_handover (byte_of now f) f.let_go f.take f.release _ refl tidy
      (omega (arith, rules.release.after_take, times.keep_some, times.keep_release)) h))

  shows_sending : (now : ℕ) (s : Sending) → SendingRules L s → Tidy s → Same L now (waiting (sending_bytes now s)) (sending_track s)
  shows_sending now (more gap f wait rest) rules tidy =
      waits_on false gap now
      (shows_frame f _ rules.0.frame tidy.0
      (holds_waits wait _ rules.0.let_go.later (shows_sending (after_frame (now + gap) f + wait) rest rules.1 tidy.1)))
  shows_sending now (last gap ack resp f wait silence) rules tidy =
      waits_on false gap now
      (waits_on true ack _
      (waits_on false resp _ (shows_frame f _ rules.frame tidy (holds_waits wait _ rules.let_go.later (shows_end silence _)))))
  shows_sending now (last_command gap f after) rules tidy =
      waits_on false gap now (shows_frame f _ rules.frame tidy.0 (shows_finish _ after tidy.1))

  pub shows_plan : (p : Plan) → PlanRules L p → Tidy p.sending → shown (plan_bytes p) (seen L (track p)) ≡ map bare (track p)
  shows_plan p rules tidy = whole.is
    where
      whole : Same L 0 (holding (plan_bytes p)) (track p)
      whole =
          holds_on false p.found 0
          (at_tick (omega arith) (holds_on true p.hold p.found
          (holds_waits p.wait _ rules.first_let_go.later (shows_sending _ p.sending rules.sending tidy))))
