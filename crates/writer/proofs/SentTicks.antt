-- The bus shows of a card's plan what the steps put down show. Assumes nothing.
use Rattle.std.specs.Prelude.{ℕ, zero, suc, ◌+◌, ◌-◌, ◌*◌, ◌/◌, ◌%◌, ◌≤◌, ◌<◌, Bool, true, false, List, [], ◌∷◌, ◌++◌, map, replicate}
use Rattle.std.specs.Prelude.{◌≡◌, eqb, if◌then◌else◌}
use native.Mathlib.Omega.{arith}
use mathlib.Core.List.{map-append, append-nil, append_assoc}
use mathlib.Core.Path.{refl, sym, ap, ap₂, ◌∙◌}
use Rattle.recording.specs.{Types.Step, Ticks.ticks}
use Rattle.transfer.specs.{Types.Tick, Limits.standard_limits, Lines.lines_of, Ticks.tick}
use Rattle.transfer.specs.Parties.{Pulls, nobody, held, clock, clock_held, sets, offers, bits_track, frame_track}
use Rattle.transfer.specs.Parties.{track}
use Rattle.transfer.proofs.{Rows.unmarked, Forward.shows as onBus, HandoverTicks.frame_ticks_lem, Plans.handover_is}
use Rattle.judge.specs.Judged.{ticks_shown}
use Rattle.judge.proofs.TickLists.{map-replicate, step_shows, all_same}
use Rattle.writer.specs.WrittenSteps.{shows, bit_steps, byte_steps, sent_steps}
use Rattle.writer.specs.declared.card.Card.{Card}
use Rattle.writer.proofs.SentPlan.{odd, bits_of, frame_of, plan_of}

-- What the bus shows of both tracks, with ATN released, is what the ticks of the steps show.
pub record Gives (js : List Pulls) (steps : List Step) : Type 0 where
  pub same : map (onBus standard_limits) js ≡ ticks_shown steps

gives_nothing : Gives [] []
unfolding ticks
gives_nothing = record { same = refl }

-- Equal ticks of both tracks in front, and the step that shows them; the same where nothing follows.
gives_step : (p : Pulls) {byte n : ℕ} {js : List Pulls} {steps : List Step} → tick false (lines_of byte) ≡ onBus standard_limits p
    → Gives js steps → Gives (replicate n p ++ js) (record { duration = n; lines = byte; last = 0 } ∷ steps)
unfolding ticks
gives_step p {byte = byte} {n = n} {js = js} {steps = steps} e rest =
    let bus = onBus standard_limits in
    record {
      same =
          map-append bus (replicate n p) js
          ∙ ap (λ w. w ++ map bus js) (map-replicate bus n p)
          ∙ ap₂ (λ (t : Tick) w. replicate n t ++ w) (sym e) rest.same
          ∙ ap (λ w. w ++ ticks_shown steps) (all_same (tick false (lines_of byte)) n refl)
          ∙ sym (step_shows (record { duration = n; lines = byte; last = 0 }) (ticks steps));
    }

gives_last : (p : Pulls) {byte n : ℕ} → tick false (lines_of byte) ≡ onBus standard_limits p
    → Gives (replicate n p) (record { duration = n; lines = byte; last = 0 } ∷ [])
gives_last p {n = n} e = rw (← (append-nil (replicate n p))) (gives_step p e gives_nothing)

-- The line byte of a bit's step, d being the bit.
bit_lines : (clk : Bool) (d : ℕ) → d < 2
    → tick false (lines_of (2 * (if clk then 1 else 0) + 4 * d)) ≡ unmarked false clk (eqb d 1)
bit_lines true zero h = refl
bit_lines true (suc zero) h = refl
bit_lines false zero h = refl
bit_lines false (suc zero) h = refl
bit_lines clk (suc (suc d)) h = absurd (omega arith)

-- The ticks of a set-up are equal.
set_up_shows : (b : Bool) (n : ℕ) → map sets (replicate n b) ≡ replicate n (sets b)
set_up_shows b zero = refl
set_up_shows b (suc n) = ap (λ w. sets b ∷ w) (set_up_shows b n)

set_up_ticks : (b : Bool) (n : ℕ) (js : List Pulls) → 1 ≤ n
    → sets b ∷ (map sets (replicate (n - 1) b) ++ js) ≡ replicate n (sets b) ++ js
set_up_ticks b n js h =
    let one_more : suc (n - 1) ≡ n = omega arith in
    ap (λ w. sets b ∷ (w ++ js)) (set_up_shows b (n - 1)) ∙ ap (λ (k : ℕ). replicate k (sets b) ++ js) one_more

module _ (card : Card) (some : 1 ≤ card.set_up) where
  gives_bits : (k value : ℕ) {js : List Pulls} {steps : List Step} → Gives js steps
      → Gives (bits_track (bits_of card k value) js) (bit_steps card k value ++ steps)
  unfolding bits_of bit_steps
  gives_bits zero value rest = rest
  gives_bits (suc k) value rest =
      rw set_up_ticks
      (gives_step (sets (odd value)) (bit_lines true (value % 2) (omega arith))
      (gives_step (offers (odd value)) (bit_lines false (value % 2) (omega arith)) (gives_bits k (value / 2) rest)))

  -- A byte from its bits on: the steps that follow begin with the receiver's hold.
  gives_frame : (value : ℕ) (js : List Pulls) {steps : List Step} → Gives (replicate card.hold clock_held ++ js) steps
      → Gives (frame_track (frame_of card value) js) (bit_steps card 8 value ++ (shows 1 0 card.take ∷ []) ++ steps)
  gives_frame value js rest =
      let taken = handover_is 0 card.take card.hold card.take (card.take + card.hold) js (omega arith) refl in
      rw (frame_ticks_lem, ← taken, append_assoc) (gives_bits 8 value (gives_step clock refl rest))

  -- The steps of one byte or more.
  pub gives_sent : (first : ℕ) (others : List ℕ) → Gives (track (plan_of card first others)) (sent_steps card first others)
  unfolding sent_steps byte_steps
  gives_sent first [] =
      gives_step clock_held refl (gives_step held refl (gives_step nobody refl (gives_step held refl (gives_step nobody refl
      (gives_frame first _ (gives_step clock_held refl (gives_step held refl (gives_last nobody refl))))))))
  gives_sent first (second ∷ others) =
      gives_step clock_held refl (gives_step held refl (gives_step nobody refl (gives_frame first _ (gives_sent second others))))
