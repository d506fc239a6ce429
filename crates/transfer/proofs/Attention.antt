-- ATN in a tick list that a pair gives. Assumes nothing.
use Rattle.std.specs.Prelude.{ℕ, zero, suc, Bool, true, false, List, [], ◌∷◌, ◌++◌, map, length, replicate, ◌≡◌}
use mathlib.Core.Path.{refl, sym, ap, ap₂, ◌∙◌}
use lib.ListN.{length-map, length-replicate}
use Rattle.transfer.specs.Types.{Entry, Plain, Command, Limits, Lines}
use Rattle.transfer.specs.{Rules.SendingRules, Rules.PlanRules, Facts.AttentionLaw}
use Rattle.transfer.specs.Parties.{Pulls, pulls, past, attention, sets, Bit, Frame, Free, Sending, more, last}
use Rattle.transfer.specs.Parties.{last_command, Plan}
use Rattle.transfer.specs.Parties.{free_tick, bits_track, handover_track, frame_track, sending_track, track}
use Rattle.transfer.specs.{Pair.sender_pulls, Pair.receiver_pulls, Pair.attention_track, Pair.gives}
use Rattle.transfer.proofs.Stages.{plain_is_no_command}

abbrev atn : List Lines → List Bool
atn w = map (λ (l : Lines). l.atn) w

-- What a pair gives shows its ATN.
gives_attention : (entry : Entry) (js : List Pulls)
    → atn (gives (map (attention entry) js) (map sender_pulls js) (map receiver_pulls js)) ≡ map (attention entry) js
gives_attention entry [] = refl
gives_attention entry (j ∷ js) = ap (λ x. attention entry j ∷ x) (gives_attention entry js)

-- A data transfer's is released throughout.
plain_attention : (js : List Pulls) → map (attention Plain) js ≡ replicate (length js) false
plain_attention [] = refl
plain_attention (pulls c s r ∷ js) = ap (λ x. false ∷ x) (plain_attention js)
plain_attention (past c s r ∷ js) = ap (λ x. false ∷ x) (plain_attention js)

released_length : (w : List Lines) (n : ℕ) → atn w ≡ replicate n false → atn w ≡ replicate (length w) false
released_length w n e =
    e
    ∙ ap (λ (k : ℕ). replicate k false)
    (sym (length-replicate n false) ∙ sym (ap length e) ∙ length-map w (λ (l : Lines). l.atn))

-- Commands: ticks that go on, and then the finish and those after it.
record Finishes (js : List Pulls) : Type 0 where
  until : ℕ
  later : ℕ
  is : map (attention Command) js ≡ replicate until true ++ replicate (suc later) false

goes_on : (c s r : Bool) {js : List Pulls} → Finishes js → Finishes (pulls c s r ∷ js)
goes_on c s r f = record { until = suc f.until; later = f.later; is = ap (λ x. true ∷ x) f.is }

goes_on_equal : (c s r : Bool) (k : ℕ) {js : List Pulls} → Finishes js → Finishes (replicate k (pulls c s r) ++ js)
goes_on_equal c s r zero f = f
goes_on_equal c s r (suc k) f = goes_on c s r (goes_on_equal c s r k f)

goes_on_set_up : (ds : List Bool) {js : List Pulls} → Finishes js → Finishes (map sets ds ++ js)
goes_on_set_up [] f = f
goes_on_set_up (d ∷ ds) f = goes_on true d false (goes_on_set_up ds f)

goes_on_bits : (bits : List Bit) {js : List Pulls} → Finishes js → Finishes (bits_track bits js)
goes_on_bits [] f = f
goes_on_bits (x ∷ bits) f =
    goes_on true x.first false
    (goes_on_set_up x.others (goes_on_equal false x.bit false x.valid (goes_on_bits bits f)))

goes_on_handover : (let_go take offset n : ℕ) {js : List Pulls} → Finishes js → Finishes (handover_track let_go take offset n ++ js)
goes_on_handover let_go take offset zero f = f
goes_on_handover let_go take offset (suc n) f = goes_on true _ _ (goes_on_handover let_go take (suc offset) n f)

goes_on_frame : (f : Frame) {js : List Pulls} → Finishes js → Finishes (frame_track f js)
goes_on_frame f h = goes_on_bits f.bits (goes_on_handover f.let_go f.take 0 f.release h)

free_attention : (after : List Free) → map (attention Command) (map free_tick after) ≡ replicate (length after) false
free_attention [] = refl
free_attention (x ∷ after) = ap (λ y. false ∷ y) (free_attention after)

module _ (L : Limits) (command : L.entry ≡ Command) where
  sending_finishes : (s : Sending) → SendingRules L s → Finishes (sending_track s)
  sending_finishes (more gap f wait rest) rules =
      goes_on_equal false false false gap
      (goes_on_frame f (goes_on_equal false false true wait (sending_finishes rest rules.1)))
  sending_finishes (last gap ack resp f wait silence) rules = absurd (plain_is_no_command (sym rules.entry ∙ command))
  sending_finishes (last_command gap f after) rules =
      goes_on_equal false false false gap
      (goes_on_frame f (record { until = 0; later = length after; is = ap (λ x. false ∷ x) (free_attention after) }))

  plan_finishes : (p : Plan) → PlanRules L p → Finishes (track p)
  plan_finishes p rules =
      goes_on_equal true false false p.found
      (goes_on_equal true false true p.hold
      (goes_on_equal false false true p.wait (sending_finishes p.sending rules.sending)))

pub attention_law : AttentionLaw
attention_law L w string x =
    let pair = x.explains.pair in
    let js = track pair.plan in
    let shown : atn w ≡ map (attention L.entry) js =
    ap atn (sym x.explains.gives_it ∙ ap₂ (gives (attention_track L.entry pair.plan)) pair.sends pair.receives)
    ∙ gives_attention L.entry js in
    record {
      plain = λ e. released_length w (length js) (shown ∙ ap (λ (entry : Entry). map (attention entry) js) e ∙ plain_attention js);
      command = λ e.
          let f = plan_finishes L e pair.plan pair.rules in
          record { finish = f.until; later = f.later; is = shown ∙ ap (λ (entry : Entry). map (attention entry) js) e ∙ f.is };
    }
