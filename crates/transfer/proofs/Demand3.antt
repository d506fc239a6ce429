-- Demand 3 over tick lists, for all times that are consistent, and at document 01's own. Assumes nothing.
use Rattle.std.specs.Prelude.{ℕ, Bool, false, ◌||◌, List, [], ◌∷◌, map, ◌≡◌}
use native.Mathlib.Omega.{arith}
use mathlib.Core.Path.{refl, sym, ap, ap₂, ◌∙◌, subst, subst⁻¹}
use Rattle.transfer.specs.{Limits.standard_limits, Limits.command_limits, Outcome.run, Outcome.outcome}
use Rattle.transfer.specs.Parties.{Pulls, pulls, past, attention, track}
use Rattle.transfer.specs.{Shown.shown, Ticks.tick, Ticks.lines_in, Ticks.Unmarked}
use Rattle.transfer.specs.Pair.{SenderPulls, sender_pulls, receiver_pulls, attention_track, gives, values, SameOrLater}
use Rattle.transfer.specs.Demand3.{Consistent, CompleteWith, shown_sender, shown_receiver, Explains, Explained, OutcomeDemand3}
use Rattle.transfer.specs.Demand3.{Demand3Law, StandardDemand3, CommandDemand3, CommandsConsistent}
use Rattle.transfer.specs.Types.{Limits, Tick, Byte, Start}
use Rattle.answer.specs.Types.{Complete}
use Rattle.transfer.proofs.{Rows.lines, Rows.going_on, Forward.shows, Forward.CompleteBy, Forward.along, Backward.Planned}
use Rattle.transfer.proofs.{Backward.back}
use Rattle.transfer.proofs.{Stages.plain_is_no_command, Shown.bare, Shown.seen, Shown.shows_plan}

pub gives_shows : (L : Limits) (js : List Pulls)
    → gives (map (attention L.entry) js) (map sender_pulls js) (map receiver_pulls js) ≡ seen L js
gives_shows L [] = refl
gives_shows L (pulls c s r ∷ js) = ap (λ x. (going_on L c (r || s)).lines ∷ x) (gives_shows L js)
gives_shows L (past c s r ∷ js) = ap (λ x. lines false c (r || s) ∷ x) (gives_shows L js)

-- No tick that a plan gives is marked; and where none is, the lines are all that a tick list has.
pub shows_unmarked : (L : Limits) (js : List Pulls) → Unmarked (map (shows L) js)
shows_unmarked L [] = tt
shows_unmarked L (pulls c s r ∷ js) = (refl, shows_unmarked L js)
shows_unmarked L (past c s r ∷ js) = (refl, shows_unmarked L js)

by_lines : (v w : List Tick) → Unmarked v → Unmarked w → lines_in v ≡ lines_in w → v ≡ w
by_lines v w a b e = sym (again v a) ∙ ap (map (tick false)) e ∙ again w b
  where
    again : (w : List Tick) → Unmarked w → map (tick false) (lines_in w) ≡ w
    again [] none = refl
    again (t ∷ w) none = ap₂ (λ (m : Bool) x. tick m t.lines ∷ x) (sym none.0) (again w none.1)

-- Who pulls is all that the two tracks have.
bare_sender : (js : List Pulls) → map sender_pulls (map bare js) ≡ map sender_pulls js
bare_sender [] = refl
bare_sender (pulls c s r ∷ js) = ap (λ x. record { clk = c; «data» = s } ∷ x) (bare_sender js)
bare_sender (past c s r ∷ js) = ap (λ x. record { clk = c; «data» = s } ∷ x) (bare_sender js)

bare_receiver : (js : List Pulls) → map receiver_pulls (map bare js) ≡ map receiver_pulls js
bare_receiver [] = refl
bare_receiver (pulls c s r ∷ js) = ap (λ x. r ∷ x) (bare_receiver js)
bare_receiver (past c s r ∷ js) = ap (λ x. r ∷ x) (bare_receiver js)

same_values : (ledger other : List Byte) → SameOrLater ledger other → values ledger ≡ values other
same_values [] [] h = refl
same_values [] (b ∷ other) h = absurd h
same_values (a ∷ ledger) [] h = absurd h
same_values (a ∷ ledger) (b ∷ other) h = ap₂ (λ (v : ℕ) l. v ∷ l) h.0 (same_values ledger other h.3)

module _ (L : Limits) (times : Consistent L) (w : List Tick) where
  -- A pair that gives the dated: they are complete with its bytes, and no tick of the ledger is later than the pair's.
  reads : (string : List ℕ) (sender : List SenderPulls) (receiver : List Bool) (dated : List Byte)
      → Explains L (lines_in w) string sender receiver dated → Unmarked w
      → CompleteBy (outcome L w) dated
  reads string sender receiver dated x none =
      let p = x.pair in
      let given : map (shows L) (track p.plan) ≡ w =
      by_lines _ w (shows_unmarked L (track p.plan)) none
      (sym (gives_shows L (track p.plan))
      ∙ sym (ap₂ (gives (attention_track L.entry p.plan)) p.sends p.receives)
      ∙ x.gives_it) in
      let bytes = subst⁻¹ (λ l. CompleteBy (run L 0 Start (map (shows L) (track p.plan))) l) p.dated_so (along L times
      p.plan p.rules) in
      subst (λ v. CompleteBy (run L 0 Start v) dated) given bytes

  -- A complete tick list is what a plan gives.
  planned : (outcome L w).decision.verdict ≡ Complete → Planned L times w (outcome L w).bytes
  planned e = back L times w e

  shows_pair : (string : List ℕ) → CompleteWith L w string
      → let ledger = (outcome L w).bytes in
      Explains L (lines_in w) string (shown_sender ledger (lines_in w)) (shown_receiver ledger (lines_in w)) ledger
  shows_pair string c =
      let p = planned c.verdict in
      let e : shown (outcome L w).bytes (lines_in w) ≡ map bare (track p.plan) =
      ap₂ shown p.bytes (ap lines_in p.gives) ∙ shows_plan L times p.plan p.rules p.tidy in
      let sends = ap (map sender_pulls) e ∙ bare_sender (track p.plan) in
      let receives = ap (map receiver_pulls) e ∙ bare_receiver (track p.plan) in
      record {
        pair =
            record {
              plan = p.plan;
              rules = p.rules;
              sends = sends;
              receives = receives;
              string_is = sym c.bytes ∙ ap values p.bytes;
              dated_so = p.bytes;
            };
        gives_it =
            ap₂ (gives (attention_track L.entry p.plan)) sends receives ∙ gives_shows L (track p.plan)
            ∙ ap lines_in (sym p.gives);
      }

  explained : (string : List ℕ) → CompleteWith L w string → Explained L (lines_in w) string
  explained string c =
      record {
        sender = shown_sender (outcome L w).bytes (lines_in w);
        receiver = shown_receiver (outcome L w).bytes (lines_in w);
        dated = (outcome L w).bytes;
        explains = shows_pair string c;
      }

  -- Nothing was lost in a complete one.
  none_marked : (outcome L w).decision.verdict ≡ Complete → Unmarked w
  none_marked e = let p = planned e in subst⁻¹ Unmarked p.gives (shows_unmarked L (track p.plan))

  complete : (string : List ℕ) → Explained L (lines_in w) string → Unmarked w → CompleteWith L w string
  complete string x none =
      let r = reads string x.sender x.receiver x.dated x.explains none in
      let p = x.explains.pair in
      record {
        verdict = r.verdict;
        bytes = same_values (outcome L w).bytes x.dated r.ledger ∙ ap values p.dated_so
            ∙ sym p.string_is;
      }

  explains_all : OutcomeDemand3 L w
  explains_all =
      record {
        exactly = λ string. (λ c. (explained string c, none_marked c.verdict), λ x. complete string x.0 x.1);
        shown_pair = shows_pair;
        earliest = λ string sender receiver dated x none. (reads string sender receiver dated x none).ledger;
        never = λ none e. none (values (outcome L w).bytes) (explained _ (record { verdict = e; bytes = refl })) (none_marked e);
      }

pub demand3 : Demand3Law
demand3 L times w = explains_all L times w

pub standard_consistent : Consistent standard_limits
standard_consistent =
    record {
      end_mark = omega arith;
      end_mark_in_time = omega arith;
      no_end_mark = λ command. absurd (plain_is_no_command command);
      ready_for_data = omega arith;
      acknowledge_some = omega arith;
      acknowledge_room = omega arith;
      timeout = omega arith;
      set_up_some = omega arith;
      valid_some = omega arith;
      valid_room = omega arith;
      keep_some = omega arith;
      keep_take = omega arith;
      keep_release = omega arith;
    }

pub standard_demand3 : StandardDemand3
standard_demand3 w = demand3 standard_limits standard_consistent w

pub commands_consistent : CommandsConsistent
commands_consistent L t =
    record {
      end_mark = t.end_mark;
      end_mark_in_time = omega (arith, t.end_mark);
      no_end_mark = λ command. omega (arith, t.end_mark);
      ready_for_data = omega (arith, t.end_mark);
      acknowledge_some = t.acknowledge_some;
      acknowledge_room = t.acknowledge_room;
      timeout = omega (arith, t.end_mark_in_time, t.timeout);
      set_up_some = t.set_up_some;
      valid_some = t.valid_some;
      valid_room = t.valid_room;
      keep_some = t.keep_some;
      keep_take = t.keep_take;
      keep_release = t.keep_release;
    }

pub command_demand3 : CommandDemand3
command_demand3 w = demand3 command_limits (commands_consistent standard_limits standard_consistent) w
