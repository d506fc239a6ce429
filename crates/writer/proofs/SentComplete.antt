-- Read-back over tick lists: a pair for the string gives the ticks that are put down, so that the judge finds them complete with it; and
-- what the judge finds where no byte was given. Assumes nothing.
use Rattle.std.specs.Prelude.{ℕ, List, [], ◌∷◌, ◌≡◌}
use mathlib.Core.Path.{refl, ap, subst, ◌∙◌}
use borrow.Author.Rules.{rules}
use Rattle.recording.specs.{GoodForm.Bytes, Ticks.ticks}
use Rattle.transfer.specs.{Types.Entry, Types.Limits, Types.Tick, Limits.standard_limits, Moves.move, Moves.broken_at, Outcome.run}
use Rattle.transfer.specs.{Outcome.outcome, Ticks.lines_in, Ticks.Unmarked}
use Rattle.transfer.specs.{Parties.track, Parties.plan_bytes, Pair.sender_track, Pair.receiver_track, Pair.attention_track, Pair.gives}
use Rattle.transfer.specs.{Demand3.CompleteWith, Demand3.Explained}
use Rattle.transfer.specs.Phases.{below, up_to, next, same, with_bit, handover, after_bit}
use Rattle.answer.specs.Types.{EmptyStream}
use Rattle.transfer.proofs.Demand3.{gives_shows, shows_unmarked, standard_demand3}
use Rattle.judge.specs.Judged.{ticks_shown}
use Rattle.writer.specs.{Card.standard_card, WrittenSteps.written_steps}
use Rattle.writer.specs.declared.card.Card.{Card}
use Rattle.writer.proofs.{SentPlan.plan_of, SentPlan.sends_string, SentRules.InTime, SentRules.plan_keeps, SentTicks.gives_sent}

-- What each tick of the recording of a string shows.
abbrev pub written_ticks : Card → (string : List ℕ) → List Tick
written_ticks card string = ticks_shown (written_steps card string)

module _ (first : ℕ) (others : List ℕ) (bytes : Bytes (first ∷ others)) where
  -- With any card in time, the pair of its plan explains them.
  pub in_time_explained : (L : Limits) (card : Card) → InTime L card
      → Explained L (lines_in (written_ticks card (first ∷ others))) (first ∷ others)
  unfolding written_steps
  in_time_explained L card in_time =
      let plan = plan_of card first others in
      record {
        sender = sender_track plan;
        receiver = receiver_track plan;
        dated = plan_bytes plan;
        explains =
            record {
              pair =
                  record {
                    plan = plan;
                    rules = plan_keeps in_time first others;
                    sends = refl;
                    receives = refl;
                    string_is = sends_string card _ first others bytes;
                    dated_so = refl;
                  };
              gives_it =
                  ap (λ (entry : Entry). gives (attention_track entry plan) (sender_track plan) (receiver_track plan)) in_time.entry
                  ∙ gives_shows standard_limits (track plan)
                  ∙ ap lines_in (gives_sent card in_time.set_up first others).same;
            };
      }

  -- And no step is marked.
  in_time_unmarked : (L : Limits) (card : Card) → InTime L card → Unmarked (written_ticks card (first ∷ others))
  unfolding written_steps
  in_time_unmarked L card in_time =
      subst Unmarked (gives_sent card in_time.set_up first others).same
      (shows_unmarked standard_limits (track (plan_of card first others)))

  -- So it is with document 01's card and times: they are in time.
  in_time : InTime standard_limits standard_card
  in_time = search rules

  pub sent_explained : Explained standard_limits (lines_in (written_ticks standard_card (first ∷ others))) (first ∷ others)
  sent_explained = in_time_explained standard_limits standard_card in_time

  -- By demand 3 the judge then finds them complete with the string.
  pub sent_complete : CompleteWith standard_limits (written_ticks standard_card (first ∷ others)) (first ∷ others)
  sent_complete =
      ((standard_demand3 (written_ticks standard_card (first ∷ others))).exactly (first ∷ others)).1
      (sent_explained, in_time_unmarked standard_limits standard_card in_time)

-- No bytes: 21 at tick 762, and none handed over, by one computation.
pub empty_outcome : outcome standard_limits (written_ticks standard_card []) ≡ record { decision = broken_at EmptyStream 762; bytes = [] }
unfolding below up_to next same with_bit handover after_bit move run ticks written_steps
empty_outcome = refl
