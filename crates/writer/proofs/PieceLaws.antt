-- Steps put down one after another are one list of steps. Assumes nothing.
use Rattle.std.specs.Prelude.{ℕ, ◌+◌, ◌<◌, List, [], ◌∷◌, ◌++◌, length, take, get_or, ◌≡◌}
use Rattle.std.specs.List.{flat_map}
use mathlib.Core.{List.append-nil, Path.refl, Path.sym, Path.ap, Path.◌∙◌}
use native.Mathlib.Omega.{arith}
use lib.{ListN.length-append, Seq.sets, Seq.length-sets}
use Rattle.std.specs.Borrow.{MutBor}
use Rattle.std.proofs.lemmas.List.{take_more, Concat.flat_map-append}
use Rattle.recording.specs.{Types.Step, Layout.step_place, FileOf.step_bytes, FileOf.steps_bytes}
use Rattle.recording.proofs.{SetsLaws.sets-append, FileOfLaws.steps_append, FileOfLaws.steps_length}
use Rattle.writer.specs.Put.{with_steps, before_steps, Put}
use Rattle.writer.specs.declared.card.Card.{Card}
use Rattle.writer.specs.declared.steps.StepWriter.{StepWriter}

-- One step, as `Step::write` puts it down.
pub one_step : (s : Step) (w : StepWriter) {w₁ : StepWriter}
    → w₁.destination.now ≡ sets w.destination.now (step_place w.next) (step_bytes s) → w₁.next ≡ w.next + 1 → w₁.card ≡ w.card
    → w₁.destination.ghost_name ≡ w.destination.ghost_name → Put (s ∷ []) w w₁
unfolding with_steps steps_bytes
one_step s w e next card same =
    record {
      there = e ∙ rw append-nil;
      next = next;
      size = ap length e ∙ length-sets w.destination.now (step_place w.next) (step_bytes s);
      card = card;
      same = same;
    }

pub nothing_put : (w : StepWriter) → Put [] w w
unfolding with_steps steps_bytes
nothing_put w = record { there = refl; next = omega arith; size = refl; card = refl; same = refl }

-- What follows goes by the same card.
pub and_then : (ys : Card → List Step) {xs : List Step} {w w₁ w₂ : StepWriter} → Put xs w w₁ → Put (ys w₁.card) w₁ w₂
    → Put (xs ++ ys w.card) w w₂
unfolding with_steps
and_then ys {xs} {w} {w₁} put later =
    let rest = ys w.card in
    let same : ys w₁.card ≡ rest = ap ys put.card in
    let place : step_place w.next + length (steps_bytes xs) ≡ step_place w₁.next = omega (arith, steps_length xs, put.next) in
    record {
      there = later.there ∙ rw (same, put.there, steps_append xs rest, sets-append, place);
      next = rw (length-append xs rest) (omega (arith, put.next, later.next, ap length same));
      size = later.size ∙ put.size;
      card = later.card ∙ put.card;
      same = later.same ∙ put.same;
    }

-- For a loop over a list that puts steps down for each of its items.
pub one_more : {X : Type 0} (steps : Card → X → List Step) (xs : List X) (i : ℕ) (d : X) {w w₁ w₂ : StepWriter} → i < length xs
    → Put (flat_map (steps w.card) (take i xs)) w w₁ → Put (steps w₁.card (get_or xs i d)) w₁ w₂
    → Put (flat_map (steps w.card) (take (i + 1) xs)) w w₂
one_more steps xs i d {w} less put later =
    rw (take_more xs i d less, flat_map-append (steps w.card) (take i xs))
    (simp append-nil (and_then (λ card. steps card (get_or xs i d)) put later))

-- Steps put down from the first on, in what was lent: it is left with what the writer's destination holds.
pub all_put : (steps : Card → List Step) (lent : MutBor (List ℕ)) {card : Card} {w w₁ : StepWriter} {d : List ℕ}
    → w ≡ before_steps lent card → Put (steps w.card) w w₁ → (lent.ghost_name ≡ w₁.destination.ghost_name → d ≡ w₁.destination.now)
    → d ≡ with_steps lent.now 0 (steps card)
all_put steps lent {card} {w} {w₁} new put kept =
    let first : Put (steps card) (before_steps lent card) w₁ = rw new at put in
    kept (sym first.same) ∙ first.there
