-- How texts are put down one after another. Assumes nothing.
use Rattle.std.specs.Prelude.{ℕ, ◌+◌, ◌<◌, List, [], ◌∷◌, ◌++◌, length, take, get_or, ◌≡◌}
use Rattle.std.specs.List.{flat_map}
use mathlib.Core.{List.append-nil, Path.refl, Path.sym, Path.ap, Path.◌∙◌}
use Rattle.std.proofs.lemmas.List.{take_more, Concat.flat_map-append}
use Rattle.vcd.specs.Put.{Held, held, put_byte, put, Puts}
use Rattle.vcd.specs.declared.window.Window.{Window}

put_append : (a b : List ℕ) (h : Held) → put (a ++ b) h ≡ put b (put a h)
unfolding put
put_append [] b h = refl
put_append (x ∷ a) b h = put_append a b (put_byte x h)

pub nothing_put : (w : Window) → Puts [] w w
unfolding put
nothing_put w = record { done = refl; same = refl }

-- Of a text there is still the rest to put down.
pub record Left (text rest : List ℕ) (before now : Window) : Type 0 where
  pub makes : put text (held before) ≡ put rest (held now)
  pub same : now.destination.ghost_name ≡ before.destination.ghost_name

pub all_left : (text : List ℕ) (w : Window) → Left text text w w
all_left text w = record { makes = refl; same = refl }

pub none_left : {text : List ℕ} {w w₁ : Window} → Left text [] w w₁ → Puts text w w₁
unfolding put
none_left left = record { done = sym left.makes; same = left.same }

module _ {a b : List ℕ} {w w₁ w₂ : Window} where
  pub and_then : Puts a w w₁ → Puts b w₁ w₂ → Puts (a ++ b) w w₂
  and_then first next =
      record {
        done = next.done ∙ ap (put b) first.done ∙ sym (put_append a b (held w));
        same = next.same ∙ first.same;
      }

  -- The first part of what is left is put down.
  pub goes_on : {text : List ℕ} → Left text (a ++ b) w w₁ → Puts a w₁ w₂ → Left text b w w₂
  goes_on left next =
      record {
        makes = left.makes ∙ put_append a b (held w₁) ∙ ap (put b) (sym next.done);
        same = next.same ∙ left.same;
      }

-- For a loop over a list that puts a text down for each of its items.
pub one_more : {X : Type 0} (text : X → List ℕ) (xs : List X) (i : ℕ) (d : X) {w w₁ w₂ : Window} → i < length xs
    → Puts (flat_map text (take i xs)) w w₁ → Puts (text (get_or xs i d)) w₁ w₂ → Puts (flat_map text (take (i + 1) xs)) w w₂
one_more text xs i d less first next =
    rw (take_more xs i d less, flat_map-append text (take i xs)) (simp append-nil (and_then first next))
