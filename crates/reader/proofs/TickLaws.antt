-- What a loop over the ticks keeps. Assumes nothing.
use Rattle.std.specs.Prelude.{◌+◌, ◌≤◌, Bool, true, List, [], ◌∷◌, length, ◌≡◌}
use Rattle.std.proofs.lemmas.Bool.Decides.{nat_tests}
use native.Mathlib.Omega.{arith}
use mathlib.Core.Path.{refl}
use Rattle.transfer.specs.Phases.{Move, Go, Hand, Stop}
use Rattle.transfer.specs.Moves.{is_decided, held_byte, move}
use Rattle.transfer.specs.Types.{Limits, Tick, Phase}
use Rattle.reader.specs.{States.follow, States.next_state, After.state_after, After.handed_over}
use Rattle.transfer.proofs.Rows.{Climbs, stops, goes, hands, climbs}
use Rattle.reader.specs.declared.state.State.{State}

-- A tick that is read moves the state's tick on by one at most, and its count too. A byte that it hands over was taken by then.
pub record OneTick (s t : State) : Type 0 where
  pub tick_most : t.tick ≤ s.tick + 1
  pub count_least : s.count ≤ t.count
  pub count_most : t.count ≤ s.count + 1
  pub taken : (t.count ≡ s.count → ⊥) → (held_byte s.phase).take ≤ s.tick

-- A tick that hands no byte over, and one that does.
goes_on : (s t : State) → t.tick ≤ s.tick + 1 → t.count ≡ s.count → OneTick s t
goes_on s t h e =
    record { tick_most = h; count_least = omega arith; count_most = omega arith; taken = λ n. absurd (n e) }

one_move : (s : State) {stays : Phase → Bool} (x : Move) → Climbs s.tick s.phase stays x → OneTick s (follow s x)
unfolding follow
one_move s (Go p) (goes m f e) = grind arith
one_move s (Hand b p) (hands m f e held taken) = grind arith
one_move s (Stop f) stops = grind arith

pub one_tick_lem : (L : Limits) (s : State) (l : Tick) → OneTick s (next_state L s l)
unfolding next_state
one_tick_lem L s l = one_move s _ (climbs L s.tick s.phase l)

-- The count rises by the bytes that are handed over.
pub counts : (L : Limits) (w : List Tick) (s : State) → (state_after L s w).count ≡ s.count + length (handed_over L s w)
unfolding state_after handed_over
counts L [] s = omega arith
counts L (l ∷ w) s = grind (arith, nat_tests, one_tick_lem L s l, counts L w (next_state L s l))

-- A verdict stands.
pub no_change : (L : Limits) (s : State) (l : Tick) → is_decided s.phase ≡ true → next_state L s l ≡ s
unfolding next_state follow move
no_change L s l u = grind arith

-- After a marked tick a verdict has fallen: 40, or one that stood.
pub marked_decides : (L : Limits) (s : State) (t : Tick) → t.marked ≡ true → is_decided (next_state L s t).phase ≡ true
unfolding next_state follow move
marked_decides L s t marked = grind arith

-- "Stops for good": no tick changes a decided state or hands a byte over, so a loop may leave at the deciding tick.
pub record Stands (L : Limits) (s : State) (w : List Tick) : Type 0 where
  pub state : state_after L s w ≡ s
  pub bytes : handed_over L s w ≡ []

pub stands : (L : Limits) (s : State) (w : List Tick) → is_decided s.phase ≡ true → Stands L s w
unfolding state_after handed_over
stands L s [] u = record { state = refl; bytes = refl }
stands L s (l ∷ w) u =
    let rest = stands L s w u in
    let same = no_change L s l u in
    record { state = grind (arith, rest, same); bytes = grind (arith, nat_tests, rest, same) }
