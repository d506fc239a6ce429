-- The laws by which the two loops of a reading go, and what both keep. Assumes nothing.
use Rattle.std.specs.Prelude.{ℕ, ◌+◌, ◌*◌, ◌≤◌, ◌<◌, Bool, true, false, List, [], ◌∷◌, ◌++◌, length, replicate, ◌≡◌}
use mathlib.Core.Path.{refl, sym, ap, ap₂, subst, ◌∙◌}
use native.Mathlib.Omega.{arith}
use lib.Seq.{sets}
use Rattle.reader.specs.{After.state_after, After.handed_in, After.handed_over, States.first_state, States.next_state}
use Rattle.reader.specs.Idle.{idle_ticks, later, Idle, Counted}
use Rattle.transfer.specs.{Types.Limits, Types.Lines, Types.Tick, Types.Byte, Pair.values, Moves.is_decided, Moves.held_byte}
use Rattle.transfer.specs.Ticks.{tick}
use Rattle.reader.specs.declared.state.State.{State}
use Rattle.reader.proofs.IdleLaws.{idle_law}
use Rattle.reader.proofs.TickLaws.{OneTick, one_tick_lem, counts, marked_decides, stands}
use Rattle.judge.specs.Judged.{byte_room, ledger_room, two_ticks}
use Rattle.judge.specs.Reading.{with_byte, with_ticks, Reached, reached, read_into}
use Rattle.judge.proofs.LedgerLists.{length-values, length-two_ticks}
use Rattle.judge.proofs.HandedLists.{stored_first, byte_stored, ticks_stored, byte_keeps_length, ticks_keep_length}

module _ (L : Limits) where
  -- What a reading comes to that has ticks w still before it: the bytes they hand over are stored after those that stand there.
  unfoldable pub comes_to : (s : State) (bytes ledger : List ℕ) → List Tick → Reached
  comes_to s bytes ledger w =
      let handed = handed_over L s w in
      reached (state_after L s w) (sets bytes s.count (values handed)) (sets ledger (2 * s.count) (two_ticks handed))

  -- What both loops keep: t ticks or fewer are behind, w is before, and the reading comes to the whole. The buffers are as long as they
  -- were, and all bytes that are still handed over have their places.
  pub record Keeps (whole : Reached) (bytes₀ ledger₀ : List ℕ) (t : ℕ) (w : List Tick) (s : State) (bytes ledger : List ℕ) : Type 0 where
    pub comes : whole ≡ comes_to s bytes ledger w
    pub tick : s.tick ≤ t
    pub few : (state_after L s w).count < byte_room
    pub byte_places : length bytes ≡ length bytes₀
    pub ledger_places : length ledger ≡ length ledger₀

  -- One tick: a byte that it hands over is stored, and then the rest.
  stored : (s t : State) (bytes ledger : List ℕ) (x : Tick) (w : List Tick) → t ≡ next_state L s x
      → comes_to s bytes ledger (x ∷ w) ≡ comes_to t (with_byte bytes s t) (with_ticks ledger s t) w
  unfolding comes_to state_after handed_over
  stored s t bytes ledger x w e =
      let rest = handed_over L t w in
      let one = subst (λ (u : State). OneTick s u) (sym e) (one_tick_lem L s x) in
      ap (λ (u : State). reached (state_after L u w) (sets bytes s.count (values (handed_in s u ++ handed_over L u w)))
      (sets ledger (2 * s.count) (two_ticks (handed_in s u ++ handed_over L u w)))) (sym e)
      ∙ ap₂ (λ (b g : List ℕ). reached (state_after L t w) b g) (byte_stored s t (held_byte s.phase) rest one bytes _ refl)
      (ticks_stored s t (held_byte s.phase) rest one ledger _ refl)

  -- A tick is read.
  pub tick_read : (whole : Reached) (b₀ g₀ : List ℕ) (n m : ℕ) (x : Tick) (w w' : List Tick) (s t : State) (b b' g g' : List ℕ)
      → Keeps whole b₀ g₀ n w s b g → n < m → w ≡ x ∷ w' → t ≡ next_state L s x → b' ≡ with_byte b s t → g' ≡ with_ticks g s t
      → Keeps whole b₀ g₀ m w' t b' g'
  unfolding state_after
  tick_read whole b₀ g₀ n m x w w' s t b b' g g' k h ew et eb eg =
      let one = one_tick_lem L s x in
      record {
        comes = k.comes ∙ ap (comes_to s b g) ew ∙ stored s t b g x w' et ∙ ap₂ (λ (u v : List ℕ). comes_to t u v w') (sym eb) (sym eg);
        tick = subst (λ (u : State). u.tick ≤ m) (sym et) (omega (arith, one.tick_most, k.tick));
        few = subst (λ (u : State). (state_after L u w').count < byte_room) (sym et)
            (subst (λ v. (state_after L s v).count < byte_room) ew k.few);
        byte_places = byte_keeps_length b b' s t eb ∙ k.byte_places;
        ledger_places = ticks_keep_length g g' s t eg ∙ k.ledger_places;
      }

  -- A byte that a tick hands over was taken by then.
  pub taken_by : (s t : State) (x : Tick) → t ≡ next_state L s x → (t.count ≡ s.count → ⊥) → (held_byte s.phase).take ≤ s.tick
  taken_by s t x et =
      subst (λ (u : State). (u.count ≡ s.count → ⊥) → (held_byte s.phase).take ≤ s.tick) (sym et) (one_tick_lem L s x).taken

  -- A tick moves the state's tick on by one at most.
  pub tick_most : (s t : State) (x : Tick) → t ≡ next_state L s x → t.tick ≤ s.tick + 1
  tick_most s t x et = subst (λ (u : State). u.tick ≤ s.tick + 1) (sym et) (one_tick_lem L s x).tick_most

  -- What is counted after a tick, of the state that the code has.
  pub counted : (s t : State) (x : Tick) (most ticks : ℕ) → t ≡ next_state L s x → ticks ≡ idle_ticks L t.phase t.tick most
      → Counted L t x.lines most ticks
  counted s t x most ticks et e =
      subst (Counted L t x.lines most) (sym e)
      (subst (λ (u : State). Counted L u x.lines most (idle_ticks L u.phase u.tick most)) (sym et) (idle_law L s x most))

  -- A tick that decided nothing is unmarked.
  pub unmarked : (s t : State) (x : Tick) → t ≡ next_state L s x → is_decided t.phase ≡ false → x.marked ≡ false
  unmarked s t x et u = by_mark x.marked refl
    where
      by_mark : (m : Bool) → x.marked ≡ m → m ≡ false
      by_mark true e = sym (marked_decides L s x e) ∙ ap (λ (v : State). is_decided v.phase) (sym et) ∙ u
      by_mark false e = refl

  -- Idle ticks are passed over.
  pub idle_passed : (whole : Reached) (b₀ g₀ : List ℕ) (n m ticks : ℕ) (x : Lines) (w w' : List Tick) (s t : State) (b g : List ℕ)
      → Keeps whole b₀ g₀ n w s b g → n + ticks ≤ m → w ≡ replicate ticks (tick false x) ++ w' → Idle L s x ticks → t ≡ later s ticks
      → Keeps whole b₀ g₀ m w' t b g
  unfolding comes_to
  idle_passed whole b₀ g₀ n m ticks x w w' s t b g k h ew i et =
      let passed : comes_to s b g (replicate ticks (tick false x) ++ w') ≡ comes_to (later s ticks) b g w' =
      ap₂ (λ (u : State) (handed : List Byte). reached u (sets b s.count (values handed)) (sets g (2 * s.count) (two_ticks handed)))
      (i.state w') (i.bytes w') in
      record {
        comes = k.comes ∙ ap (comes_to s b g) ew ∙ passed ∙ ap (λ (u : State). comes_to u b g w') (sym et);
        tick = subst (λ (u : State). u.tick ≤ m) (sym et) (omega (arith, k.tick));
        few = subst (λ (u : State). (state_after L u w').count < byte_room) (sym et)
            (subst (λ (u : State). u.count < byte_room) (i.state w')
            (subst (λ v. (state_after L s v).count < byte_room) ew k.few));
        byte_places = k.byte_places;
        ledger_places = k.ledger_places;
      }

  -- A step begins: from here on the reading comes to the same.
  pub step_begins : (whole : Reached) (b₀ g₀ : List ℕ) (n m : ℕ) (w w' w'' : List Tick) (s : State) (b g : List ℕ)
      → Keeps whole b₀ g₀ n w s b g → n ≤ m → w ≡ w' → w'' ≡ w' → Keeps (comes_to s b g w') b g m w'' s b g
  step_begins whole b₀ g₀ n m w w' w'' s b g k h e e'' =
      record {
        comes = ap (comes_to s b g) (sym e'');
        tick = omega (arith, k.tick);
        few = subst (λ v. (state_after L s v).count < byte_room) (e ∙ sym e'') k.few;
        byte_places = refl;
        ledger_places = refl;
      }

  -- A step ends: what its own loop kept goes on for the outer one.
  pub step_ends : (whole : Reached) (b₀ g₀ : List ℕ) (n m l : ℕ) (w w' v v' : List Tick) (s t : State) (b b' g g' : List ℕ)
      → Keeps whole b₀ g₀ n w s b g → w ≡ w' → Keeps (comes_to s b g w') b g m v t b' g' → v ≡ v' → m ≤ l
      → Keeps whole b₀ g₀ l v' t b' g'
  step_ends whole b₀ g₀ n m l w w' v v' s t b b' g g' k e i f h =
      record {
        comes = k.comes ∙ ap (comes_to s b g) e ∙ i.comes ∙ ap (comes_to t b' g') f;
        tick = omega (arith, i.tick);
        few = subst (λ u. (state_after L t u).count < byte_room) f i.few;
        byte_places = i.byte_places ∙ k.byte_places;
        ledger_places = i.ledger_places ∙ k.ledger_places;
      }

  -- The recording ends.
  pub reading_ends : (whole : Reached) (b₀ g₀ : List ℕ) (n : ℕ) (w : List Tick) (s : State) (b g : List ℕ)
      → Keeps whole b₀ g₀ n w s b g → w ≡ [] → whole ≡ reached s b g
  unfolding comes_to state_after handed_over two_ticks
  reading_ends whole b₀ g₀ n w s b g k e = k.comes ∙ ap (comes_to s b g) e

  -- A verdict stands, whatever ticks follow.
  pub verdict_stands : (whole : Reached) (b₀ g₀ : List ℕ) (n : ℕ) (w : List Tick) (s : State) (b g : List ℕ)
      → Keeps whole b₀ g₀ n w s b g → is_decided s.phase ≡ true → whole ≡ reached s b g
  unfolding comes_to two_ticks
  verdict_stands whole b₀ g₀ n w s b g k e =
      let same = stands L s w e in
      k.comes
      ∙ ap₂ (λ (u : State) (h : List Byte). reached u (sets b s.count (values h)) (sets g (2 * s.count) (two_ticks h)))
      same.state same.bytes

  -- No byte is handed over that has no place.
  pub has_place : (s : State) (w : List Tick) → (state_after L s w).count < byte_room → s.count < byte_room
  has_place s w h = omega (arith, counts L w s)

  -- The beginning: all ticks are before.
  pub reading_begins : (s : State) (b g : List ℕ) (w w' : List Tick) → s ≡ first_state → w' ≡ w
      → length (handed_over L first_state w) < byte_room → Keeps (comes_to s b g w) b g 0 w' s b g
  reading_begins s b g w w' e all few =
      subst (λ (u : State). Keeps (comes_to u b g w) b g 0 w' u b g) (sym e)
      (record {
        comes = ap (comes_to first_state b g) (sym all);
        tick = omega arith;
        few = subst (λ v. (state_after L first_state v).count < byte_room) (sym all) (omega (arith, counts L w first_state));
        byte_places = refl;
        ledger_places = refl;
      })

  -- The whole reading.
  pub reading_is : (s : State) (b g : List ℕ) (w : List Tick) → s ≡ first_state → length (handed_over L first_state w) < byte_room
      → byte_room ≤ length b → ledger_room ≤ length g → comes_to s b g w ≡ read_into L w b g
  unfolding comes_to read_into
  reading_is s b g w e few hb hg =
      let h = handed_over L first_state w in
      ap (λ (u : State). comes_to u b g w) e
      ∙ ap₂ (λ (u v : List ℕ). reached (state_after L first_state w) u v)
      (stored_first (values h) b (omega (arith, length-values h)))
      (stored_first (two_ticks h) g (omega (arith, length-two_ticks h)))
