-- In which phase a recording can run out: a data transfer never after the finish of commands, and commands never in E where the last tick
-- shows ATN released. Assumes nothing.
use Rattle.std.specs.Prelude.{ℕ, Bool, true, false, List, [], ◌∷◌, map, ◌≡◌}
use native.Mathlib.Omega.{arith}
use mathlib.Core.Path.{refl, ap, ◌∙◌, subst}
use Rattle.transfer.specs.{Moves.is_decided, Rules.last_of, Ticks.lines_in}
use Rattle.transfer.specs.Types.{Plain, Command, Limits, Lines, Tick, Phase, End, Finished}
use Rattle.transfer.proofs.Rows.{settled}
use Rattle.reader.specs.{States.next_state, After.state_after}
use Rattle.reader.specs.declared.state.State.{State}
use Rattle.reader.proofs.IdleLaws.{led}

module _ (L : Limits) where
  -- A tick that leads to a phase that is no verdict: its lines keep the phase.
  kept_by : (s : State) (t : Tick) (p : Phase) → (next_state L s t).phase ≡ p → is_decided p ≡ false
      → settled L.entry t.lines p ≡ true
  kept_by s t p e u =
      subst (λ (q : Phase). settled L.entry t.lines q ≡ true) e (led L s t (ap is_decided e ∙ u))

  pub plain_never_past : L.entry ≡ Plain → (w : List Tick) (s : State) → ((finish : ℕ) → s.phase ≡ Finished finish → ⊥)
      → (finish : ℕ) → (state_after L s w).phase ≡ Finished finish → ⊥
  unfolding state_after
  plain_never_past plain [] s h = h
  plain_never_past plain (t ∷ w) s h = plain_never_past plain w (next_state L s t) after
    where
      after : (finish : ℕ) → (next_state L s t).phase ≡ Finished finish → ⊥
      after finish e = grind (arith, kept_by s t (Finished finish) e refl)

  pub command_end_pulled : L.entry ≡ Command → (w : List Tick) (s : State) (atn : Bool)
      → ((finish : ℕ) → s.phase ≡ End finish → atn ≡ true)
      → (finish : ℕ) → (state_after L s w).phase ≡ End finish → last_of atn (map (λ (l : Lines). l.atn) (lines_in w)) ≡ true
  unfolding state_after
  command_end_pulled command [] s atn h = h
  command_end_pulled command (t ∷ w) s atn h = command_end_pulled command w (next_state L s t) t.lines.atn after
    where
      after : (finish : ℕ) → (next_state L s t).phase ≡ End finish → t.lines.atn ≡ true
      after finish e = grind (arith, kept_by s t (End finish) e refl)
