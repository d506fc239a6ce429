-- What the ticks of a recording's steps show: by one step, in spans, and how many bytes they hand over. Assumes nothing.
use Rattle.std.specs.Prelude.{ℕ, zero, suc, ◌+◌, ◌-◌, ◌≤◌, ◌<◌, Bool, false, List, [], ◌∷◌, ◌++◌, map, length, replicate, ◌≡◌}
use Rattle.answer.specs.Basics.{first_then}
use mathlib.Core.List.{map-append}
use mathlib.Core.Path.{refl, sym, ap, ap₂, subst, ◌∙◌}
use native.Mathlib.{Nat.sub-zero, Omega.arith}
use lib.ListN.{length-map}
use Rattle.recording.specs.{Types.Step, Layout.most_steps, Layout.step_at, Layout.is_marked, Ticks.Tick as Recorded}
use Rattle.recording.specs.Ticks.{steps_from, step_ticks, ticks}
use Rattle.recording.proofs.StepLaws.{ticks_begin, ticks_end, steps_count}
use Rattle.transfer.specs.{Types.Limits, Types.Lines, Types.Tick, Lines.lines_of, Outcome.Outcome}
use Rattle.transfer.specs.Ticks.{tick}
use Rattle.transfer.specs.Spans.{Span, span_ticks, ticks as spanned}
use Rattle.reader.specs.{After.handed_over, States.first_state}
use Rattle.transfer.proofs.Room.{room}
use Rattle.reader.proofs.Outcomes.{outcome_states}
use Rattle.judge.specs.{Judged.byte_room, Judged.shown_by, Judged.ticks_shown, Reading.ticks_from}

pub map-replicate : {A B : Type 0} (f : A → B) (n : ℕ) (x : A) → map f (replicate n x) ≡ replicate n (f x)
map-replicate f zero x = refl
map-replicate f (suc n) x = ap (λ w. f x ∷ w) (map-replicate f n x)

map_first : {A B : Type 0} (f : A → B) (n : ℕ) (first other : A) → map f (first_then n first other) ≡ first_then n (f first) (f other)
map_first f zero first other = refl
map_first f (suc n) first other = ap (λ w. f first ∷ w) (map-replicate f n other)

-- The ticks of a step that are left, from its first on: they all show its lines, and the first may be marked.
abbrev pub left_of : Tick → (left : ℕ) → List Tick
left_of x left = first_then left x (tick false x.lines)

-- Steps as spans.
abbrev pub span : Step → Span
span s = record { marked = is_marked s; duration = s.duration; lines = lines_of s.lines }

-- A step's ticks, and then the others'.
pub step_shows : (s : Step) (rest : List Recorded) → map shown_by (step_ticks s ++ rest) ≡ span_ticks (span s) ++ map shown_by rest
step_shows s rest =
    map-append shown_by (step_ticks s) rest
    ∙ ap (λ w. w ++ map shown_by rest) (map_first shown_by s.duration _ _)

-- Step i is left; s is what was read there, m its mark, and x its lines.
pub step_left : (file : List ℕ) (i n : ℕ) (s : Step) (m : Bool) (x : Lines) → s ≡ step_at file i → m ≡ is_marked s → x ≡ lines_of s.lines
    → i < n → ticks_from file i (n - i) ≡ left_of (tick m x) s.duration ++ ticks_from file (i + 1) (n - (i + 1))
step_left file i n s m x es em ex h =
    ap (map shown_by) (ticks_begin file i n s es h)
    ∙ step_shows s (ticks (steps_from file (i + 1) (n - (i + 1))))
    ∙ ap₂ (λ (b : Bool) (l : Lines). left_of (tick b l) s.duration ++ ticks_from file (i + 1) (n - (i + 1))) (sym em) (sym ex)

pub all_left : (file : List ℕ) (n : ℕ) → ticks_from file 0 (n - 0) ≡ ticks_from file 0 n
all_left file n = rw (sub-zero n)

pub none_left : (file : List ℕ) (i n : ℕ) → n ≤ i → ticks_from file i (n - i) ≡ []
none_left file i n h = ap (map shown_by) (ticks_end file i n h)

-- Ticks of a step that are left: one of them, several after an unmarked one, none.
pub tick_left : (x : Tick) (n : ℕ) (rest : List Tick) → 0 < n
    → left_of x n ++ rest ≡ x ∷ (replicate (n - 1) (tick false x.lines) ++ rest)
tick_left x n rest h = let z : n ≡ suc (n - 1) = omega arith in ap (λ k. left_of x k ++ rest) z

several : (k m : ℕ) (x : Tick) (rest : List Tick) → replicate (k + m) x ++ rest ≡ replicate k x ++ (replicate m x ++ rest)
several zero m x rest = let z : 0 + m ≡ m = omega arith in rw z
several (suc k) m x rest = let z : suc k + m ≡ suc (k + m) = omega arith in rw z (ap (λ w. x ∷ w) (several k m x rest))

pub all_same : (x : Tick) (n : ℕ) → x.marked ≡ false → replicate n (tick false x.lines) ≡ left_of x n
all_same x zero e = refl
all_same x (suc n) e = ap (λ (m : Bool). tick m x.lines ∷ replicate n (tick false x.lines)) (sym e)

pub ticks_left : (x : Tick) (k n : ℕ) (rest : List Tick) → x.marked ≡ false → k ≤ n
    → let other = tick false x.lines in replicate n other ++ rest ≡ replicate k other ++ (left_of x (n - k) ++ rest)
ticks_left x k n rest e h =
    let other = tick false x.lines in
    let z : n ≡ k + (n - k) = omega arith in
    ap (λ m. replicate m other ++ rest) z
    ∙ several k (n - k) other rest
    ∙ ap (λ w. replicate k other ++ (w ++ rest)) (all_same x (n - k) e)

pub no_tick_left : (x : Tick) (n : ℕ) (rest : List Tick) → n ≤ 0 → left_of x n ++ rest ≡ rest
no_tick_left x n rest h = let z : n ≡ 0 = omega arith in rw z

in_spans : (steps : List Step) → ticks_shown steps ≡ spanned (map span steps)
unfolding ticks
in_spans [] = refl
in_spans (s ∷ steps) = step_shows s (ticks steps) ∙ ap (λ w. span_ticks (span s) ++ w) (in_spans steps)

-- By the room law: the places that are lent suffice.
pub few_handed : (L : Limits) (file : List ℕ) (n : ℕ) → n ≤ most_steps
    → length (handed_over L first_state (ticks_from file 0 n)) < byte_room
few_handed L file n h =
    let spans = map span (steps_from file 0 n) in
    subst (λ w. length (handed_over L first_state w) < byte_room) (sym (in_spans (steps_from file 0 n)))
    (subst (λ (o : Outcome). length o.bytes < byte_room) (outcome_states L (spanned spans))
    ((room L spans).few (omega (arith, length-map (steps_from file 0 n) span, steps_count file n 0))))
