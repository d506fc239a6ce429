-- The recording of given steps: how long it is, and that reading it gives the steps back. Assumes nothing.
use Rattle.std.specs.Prelude.{ℕ, zero, suc, ◌+◌, ◌*◌, ◌/◌, ◌%◌, ◌≤◌, ◌<◌, List, [], ◌∷◌, ◌++◌, length, get_or, ◌≡◌}
use mathlib.Core.List.{append_assoc}
use mathlib.Core.Path.{refl, sym, ap, ◌∙◌}
use native.Mathlib.Omega.{arith}
use native.Mathlib.Nat.{add-zero, zero-add, div-div-eq-div-mul, mod-add-div', mod-eq_of_lt}
use lib.{ListN.length-append, Seq.get_or-append-add}
use Rattle.recording.specs.{Types.Header, Types.Step, GoodForm.GoodStep}
use Rattle.recording.specs.Layout.{header_at, step_at, header_size, step_size, most_steps, longest_duration, step_place, file_length}
use Rattle.recording.specs.Ticks.{steps_from, steps_of, total_ticks, ticks, ticks_of}
use Rattle.recording.specs.FileOf.{header_bytes, step_bytes, steps_bytes, good_header, file_of, Recordable, FileOfLaw}
use Rattle.recording.proofs.{StepLaws.total_counts, GoodFormLaws.each_more}

pub header_length : (h : Header) → length (header_bytes h) ≡ header_size
unfolding header_bytes
header_length h = refl

pub step_length : (s : Step) → length (step_bytes s) ≡ step_size
unfolding step_bytes
step_length s = refl

pub steps_length : (steps : List Step) → length (steps_bytes steps) ≡ step_size * length steps
unfolding steps_bytes
steps_length [] = refl
steps_length (s ∷ steps) =
    let first = step_length s in
    let rest = steps_length steps in
    simp length-append (omega arith)

pub file_length_lem : (steps : List Step) → length (file_of steps) ≡ file_length (length steps)
unfolding file_of
file_length_lem steps =
    let header = header_length (good_header (length steps) (total_ticks steps)) in
    let rest = steps_length steps in
    simp length-append (omega arith)

pub steps_append : (xs ys : List Step) → steps_bytes (xs ++ ys) ≡ steps_bytes xs ++ steps_bytes ys
unfolding steps_bytes
steps_append [] ys = refl
steps_append (x ∷ xs) ys = rw (steps_append xs ys) (sym (append_assoc (step_bytes x) (steps_bytes xs) (steps_bytes ys)))

-- What two bytes hold, and four.
abbrev InTwo : ℕ → Type 0
InTwo n = n ≤ 65535

abbrev InFour : ℕ → Type 0
InFour n = n ≤ 4294967295

two_back : (n : ℕ) → InTwo n → n % 256 + n / 256 % 256 * 256 ≡ n
two_back n h = omega arith

four_back : (n : ℕ) → InFour n → n % 256 + n / 256 % 256 * 256 + (n / 65536 % 256 + n / 16777216 % 256 * 256) * 65536 ≡ n
four_back n h =
    let third : n / 256 / 256 ≡ n / 65536 = div-div-eq-div-mul n 256 256 in
    let fourth : n / 65536 / 256 ≡ n / 16777216 = div-div-eq-div-mul n 65536 256 in
    let top : n / 16777216 % 256 ≡ n / 16777216 = mod-eq_of_lt (omega arith) in
    omega (arith, mod-add-div' n 256, mod-add-div' (n / 256) 256, mod-add-div' (n / 65536) 256)

same_header : (h : Header) (version steps offset total size : ℕ) → version ≡ h.version → steps ≡ h.steps → offset ≡ h.offset
    → total ≡ h.total → size ≡ h.length
    → ◌≡◌ {A = Header} (record { version = version; steps = steps; offset = offset; total = total; length = size }) h
same_header h version steps offset total size e₁ e₂ e₃ e₄ e₅ = rw (e₁, e₂, e₃, e₄, e₅)

-- A header whose fields fit their bytes is read back, whatever follows it.
header_back : (h : Header) (rest : List ℕ) → InTwo h.version → InTwo h.steps → InFour h.offset → InFour h.total
    → InFour h.length → header_at (header_bytes h ++ rest) ≡ h
unfolding header_bytes
header_back h rest version steps offset total size =
    same_header h _ _ _ _ _ (two_back h.version version) (two_back h.steps steps) (four_back h.offset offset)
    (four_back h.total total) (four_back h.length size)

same_step : (s : Step) (duration lines last : ℕ) → duration ≡ s.duration → lines ≡ s.lines → last ≡ s.last
    → ◌≡◌ {A = Step} (record { duration = duration; lines = lines; last = last }) s
same_step s d l z e₁ e₂ e₃ = rw (e₁, e₂, e₃)

-- A step is read back where it was put down, whatever stands before and after.
step_back : (front : List ℕ) (s : Step) (rest : List ℕ) (i : ℕ) → length front ≡ step_place i → s.duration ≤ longest_duration
    → step_at (front ++ (step_bytes s ++ rest)) i ≡ s
unfolding step_bytes
step_back front s rest i e fits =
    let file = front ++ (step_bytes s ++ rest) in
    let at : (k : ℕ) → get_or file (step_place i + k) 0 ≡ get_or (step_bytes s ++ rest) k 0 =
    λ k. rw (← e) (get_or-append-add front (step_bytes s ++ rest) k 0) in
    let first : get_or file (step_place i) 0 ≡ s.duration % 256 = rw (add-zero (step_place i)) at (at 0) in
    let second = at 1 in
    let third = at 2 in
    let fourth = at 3 in
    same_step s _ _ _ (rw (first, second) (two_back s.duration fits)) third fourth

from_back : (front : List ℕ) (steps : List Step) (i : ℕ) → length front ≡ step_place i → Recordable steps
    → steps_from (front ++ steps_bytes steps) i (length steps) ≡ steps
unfolding steps_from steps_bytes
from_back front [] i e good = refl
from_back front (s ∷ steps) i e good =
    let longer : length (front ++ step_bytes s) ≡ step_place (suc i) = simp length-append (omega (arith, step_length s)) in
    let later = from_back (front ++ step_bytes s) steps (suc i) longer good.1 in
    rw (step_back front s (steps_bytes steps) i e good.0.1) (ap (λ (l : List Step). s ∷ l) (rw append_assoc at later))

total_fits : (steps : List Step) → Recordable steps → total_ticks steps ≤ longest_duration * length steps
unfolding total_ticks
total_fits [] good = omega arith
total_fits (s ∷ steps) good =
    let later = total_fits steps good.1 in
    omega (arith, good.0.1)

each_good : (file : List ℕ) (k i : ℕ) → Recordable (steps_from file i k) → (j : ℕ) → j < k → GoodStep (step_at file (i + j))
unfolding steps_from
each_good file zero i good = λ j less. absurd (omega arith)
each_good file (suc k) i good =
    each_more (λ (j : ℕ). GoodStep (step_at file j)) i k good.0.0 (each_good file k (suc i) good.1)

header_of : (steps : List Step) → length steps ≤ most_steps → Recordable steps
    → header_at (file_of steps) ≡ good_header (length steps) (total_ticks steps)
unfolding file_of
header_of steps few good =
    let total = total_fits steps good in
    header_back (good_header (length steps) (total_ticks steps)) (steps_bytes steps)
    (omega arith) (omega arith) (omega arith) (omega arith) (omega arith)

pub file_of_lem : FileOfLaw
unfolding file_of steps_of ticks_of
file_of_lem steps few good =
    let file = file_of steps in
    let h = good_header (length steps) (total_ticks steps) in
    let header = header_of steps few good in
    let count : (header_at file).steps ≡ length steps = ap (λ (x : Header). x.steps) header in
    let all : steps_from file 0 (length steps) ≡ steps = from_back (header_bytes h) steps 0 (header_length h) good in
    let back : steps_of file ≡ steps = rw count all in
    let each : (j : ℕ) → j < length steps → GoodStep (step_at file (0 + j)) =
    each_good file (length steps) 0 (rw all good) in
    record {
      good = record {
        version = ap (λ (x : Header). x.version) header;
        counted = sym count;
        few = few;
        offset = ap (λ (x : Header). x.offset) header;
        says_length = ap (λ (x : Header). x.length) header;
        whole = file_length_lem steps;
        each = λ i less. rw zero-add at (each i less);
        total = ap (λ (x : Header). x.total) header ∙ total_counts steps ∙ ap (λ (l : List Step). length (ticks l)) (sym back);
      };
      steps_back = back;
    }
