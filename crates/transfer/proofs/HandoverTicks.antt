-- The ticks of a handover, as the proofs go along them: the offsets of the letting go and of the take count down. Assumes nothing.
use Rattle.std.specs.Prelude.{ℕ, zero, suc, ◌-◌, Bool, true, false, List, [], ◌∷◌, ◌++◌, ◌≡◌, ltb, leb}
use native.Mathlib.Omega.{arith}
use mathlib.Core.Path.{refl, ap, ap₂, ◌∙◌}
use borrow.Author.Tests.{lt-ltb, le-ltb, le-leb, lt-leb}
use Rattle.transfer.specs.Parties.{Pulls, pulls, Frame, bits_track, handover_track, frame_track}

abbrev pub is_zero : ℕ → Bool
is_zero zero = true
is_zero (suc n) = false

abbrev pub is_positive : ℕ → Bool
is_positive zero = false
is_positive (suc n) = true

abbrev pub less : ℕ → ℕ
less zero = zero
less (suc n) = n

-- n ticks, the letting go l ticks ahead and the take t.
abbrev pub handover_ticks : (n l t : ℕ) → List Pulls
handover_ticks zero l t = []
handover_ticks (suc n) l t = pulls true (is_positive l) (is_zero t) ∷ handover_ticks n (less l) (less t)

-- l is what is left, at offset i, of the offset x.
less_left : (l x i : ℕ) → l ≡ x - i → less l ≡ x - suc i
less_left zero x i e = omega arith
less_left (suc l) x i e = omega arith

before_it : (l x i : ℕ) → l ≡ x - i → ltb i x ≡ is_positive l
before_it zero x i e = le-ltb i x (omega arith)
before_it (suc l) x i e = lt-ltb i x (omega arith)

from_it : (l x i : ℕ) → l ≡ x - i → leb x i ≡ is_zero l
from_it zero x i e = le-leb x i (omega arith)
from_it (suc l) x i e = lt-leb x i (omega arith)

ticks_are : (n i l t let_go take : ℕ) → l ≡ let_go - i → t ≡ take - i → handover_track let_go take i n ≡ handover_ticks n l t
ticks_are zero i l t let_go take e f = refl
ticks_are (suc n) i l t let_go take e f =
    ap₂ (λ (a b : Bool). pulls true a b ∷ handover_track let_go take (suc i) n) (before_it l let_go i e) (from_it t take i f)
    ∙ ap (λ x. pulls true (is_positive l) (is_zero t) ∷ x)
    (ticks_are n (suc i) (less l) (less t) let_go take (less_left l let_go i e) (less_left t take i f))

-- A frame's track with its handover so.
abbrev pub frame_ticks : Frame → List Pulls → List Pulls
frame_ticks f rest = bits_track f.bits (handover_ticks f.release f.let_go f.take ++ rest)

pub frame_ticks_lem : (f : Frame) (rest : List Pulls) → frame_track f rest ≡ frame_ticks f rest
frame_ticks_lem f rest =
    ap (λ x. bits_track f.bits (x ++ rest))
    (ticks_are f.release 0 f.let_go f.take f.let_go f.take (omega arith) (omega arith))
