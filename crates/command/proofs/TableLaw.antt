-- Letters that stand for the classes of all bytes, by one computation, stand for that of each. Assumes nothing.
use Rattle.std.specs.Prelude.{ℕ, ◌<◌, List, map, get_or, ◌≡◌}
use Rattle.std.specs.List.{range_with_len}
use Rattle.std.proofs.lemmas.List.FromFn.{get_or-map-range_with_len}
use native.Mathlib.Omega.{arith}
use mathlib.Core.Path.{ap, sym, ◌∙◌}
use Rattle.command.specs.{Classes.class_of, Table.class_by}

-- Two functions that give the same for all numbers below a bound agree at each of them.
pub agree : {A : Type 0} (f g : ℕ → A) (count n : ℕ) → map f (range_with_len 0 count) ≡ map g (range_with_len 0 count) → n < count
    → f n ≡ g n
agree {A} f g count n same h =
    let at : (k : ℕ → A) → get_or (map k (range_with_len 0 count)) n (f 0) ≡ k n =
    λ k. get_or-map-range_with_len k 0 count n n (f 0) h (omega arith) in
    sym (at f) ∙ ap (λ (l : List A). get_or l n (f 0)) same ∙ at g

pub by_table : (letters : List ℕ) (byte : ℕ) → byte < 256
    → map (λ k. class_by (get_or letters k 0)) (range_with_len 0 256) ≡ map class_of (range_with_len 0 256)
    → class_by (get_or letters byte 0) ≡ class_of byte
by_table letters byte h table = agree (λ k. class_by (get_or letters k 0)) class_of 256 byte table h
