-- The pieces that a caller asks for one after another are the dump. Assumes nothing.
use Rattle.std.specs.Prelude.{ℕ, zero, suc, List, [], ◌∷◌, ◌++◌, length, take, drop, ◌≡◌}
use mathlib.Core.Path.{refl, sym, ap, ap₂, subst⁻¹, ◌∙◌}
use native.Mathlib.Omega.{arith}
use lib.{ListN.length-take, ListN.length-drop, Seq.drop-drop, Seq.take-append_seam}
use Rattle.recording.specs.Ticks.{steps_of}
use Rattle.recording.proofs.GoodFormLaws.{good_form}
use Rattle.vcd.specs.Dump.{dump}
use Rattle.vcd.specs.Dumped.{piece, leaves_piece, Piece, PiecesLaw}
use Rattle.vcd.proofs.DumpedLaws.{is_piece}

-- What was taken, and what is left.
take_rest : (room : ℕ) (l : List ℕ) → take room l ++ drop (length (take room l)) l ≡ l
take_rest zero l = refl
take_rest (suc room) [] = refl
take_rest (suc room) (x ∷ l) = ap (λ (rest : List ℕ). x ∷ rest) (take_rest room l)

one_piece : (text : List ℕ) (offset : ℕ) (d : List ℕ) → Piece text offset (length d) (leaves_piece (piece text offset (length d)) d)
one_piece text offset d =
    let p = piece text offset (length d) in
    let count : length p ≡ _ = length-take (length d) (drop offset text) in
    let left = length-drop offset text in
    record {
      accepts = refl;
      goes_on =
          ap₂ ◌++◌ (take-append_seam p (drop (length p) d)) (sym (drop-drop (length p) offset text))
          ∙ take_rest (length d) (drop offset text);
      ends = λ some. (λ none. omega arith, λ past. omega arith);
    }

pub pieces : PiecesLaw
pieces file n offset d good =
    subst⁻¹ (Piece (dump (steps_of file)) offset (length d)) (is_piece file offset d n ((good_form file n).1 good))
    (one_piece (dump (steps_of file)) offset d)
