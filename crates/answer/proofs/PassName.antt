-- No number but 20 has the word of a pass: one computed test of the list, carried to every number. Assumes nothing.
use Rattle.std.specs.Prelude.{ℕ, Bool, true, not, ◌&&◌, ◌||◌, List, [], ◌∷◌, ◌≡◌, eqb}
use Rattle.std.specs.Str.{bytes_eq}
use Rattle.std.proofs.Common.{refl, arith}
use Rattle.std.proofs.lemmas.Bool.Decides.{nat_tests}
use Rattle.std.proofs.lemmas.Slice.Eq.{bytes_eq-Decides}
use Rattle.answer.specs.Text.{ascii}
use Rattle.answer.specs.Names.{Word, ◌is◌, words, word_among, word_of, OnlyCompleteIsNamedSo}

-- No other number of the list has this text, nor has a number that is not in it.
abbrev has_alone : (number : ℕ) (text : List ℕ) → List Word → Bool
has_alone number text [] = not (bytes_eq (ascii "no-such-number") text)
has_alone number text (n is word ∷ rest) = (eqb n number || not (bytes_eq (ascii word) text)) && has_alone number text rest

alone : (number : ℕ) (text : List ℕ) (list : List Word) (n : ℕ) → has_alone number text list ≡ true → ascii (word_among list n) ≡ text
    → n ≡ number
alone number text [] n t e = grind (arith, nat_tests, bytes_eq-Decides (ascii "no-such-number") text)
alone number text (m is word ∷ rest) n t e = grind (arith, nat_tests, bytes_eq-Decides (ascii word) text, alone number text rest n)

pub only_complete_is_named_so : OnlyCompleteIsNamedSo
unfolding word_of
only_complete_is_named_so number e = alone 20 (ascii "complete") words number refl e
