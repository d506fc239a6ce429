-- What a match on the numbers that have a row comes to, told row by row. Assumes nothing.
use Rattle.std.specs.Prelude.{ℕ, List, [], ◌∷◌, ◌≡◌}
use borrow.Author.Tests.{ne_eqb}
use mathlib.Core.Path.{refl, ap}
use Rattle.answer.specs.Text.{ascii}
use Rattle.answer.specs.Names.{Word, ◌is◌, words, word_among, word_of}

-- The number of one of these rows has that row's word.
abbrev pub Each : (rows : List Word) (number : ℕ) → Type 0
Each [] number = Unit {0}
Each (n is word ∷ rest) number = (number ≡ n → word_of number ≡ ascii (word_among words n)) × Each rest number

each : (rows : List Word) (number : ℕ) → Each rows number
unfolding word_of
each [] number = tt
each (n is word ∷ rest) number = (λ e. ap word_of e, each rest number)

pub with_row : (number : ℕ) → Each words number
with_row number = each words number

-- A number that is none of these rows' has this word.
abbrev pub Else : (rows : List Word) (number : ℕ) (word : List ℕ) → Type 0
Else [] number word = word ≡ ascii "no-such-number"
Else (n is text ∷ rest) number word = (number ≡ n → ⊥) → Else rest number word

other : (rows : List Word) (number : ℕ) → Else rows number (ascii (word_among rows number))
other [] number = refl
other (n is word ∷ rest) number = λ e. rw (ne_eqb number n e) (other rest number)

pub with_none : (number : ℕ) → Else words number (word_of number)
unfolding word_of
with_none number = other words number
