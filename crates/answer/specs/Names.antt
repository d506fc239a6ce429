-- The word that the programs print for each of the numbers in Numbers.
use Rattle.std.specs.Prelude.{ℕ, ◌-◌, List, [], ◌∷◌, ◌++◌, length, replicate, ◌≡◌, eqb, if◌then◌else◌}
use Prim.Native.String.{String}
use Rattle.answer.specs.Text.{ascii}

infix 70 ◌is◌
pub data Word : Type 0 where
  ◌is◌ : ℕ → String → Word

-- 0 is the writer's answer where it wrote, 1 to 11 and 13 to 16 are refusals, 20 to 40 verdicts. A new number is one more line here.
abbrev pub words : List Word
words =
    0 is "written"
    ∷ 1 is "short-file"
    ∷ 2 is "wrong-version"
    ∷ 3 is "too-many-steps"
    ∷ 4 is "wrong-offset"
    ∷ 5 is "wrong-length"
    ∷ 6 is "zero-duration"
    ∷ 7 is "stray-bits"
    ∷ 8 is "wrong-total"
    ∷ 9 is "short-buffers"
    ∷ 10 is "too-many-bytes"
    ∷ 11 is "short-destination"
    ∷ 13 is "no-such-seat"
    ∷ 14 is "vacant-seat"
    ∷ 15 is "seat-in-use"
    ∷ 16 is "not-forty-seats"
    ∷ 20 is "complete"
    ∷ 21 is "empty-stream"
    ∷ 22 is "cut"
    ∷ 23 is "attention"
    ∷ 24 is "no-receiver"
    ∷ 25 is "bad-start"
    ∷ 26 is "out-of-turn"
    ∷ 27 is "end-mark-not-acknowledged"
    ∷ 28 is "acknowledgement-short"
    ∷ 29 is "acknowledgement-long"
    ∷ 30 is "late-clock"
    ∷ 31 is "sender-time-out"
    ∷ 32 is "valid-time-short"
    ∷ 33 is "data-moved"
    ∷ 34 is "clock-stall"
    ∷ 35 is "receiver-time-out"
    ∷ 36 is "hurried"
    ∷ 37 is "moved-after-the-end"
    ∷ 38 is "end-mark-under-attention"
    ∷ 39 is "attention-released"
    ∷ 40 is "overrun"
    ∷ []

abbrev pub word_among : List Word → (number : ℕ) → String
word_among [] number = "no-such-number"
word_among (n is word ∷ rest) number = if eqb number n then word else word_among rest number

unfoldable pub word_of : (number : ℕ) → List ℕ
word_of number = ascii (word_among words number)

-- Of all numbers 20 alone has the word of a pass.
abbrev pub OnlyCompleteIsNamedSo : Type 0
OnlyCompleteIsNamedSo = (number : ℕ) → word_of number ≡ ascii "complete" → number ≡ 20

-- How many characters a name has room for where it crosses to C. A longer word than today's has room: what crosses stays as it is.
abbrev pub name_room : ℕ
name_room = 32

-- A word in that room, with zeros after it.
unfoldable pub in_room : (word : List ℕ) → List ℕ
in_room word = word ++ replicate (name_room - length word) 0
