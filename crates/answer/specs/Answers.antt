-- What an entry answers where it gives no verdict, and what it leaves in lent memory.
use Rattle.std.specs.Prelude.{ℕ, Result, Ok, Err, List, ◌++◌, length, take, drop, codes, decimal}
use Rattle.answer.specs.{Types.Answer, Types.Refusal, Types.Refused, Numbers.refusal_number, Names.word_of}

-- "Every refusal has tick 0 and count 0, its step is the offending one for 6 and 7 and otherwise 0."
abbrev pub refused : Refusal → (step : ℕ) → Answer
refused refusal step = record { number = refusal_number refusal; tick = 0; step = step; count = 0 }

-- "Number 0, tick 0, step 0", and a count.
abbrev pub accepted : (count : ℕ) → Answer
accepted count = record { number = 0; tick = 0; step = 0; count = count }

-- The answer of what either gives a count or is refused.
abbrev pub answered : Result ℕ Refused → Answer
answered (Ok count) = accepted count
answered (Err r) = refused r.refusal r.step

-- What is printed of an answer: its four numbers, and the number's word.
abbrev pub answer_text : Answer → List ℕ
answer_text a =
    decimal a.number ++ codes " " ++ decimal a.tick ++ codes " " ++ decimal a.step ++ codes " " ++ decimal a.count ++ codes " "
    ++ word_of a.number

-- Lent places that begin with these values: "all further places keep what they held". There are always places enough: by the room law
-- for the judge, by refusal 11 for the writer; of a dump only so much is put down as there are places.
infix 20 ◌over◌
abbrev pub ◌over◌ : {A : Type 0} (values places : List A) → List A
values over places = values ++ drop (length values) places

-- The first n places.
abbrev pub first : {A : Type 0} (n : ℕ) (places : List A) → List A
first n places = take n places
