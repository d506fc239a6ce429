-- What the border's types stand for: an answer of the same four numbers, a word and zeros after it.
use Rattle.std.specs.Prelude.{ℕ, ◌<◌, List, length, ◌≡◌}
use Rattle.answer.specs.{Types.Answer, Names.name_room, Names.in_room}
use Rattle.station.specs.declared.StationAnswer.{StationAnswer}
use Rattle.station.specs.declared.StationWord.{StationWord}

abbrev pub answer_of : StationAnswer → Answer
answer_of a = record { number = a.number; tick = a.tick; step = a.step; count = a.count }

-- The characters that cross are the word's, and then zeros, of which there is one at least.
pub record Spells (word : List ℕ) (crossing : StationWord) : Type 0 where
  pub ended : length word < name_room
  pub spelt : crossing.text ≡ in_room word
