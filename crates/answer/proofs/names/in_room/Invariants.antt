use Rattle.std.proofs.Common.{◌≡◌, ℕ, ◌<◌, length, get_or}
use Rattle.answer.proofs.names.in_room.Given as goal

abbrev pub invariant-loop-place : goal.invariant-loop-place
invariant-loop-place l = record {
  long : length l.character-items ≡ 32;
  copied : (k : ℕ) → k < l.place → get_or l.character-items k 0 ≡ get_or l.word k 0;
}
