-- When a post passes.
use Rattle.std.specs.Prelude.{ℕ, Bool, ◌&&◌, List, length, eqb, ◌≡◌}
use Rattle.std.specs.List.{starts_with}
use Rattle.answer.specs.{Types.Answer, Answers.first}

-- "A post passes exactly if the number is 20, the count is that of the expected bytes and the buffer begins with them."
pub record PassingPost (answer : Answer) (buffer expected : List ℕ) : Type 0 where
  pub number : answer.number ≡ 20
  pub count : answer.count ≡ length expected
  pub begins : first (length expected) buffer ≡ expected

-- The same as a test.
unfoldable pub passing : Answer → (buffer expected : List ℕ) → Bool
passing answer buffer expected = eqb answer.number 20 && (eqb answer.count (length expected) && starts_with eqb buffer expected)
