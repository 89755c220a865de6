-- What an answer with a number says in numbers: it is done, and its value is written; a refusal is its number, and nothing is written.
use Rattle.std.specs.Prelude.{ℕ, ◌≡◌}
use Rattle.answer.specs.Answer.{Outcome, Counted, Ok, Err}
use Rattle.answer.specs.Numbers.{answer_number}

-- a count of k where nothing is refused
abbrev pub counted : Outcome → ℕ → Counted
counted (Ok value) k = Ok k
counted (Err r) k = Err r

-- the value lent, afterwards; it was `old`
abbrev pub counted_value : Counted → ℕ → ℕ
counted_value (Ok k) old = k
counted_value (Err r) old = old

-- the number and the value of an answer that is allowed
pub record CountedAnswer (Allowed : Counted → Type 0) (number old value : ℕ) : Type 0 where
  pub answer : Counted
  pub allowed : Allowed answer
  pub its_number : number ≡ answer_number answer
  pub its_value : value ≡ counted_value answer old
