-- What an operation answers: a value, or the first refusal that applies (SCHEME, Refusals).
use Rattle.std.specs.Prelude.{ℕ, Result}
pub use Rattle.std.specs.Prelude.{Ok, Err}
use Rattle.answer.specs.declared.Refusal.{Refusal}

abbrev pub Answer : Type 0 → Type 0
Answer A = Result A Refusal

-- an answer without a value: the work is done, or refused
abbrev pub Outcome : Type 0
Outcome = Answer (Unit {0})

abbrev pub done : Outcome
done = Ok tt

-- what Read, Inventory and Losses answer: a number, or a refusal
abbrev pub Counted : Type 0
Counted = Answer ℕ
