-- The number of each refusal (SCHEME, Refusals). No refusal has the number 10.
use Rattle.std.specs.Prelude.{ℕ, ◌≡◌}
use Rattle.answer.specs.declared.Refusal.{Refusal}
use Rattle.answer.specs.declared.Refusal.TheVariants.{Size, Length, BadArchive, NoSuchPlace, PlaceEmpty}
use Rattle.answer.specs.declared.Refusal.TheVariants.{PlaceFilled, ZeroKeyVector, Unreadable, Malformed, ProvesNothing, NoPlan}
use Rattle.answer.specs.Answer.{Answer, Outcome, Ok, Err}

abbrev pub refusal_number : Refusal → ℕ
refusal_number Size = 1
refusal_number Length = 2
refusal_number BadArchive = 3
refusal_number NoSuchPlace = 4
refusal_number PlaceEmpty = 5
refusal_number PlaceFilled = 6
refusal_number ZeroKeyVector = 7
refusal_number Unreadable = 8
refusal_number Malformed = 9
refusal_number ProvesNothing = 11
refusal_number NoPlan = 12

-- 0 is no refusal's number: it says that the work is done
abbrev pub answer_number : {A : Type 0} → Answer A → ℕ
answer_number (Ok value) = 0
answer_number (Err r) = refusal_number r

-- the number of an answer that is allowed
pub record NumberedAnswer (Allowed : Outcome → Type 0) (number : ℕ) : Type 0 where
  pub answer : Outcome
  pub allowed : Allowed answer
  pub its_number : number ≡ answer_number answer
