-- The first refusal in an operation's order, and what a lent buffer holds after the call (SCHEME, Refusals).
use Rattle.std.specs.Prelude.{ℕ, ◌≡◌, Bool, true, false, not, [], ◌∷◌, eqb, ltb}
use Rattle.lists.specs.Lists.{any_of}
use Rattle.answer.specs.declared.Refusal.{Refusal}
use Rattle.answer.specs.Answer.{Outcome, done, Ok, Err}

-- refused by r where the test holds, else what follows: a chain of these, ended by `done`, picks the first refusal
unfoldable pub refuse : Bool → Refusal → Outcome → Outcome
refuse true r next = Err r
refuse false r next = next

-- nothing is refused
abbrev pub Passed : (o : Outcome) → Type 0
Passed o = o ≡ done

-- what stands in a lent buffer after the call: what the work writes, or what stood there before
unfoldable pub afterwards : {A : Type 0} → Outcome → A → A → A
afterwards (Ok value) before written = written
afterwards (Err r) before written = before

abbrev pub differs : (a b : ℕ) → Bool
differs a b = not (eqb a b)

-- x is below lo or above hi
unfoldable pub outside : (lo hi x : ℕ) → Bool
outside lo hi x = any_of (ltb x lo ∷ ltb hi x ∷ [])
