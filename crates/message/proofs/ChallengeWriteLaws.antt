-- The turns of the code that writes a challenge, and what Challenge's answer tells. Assumes nothing.
use Prim.Native.Nat.{ℕ, ◌+◌, ◌≤◌}
use mathlib.Core.Path.{◌≡◌, sym, ◌∙◌}
use mathlib.Core.List.{List, [], ◌∷◌, ◌++◌, append_assoc}
use native.Mathlib.Omega.{arith}
use lib.ListN.{length}
use Rattle.lists.specs.Lists.{at, tab}
use Rattle.answer.specs.Answer.{Outcome, done}
use Rattle.answer.proofs.RefusalLaws.{accepted, same}
use Rattle.bits.specs.Fields.{◌wide◌, with_field}
use Rattle.bits.proofs.AppendLaws.{Holds, holds_none, holds_more, holds_packed}
use Rattle.message.specs.Challenge.{Challenge, challenge_for, items, challenge_bits, challenge_length, challenge_bytes, challenge_answer}
use Rattle.message.proofs.ChallengeLaws.{items_split, fields_before, in_rule, asked_even, asked_rule}

-- ---- writing

fields_more : (c : Challenge) (j : ℕ)
    → (fields_before c j ++ ((3 wide at c.places j) ∷ [])) ++ ((8 wide at c.coefficients j) ∷ []) ≡ fields_before c (j + 1)
unfolding items
fields_more c j =
    let z : 0 + j ≡ j = omega arith in
    rw (items_split c 0 j 1, z) (append_assoc (fields_before c j) ((3 wide at c.places j) ∷ []) ((8 wide at c.coefficients j) ∷ []))

-- `len` bytes hold these fields
pub record ItemsIn (node : ℕ) (places coefficients : List ℕ) (len j : ℕ) (s : List ℕ) : Type 0 where
  pub held : Holds len (fields_before (challenge_for node places coefficients) j) (challenge_bits j) s

-- no item, one more, all
module _ {node : ℕ} {places coefficients : List ℕ} where
  pub head_written : {len n : ℕ} {z a b s : List ℕ} → n ≡ len → z ≡ tab n (λ i. 0) → a ≡ with_field z 0 4 1 → b ≡ with_field a 4 3 node
      → s ≡ with_field b 7 4 (length places) → ItemsIn node places coefficients len 0 s
  unfolding items
  head_written e clear first second third =
      record { held = holds_more (4 wide length places) (holds_more (3 wide node) (holds_more (4 wide 1) (holds_none (rw e at clear)) first) second) third }

  pub item_written : {len j p q : ℕ} {s a r : List ℕ} → ItemsIn node places coefficients len j s → p ≡ at places j → q ≡ at coefficients j
      → a ≡ with_field s (challenge_bits j) 3 p → r ≡ with_field a (challenge_bits j + 3) 8 q → ItemsIn node places coefficients len (j + 1) r
  item_written {j = j} h place coefficient first second =
      let n : challenge_bits j + 3 + 8 ≡ challenge_bits (j + 1) = omega arith in
      let more = holds_more (8 wide at coefficients j) (holds_more (3 wide at places j) h.held (rw place at first)) (rw coefficient at second) in
      record { held = rw (fields_more (challenge_for node places coefficients) j, n) at more }

  pub all_written : {j : ℕ} {s : List ℕ} → j ≡ length places → ItemsIn node places coefficients (challenge_length (length places)) j s
      → s ≡ challenge_bytes (challenge_for node places coefficients)
  unfolding challenge_bytes
  all_written e h = holds_packed (rw e at h.held)

-- ---- what Challenge's answer tells, and what is written then

module _ (c : Challenge) (message : List ℕ) {o : Outcome} (answer : o ≡ challenge_answer c message) where
  pub challenge_lengths : o ≡ done
      → (length c.places ≤ 8) × (length c.coefficients ≡ length c.places) × (length message ≡ challenge_length (length c.places))
  unfolding challenge_answer
  challenge_lengths e =
      let a = sym answer ∙ e in
      ((in_rule c (asked_rule c message a)).few, asked_even c message a, same _ _ (accepted _ _ _ (accepted _ _ _ (accepted _ _ _ a).1).1).0)
