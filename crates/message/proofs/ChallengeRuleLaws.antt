-- What decides whether a challenge, and a message, is out of rule, test by test. Assumes nothing.
use Prim.Native.Nat.{ℕ, ◌+◌, ◌-◌, ◌*◌, ◌<◌, ◌≤◌}
use mathlib.Core.Path.{◌≡◌, refl, sym, ap, ◌∙◌}
use mathlib.Core.Bool.{Bool, true, false, ◌||◌}
use mathlib.Core.List.{List, [], ◌∷◌}
use native.Mathlib.Omega.{arith}
use lib.Dec.{ltb, leb}
use lib.ListN.{length}
use borrow.Author.Tests.{le-ltb}
use Rattle.lists.specs.Lists.{at, tab, any_of, any_below}
use Rattle.lists.proofs.TabLaws.{length_tab, tab_at}
use Rattle.lists.proofs.AnyLaws.{any_here, any_there, any_of_lem, any_same, any_none}
use Rattle.answer.specs.Refusals.{differs, outside}
use Rattle.answer.proofs.RefusalLaws.{differs_same, differs_other, not_outside}
use Rattle.bits.specs.Fields.{field_at}
use Rattle.bits.proofs.PackLaws.{field_low}
use Rattle.message.specs.Challenge.{challenge_bits, challenge_length, out_of_rule, challenge_in, challenge_of, malformed_for, malformed_challenge}

-- the place of item j of a message
abbrev pub place_in : List ℕ → ℕ → ℕ
place_in message j = field_at message (challenge_bits j) 3

-- a value is not above the one before it, among the first n
abbrev any_fall : (ℕ → ℕ) → ℕ → Bool
any_fall g n = any_below (n - 1) (λ j. leb (g (j + 1)) (g j))

fall_same : (n : ℕ) (f g : ℕ → ℕ) → ((i : ℕ) → i < n → f i ≡ g i) → any_fall f n ≡ any_fall g n
fall_same n f g e = any_same (n - 1) _ _ (λ i h. rw (e i (omega arith), e (i + 1) (omega arith)))

-- ---- a challenge out of rule

module _ (node : ℕ) (places : List ℕ) where
  pub count_outside : outside 1 8 (length places) ≡ true → out_of_rule node places ≡ true
  unfolding out_of_rule
  count_outside e = any_there _ _ (any_here _ _ e)

  -- with neither too few nor too many places
  pub tests_apart : outside 1 8 (length places) ≡ false
      → ((ltb 5 node || any_below (length places) (λ j. ltb 7 (at places j))) || any_fall (at places) (length places)) ≡ out_of_rule node places
  unfolding out_of_rule any_of
  tests_apart few =
      rw few
      (any_of_lem (ltb 5 node) (any_below (length places) (λ j. ltb 7 (at places j)) ∷ any_fall (at places) (length places) ∷ []))

  -- and none above 7
  node_or_falls : 1 ≤ length places → length places ≤ 8 → any_below (length places) (λ j. ltb 7 (at places j)) ≡ false
      → out_of_rule node places ≡ (ltb 5 node || any_fall (at places) (length places))
  unfolding out_of_rule any_of
  node_or_falls some few e =
      rw (not_outside 1 8 (length places) some few, e) (sym (any_of_lem (ltb 5 node) (any_fall (at places) (length places) ∷ [])))

-- two tests apart, or as one
apart : (k n f s : Bool) → any_of (k ∷ n ∷ f ∷ s ∷ []) ≡ any_of (k ∷ (n || f) ∷ false ∷ s ∷ [])
unfolding any_of
apart true n f s = refl
apart false true f s = refl
apart false false f s = refl

-- ---- a malformed message of `count` items

module _ (message : List ℕ) (count : ℕ) (is : count ≡ field_at message 7 4) where
  abbrev places : List ℕ
  places = tab count (place_in message)

  abbrev spare : ℕ
  spare = field_at message (challenge_bits count) (8 * challenge_length count - challenge_bits count)

  tests : malformed_challenge message
      ≡ any_of (differs (field_at message 0 4) 1 ∷ out_of_rule (field_at message 4 3) places ∷ differs (length message) (challenge_length count) ∷ differs spare 0 ∷ [])
  unfolding malformed_for challenge_of challenge_in
  tests = rw (← is, length_tab)

  out_of_rule_lem : out_of_rule (field_at message 4 3) places ≡ true → malformed_challenge message ≡ true
  out_of_rule_lem e = tests ∙ any_there _ _ (any_here _ _ e)

  places_fall : any_fall (at places) (length places) ≡ any_fall (place_in message) count
  places_fall = rw length_tab (fall_same count (at places) (place_in message) (tab_at count (place_in message)))

  pub count_other : outside 1 8 count ≡ true → malformed_challenge message ≡ true
  count_other e = out_of_rule_lem (count_outside _ _ (ap (outside 1 8) (length_tab count (place_in message)) ∙ e))

  pub length_other : (length message ≡ challenge_length count → ⊥) → malformed_challenge message ≡ true
  length_other n = tests ∙ any_there _ _ (any_there _ _ (any_here _ _ (differs_other n)))

  -- a place of 3 bits is not above 7
  places_low : any_below (length places) (λ j. ltb 7 (at places j)) ≡ false
  places_low =
      rw length_tab
      (any_none count _ (λ j h. le-ltb 7 (at places j) (omega (arith, tab_at count (place_in message) j h, field_low message (challenge_bits j) 3))))

  -- the tests that are left where the count and the length are right
  pub tests_left : {kind node len spare : ℕ} {fall : Bool} → kind ≡ field_at message 0 4 → node ≡ field_at message 4 3 → 1 ≤ count → count ≤ 8
      → len ≡ challenge_length count → length message ≡ len → fall ≡ any_fall (place_in message) count
      → spare ≡ field_at message (challenge_bits count) (8 * len - challenge_bits count)
      → (((differs kind 1 || ltb 5 node) || fall) || differs spare 0) ≡ malformed_challenge message
  tests_left {kind} {node} {len} {spare = x} {fall} k n some few exact same f e =
      let l = length_tab count (place_in message) in
      let rule = node_or_falls (field_at message 4 3) places (omega arith) (omega arith) places_low ∙ ap (λ (b : Bool). ltb 5 (field_at message 4 3) || b) places_fall in
      any_of_lem (differs kind 1) (ltb 5 node ∷ fall ∷ differs x 0 ∷ []) ∙ apart (differs kind 1) (ltb 5 node) fall (differs x 0)
      ∙ rw (e, exact, k, n, f, ← rule, ← differs_same (same ∙ exact)) (sym tests)

-- fewer than 2 bytes hold no challenge
pub too_short : (message : List ℕ) → length message < 2 → malformed_challenge message ≡ true
too_short message h = length_other message _ refl (λ e. omega arith)
