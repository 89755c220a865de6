-- The challenge, its bytes both ways (SCHEME, Messages), and the operation Challenge.
use Rattle.std.specs.Prelude.{ℕ, zero, suc, ◌+◌, ◌-◌, ◌*◌, Bool, List, [], ◌∷◌, length, ltb, leb}
use Rattle.lists.specs.Lists.{pick, at, tab, any_of, any_below}
use Rattle.answer.specs.Answer.{Answer, Outcome, done, Ok, Err}
use Rattle.answer.specs.declared.Refusal.TheVariants.{Length, Malformed}
use Rattle.answer.specs.Refusals.{refuse, afterwards, differs, outside}
use Rattle.sizes.specs.declared.Sizes.{Sizes}
use Rattle.bits.specs.Fields.{BitField, ◌wide◌, bytes_for, pack, field_at}

-- a challenge: a node (the scheme: box), and places with a coefficient each
pub record Challenge : Type 0 where
  pub node : ℕ
  pub places : List ℕ
  pub coefficients : List ℕ

abbrev pub challenge_for : (node : ℕ) (places coefficients : List ℕ) → Challenge
challenge_for node places coefficients = record { node = node; places = places; coefficients = coefficients }

-- `count` items, from item i on
unfoldable pub items : (c : Challenge) (i count : ℕ) → List BitField
items c i zero = []
items c i (suc count) = (3 wide at c.places i) ∷ (8 wide at c.coefficients i) ∷ items c (suc i) count

abbrev pub challenge_fields : (c : Challenge) → List BitField
challenge_fields c = (4 wide 1) ∷ (3 wide c.node) ∷ (4 wide length c.places) ∷ items c 0 (length c.places)

unfoldable pub challenge_bytes : (c : Challenge) → List ℕ
challenge_bytes c = pack (challenge_fields c)

-- 11 bits, and 11 for each item
abbrev pub challenge_bits : (count : ℕ) → ℕ
challenge_bits count = 11 * (count + 1)

abbrev pub challenge_length : (count : ℕ) → ℕ
challenge_length count = bytes_for (challenge_bits count)

-- fields that no challenge has: a node above 5, no item or more than 8, a place above 7, places that do not rise strictly
unfoldable pub out_of_rule : (node : ℕ) (places : List ℕ) → Bool
out_of_rule node places =
    any_of
    (ltb 5 node
    ∷ outside 1 8 (length places)
    ∷ any_below (length places) (λ j. ltb 7 (at places j))
    ∷ any_below (length places - 1) (λ j. leb (at places (j + 1)) (at places j))
    ∷ [])

-- ---- reading a message

-- the challenge that a message of `count` items says
unfoldable pub challenge_in : (count : ℕ) (message : List ℕ) → Challenge
challenge_in count message =
    record {
      node = field_at message 4 3;
      places = tab count (λ j. field_at message (challenge_bits j) 3);
      coefficients = tab count (λ j. field_at message (challenge_bits j + 3) 8);
    }

unfoldable pub challenge_of : (message : List ℕ) → Challenge
challenge_of message = challenge_in (field_at message 7 4) message

-- a message that is no challenge: another kind, fields out of rule, a length that is not exact, or non-zero bits at the end
unfoldable pub malformed_for : (c : Challenge) (message : List ℕ) → Bool
malformed_for c message =
    any_of
    (differs (field_at message 0 4) 1
    ∷ out_of_rule c.node c.places
    ∷ differs (length message) (challenge_length (length c.places))
    ∷ differs (field_at message (challenge_bits (length c.places))
    (8 * challenge_length (length c.places) - challenge_bits (length c.places))) 0
    ∷ [])

abbrev pub malformed_challenge : (message : List ℕ) → Bool
malformed_challenge message = malformed_for (challenge_of message) message

-- what is read of a message
unfoldable pub challenge_read : (message : List ℕ) → Answer Challenge
challenge_read message = pick (malformed_challenge message) (Err Malformed) (Ok (challenge_of message))

-- it names a node or a place that these sizes do not have
abbrev pub not_there : (z : Sizes) (c : Challenge) → Bool
not_there z c = any_of (leb z.nodes c.node ∷ any_below (length c.places) (λ j. leb z.places (at c.places j)) ∷ [])

-- ---- Challenge (SCHEME, Operations): refuses 2, 9, 2

unfoldable pub challenge_answer : (c : Challenge) (message : List ℕ) → Outcome
challenge_answer c message =
    refuse (differs (length c.coefficients) (length c.places)) Length
    (refuse (out_of_rule c.node c.places) Malformed
    (refuse (differs (length message) (challenge_length (length c.places))) Length
    done))

unfoldable pub challenge_out : (c : Challenge) (message : List ℕ) → List ℕ
challenge_out c message = afterwards (challenge_answer c message) message (challenge_bytes c)
