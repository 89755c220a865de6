-- The operation Prove (SCHEME, Operations). Refuses 3, 9, 2, 4, 5.
use Rattle.std.specs.Prelude.{ℕ, ◌+◌, Bool, not, List, [], ◌∷◌, length}
use Rattle.lists.specs.Lists.{at, any_of, any_below}
use Rattle.answer.specs.Answer.{Outcome, done}
use Rattle.answer.specs.declared.Refusal.TheVariants.{Length, BadArchive, NoSuchPlace, PlaceEmpty, Malformed}
use Rattle.answer.specs.Refusals.{refuse, afterwards, differs}
use Rattle.sizes.specs.declared.Sizes.{Sizes}
use Rattle.vector.specs.Vectors.{mixed}
use Rattle.mask.specs.Masks.{mask_row, mask_coefficient, mask, mask_sum}
use Rattle.sizes.specs.Lengths.{response_length, block_length, place_number, key_length, auxiliary_length, seed_length}
use Rattle.message.specs.Response.{response_bytes}
use Rattle.message.specs.Challenge.{Challenge, challenge_of, malformed_challenge, not_there}
use Rattle.archive.specs.Layout.{sizes_of, id_of, filled_in, byte_in, bad_archive}

-- the refusals once the header and the challenge are read
unfoldable pub prove_for : (z : Sizes) (filled : ℕ → ℕ → Bool) (mask_key auxiliary seed : List ℕ) (c : Challenge) (out : List ℕ) → Outcome
prove_for z filled mask_key auxiliary seed c out =
    refuse
    (any_of
    (differs (length mask_key) key_length
    ∷ differs (length auxiliary) (auxiliary_length z.n z.tags)
    ∷ differs (length seed) seed_length
    ∷ differs (length out) (response_length z.n z.tags)
    ∷ [])) Length
    (refuse (not_there z c) NoSuchPlace
    (refuse (any_below (length c.places) (λ j. not (filled c.node (at c.places j)))) PlaceEmpty
    done))

unfoldable pub prove_answer : (s mask_key auxiliary seed message out : List ℕ) → Outcome
prove_answer s mask_key auxiliary seed message out =
    refuse (bad_archive s) BadArchive
    (refuse (malformed_challenge message) Malformed
    (prove_for (sizes_of s) (filled_in (sizes_of s) s) mask_key auxiliary seed (challenge_of message) out))

-- the response for a combined block and its tags
unfoldable pub response_for : (n tags : ℕ) (id mask_key auxiliary seed : List ℕ) (node : ℕ) (block tag : ℕ → ℕ) → List ℕ
response_for n tags id mask_key auxiliary seed node block tag =
    response_bytes n tags node block tag (mask n (mask_coefficient mask_key seed) (mask_row mask_key id)) seed
    (mask_sum n (mask_coefficient mask_key seed) auxiliary)

-- byte e of the named places' records, combined by the challenge
unfoldable pub named_byte : (z : Sizes) (s : List ℕ) (c : Challenge) (e : ℕ) → ℕ
named_byte z s c e = mixed (length c.places) (at c.coefficients) (λ j. byte_in z s (place_number z c.node (at c.places j))) e

unfoldable pub proved_for : (z : Sizes) (id s mask_key auxiliary seed : List ℕ) (c : Challenge) → List ℕ
proved_for z id s mask_key auxiliary seed c =
    response_for z.n z.tags id mask_key auxiliary seed c.node (named_byte z s c) (λ k. named_byte z s c (block_length z + k))

unfoldable pub prove_out : (s mask_key auxiliary seed message out : List ℕ) → List ℕ
prove_out s mask_key auxiliary seed message out =
    afterwards (prove_answer s mask_key auxiliary seed message out) out
    (proved_for (sizes_of s) (id_of s) s mask_key auxiliary seed (challenge_of message))
