-- F1's stream gives the key vector, drawn byte by byte and filled block by block. Assumes nothing.
use Prim.Native.Nat.{ℕ, ◌+◌, ◌-◌, ◌*◌}
use mathlib.Core.Path.{◌≡◌, refl, ◌∙◌}
use mathlib.Core.List.{List, ◌∷◌}
use native.Mathlib.Omega.{arith}
use Rattle.lists.specs.Lists.{tab}
use Rattle.lists.proofs.TabLaws.{tab_same}
use Rattle.keystream.specs.declared.stream.Stream.{Stream}
use Rattle.keystream.specs.Draws.{byte_at}
use Rattle.keystream.specs.PrivateStream.{fresh}
use Rattle.keystream.proofs.DrawLaws.{draws_in_order}
use Rattle.tag.specs.KeyVector.{F1, key_vector}
use Rattle.tag.specs.PrivateKeyStream.{GivesKeyVector}

-- F1's byte i is element i
key_byte : (key id : List ℕ) (s i : ℕ) → byte_at key (1 ∷ s ∷ 0 ∷ 0 ∷ id) i ≡ key_vector key id s i
unfolding key_vector F1
key_byte key id s i = let q : i + 1 - 1 ≡ i = omega arith in rw q refl

module _ (key id : List ℕ) (s : ℕ) {nonce : List ℕ} (ids : nonce ≡ 1 ∷ s ∷ 0 ∷ 0 ∷ id) where
  pub key_streamed : {stream : Stream} → stream ≡ fresh key nonce → GivesKeyVector key id s stream
  key_streamed e i = rw (e, ids) (draws_in_order key (1 ∷ s ∷ 0 ∷ 0 ∷ id) i ∙ key_byte key id s i)

  pub key_filled : (n : ℕ) {w : List ℕ} → w ≡ tab n (byte_at key nonce) → w ≡ tab n (key_vector key id s)
  key_filled n e = e ∙ rw ids (tab_same n _ _ (λ i h. key_byte key id s i))
