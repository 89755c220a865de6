-- What the loop that lists the filled places reads and writes. Assumes nothing.
use Prim.Native.Nat.{ℕ, ◌+◌, ◌*◌, ◌/◌, ◌%◌, ◌<◌}
use mathlib.Core.Path.{◌≡◌, ap, ◌∙◌}
use mathlib.Core.Bool.{Bool}
use mathlib.Core.List.{List}
use native.Mathlib.Omega.{arith}
use Rattle.lists.specs.Lists.{how_many, filtered, zero_padded}
use Rattle.lists.proofs.ListingLaws.{Listing}
use Rattle.sizes.specs.declared.Sizes.{Sizes}
use Rattle.sizes.specs.Lengths.{place_count}
use Rattle.sizes.proofs.SizeLaws.{Ranged}
use Rattle.sizes.proofs.PlaceLaws.{node_of, place_of}
use Rattle.archive.specs.Inventory.{place_code, shelf}

-- the number of places, of the sizes that were read
pub count_read : {z z' : Sizes} → z ≡ z' → place_count z ≡ place_count z'
count_read e = ap (λ (z : Sizes). z.nodes * z.places) e

-- the node and the place of place number k, by the places that were read
pub parts_low : (z : Sizes) → Ranged z → (k : ℕ) {places : ℕ} → places ≡ z.places → k < place_count z → (k / places < 6) × (k % places < 8)
parts_low z R k e low = rw e (omega (arith, node_of z R k low, R.nodes_high), omega (arith, place_of z R k, R.places_high))

-- what the code writes for place number k
pub code_is : (z : Sizes) → Ranged z → (k : ℕ) {places : ℕ} → places ≡ z.places → k < place_count z → (k / places * 8 + k % places) % 256 ≡ place_code z k
code_is z R k p low = let parts = parts_low z R k p low in rw (← p) (omega arith)

pub listing_all : (z : Sizes) (filled : ℕ → Bool) {k count : ℕ} {list : List ℕ} → k ≡ place_count z → Listing (place_count z) (place_code z) filled k count list
    → (count ≡ how_many (place_count z) filled) × (list ≡ shelf z filled)
unfolding shelf
listing_all z filled e w =
    (w.number ∙ ap (λ (n : ℕ). how_many n filled) e, w.holds ∙ ap (λ (n : ℕ). zero_padded (place_count z) (filtered n filled (place_code z))) e)
