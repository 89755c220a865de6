-- Shelf order lists each filled place once, and nothing else. Assumes nothing.
use Prim.Native.Nat.{ℕ, ◌+◌, ◌*◌, ◌/◌, ◌%◌, ◌<◌, ◌≤◌}
use mathlib.Core.Path.{◌≡◌, sym, ap, ◌∙◌}
use mathlib.Core.Bool.{Bool}
use mathlib.Core.List.{List}
use mathlib.Core.Logic.{⊎_elim, ◌≢◌}
use native.Mathlib.Nat.{div-add-mod', mul-le-mul_right}
use native.Mathlib.Omega.{arith}
use lib.Arith.{digits_div, digits_mod}
use lib.Dec.{eqb}
use lib.ListN.{length}
use Rattle.lists.specs.Lists.{at, bit, how_many, filtered, zero_padded}
use Rattle.lists.proofs.TabLaws.{order}
use Rattle.lists.proofs.CountLaws.{how_many_same, how_many_most}
use Rattle.lists.proofs.PadLaws.{length_padded, padded_front, padded_behind}
use Rattle.lists.proofs.FilterLaws.{length_filtered, filtered_same, filtered_all, filtered_once, filtered_rising}
use Rattle.sizes.specs.declared.Sizes.{Sizes}
use Rattle.sizes.specs.Lengths.{place_count, place_number}
use Rattle.sizes.proofs.SizeLaws.{Ranged}
use Rattle.sizes.proofs.PlaceLaws.{number_low, node_of, place_of}
use Rattle.archive.specs.Inventory.{place_code, shelf, Listed, Rising}

pub shelf_same : (z : Sizes) (f g : ℕ → Bool) → ((k : ℕ) → k < place_count z → f k ≡ g k) → shelf z f ≡ shelf z g
unfolding shelf
shelf_same z f g e = ap (zero_padded (place_count z)) (filtered_same (place_count z) f g (place_code z) e)

module _ (z : Sizes) (R : Ranged z) where
  -- ---- codes

  code_of : (node place : ℕ) → place < z.places → place_code z (place_number z node place) ≡ 8 * node + place
  code_of node place h = rw (digits_div node h, digits_mod node h)

  code_rises : (k l : ℕ) → k < l → place_code z k < place_code z l
  code_rises k l h =
      let M : ℕ = z.places in
      let a = div-add-mod' k M in
      let b = div-add-mod' l M in
      ⊎_elim
      (λ (lower : k / M < l / M). omega (arith, place_of z R k, R.places_high))
      (λ (not : l / M ≤ k / M).
      ⊎_elim
      (λ (higher : l / M < k / M). absurd (omega (arith, a, b, place_of z R l, mul-le-mul_right {m = l / M + 1} {n = k / M} M (omega arith))))
      (λ (same : k / M ≤ l / M).
      let e : k / M ≡ l / M = omega arith in
      let c : k / M * M ≡ l / M * M = ap (λ (x : ℕ). x * M) e in
      omega (arith, a, b))
      (order (l / M) (k / M)))
      (order (k / M) (l / M))

  codes_differ : (k i : ℕ) → i ≢ k → place_code z i ≢ place_code z k
  codes_differ k i other e =
      ⊎_elim (λ (l : i < k). omega (arith, code_rises i k l))
      (λ (l : k ≤ i). let l' : k < i = omega (arith, other) in omega (arith, code_rises k i l'))
      (order i k)

  -- ---- the list

  module _ (filled : ℕ → Bool) where
    abbrev count : ℕ
    count = how_many (place_count z) filled

    abbrev codes : List ℕ
    codes = filtered (place_count z) filled (place_code z)

    size : length codes ≡ count
    size = length_filtered (place_count z) filled (place_code z)

    entry : (j : ℕ) → j < count → at (shelf z filled) j ≡ at codes j
    unfolding shelf
    entry j h = padded_front (place_count z) codes j (omega (arith, size))

    each_once : (node place : ℕ) → node < z.nodes → place < z.places
        → how_many count (λ j. eqb (at (shelf z filled) j) (8 * node + place)) ≡ bit (filled (place_number z node place))
    each_once node place h hp =
        let k : ℕ = place_number z node place in
        let c : ℕ = 8 * node + place in
        how_many_same count _ _ (λ j l. ap (λ (x : ℕ). eqb x c) (entry j l))
        ∙ ap (λ (x : ℕ). how_many count (λ j. eqb (at codes j) x)) (sym (code_of node place hp))
        ∙ filtered_once (place_count z) filled (place_code z) k (number_low z R node place h hp) (λ i l. codes_differ k i)

    in_range : (k : ℕ) → k < place_count z → (place_code z k / 8 < z.nodes) × (place_code z k % 8 < z.places)
    in_range k h =
        let a = node_of z R k h in
        let b = place_of z R k in
        (omega (arith, a, b, R.places_high), omega (arith, a, b, R.places_high))

    pub shelf_listed : Listed z (λ node place. filled (place_number z node place)) count (shelf z filled)
    unfolding shelf
    shelf_listed =
        record {
          size = length_padded (place_count z) codes (omega (arith, size, how_many_most (place_count z) filled));
          number = how_many_same (place_count z) filled _ (λ k h. ap filled (sym (div-add-mod' k z.places)));
          once = each_once;
          only = λ j h. rw (entry j h) (filtered_all (λ x. (x / 8 < z.nodes) × (x % 8 < z.places)) (place_count z) filled (place_code z) (λ k l p. in_range k l) j h);
          rest = λ j h l. padded_behind (place_count z) codes j (omega (arith, size)) l;
        }

    pub shelf_rising : Rising count (shelf z filled)
    shelf_rising i j h l =
        rw (entry i (omega arith), entry j l) (filtered_rising ◌<◌ (place_count z) filled (place_code z) (λ k m less low a b. code_rises k m less) i j h l)
