-- Sets of nodes as code makes and counts them; all of them in a row, their order, and how many have one size: computed tests, and what they
-- say. Assumes nothing.
use Prim.Native.Nat.{ℕ, ◌+◌, ◌-◌, ◌/◌, ◌%◌, ◌^◌, ◌<◌, ◌≤◌}
use mathlib.Core.Path.{◌≡◌, refl, sym, ap, ◌∙◌}
use mathlib.Core.Bool.{Bool, true, false, true≢false}
use native.Mathlib.Omega.{arith}
use borrow.Author.Tests.{ltb-true, lt-ltb, le-ltb, eqb-true, eq-eqb}
use lib.Dec.{T, eqb, leb, ltb, eqb→eq, leb→le}
use lib.ListN.{length}
use Rattle.lists.specs.Lists.{pick, how_many, filtered}
use Rattle.lists.proofs.AllLaws.{all, all_at, told}
use Rattle.lists.proofs.CountLaws.{how_many_more}
use Rattle.lists.proofs.FilterLaws.{length_filtered}
use Rattle.sizes.specs.declared.Sizes.{Sizes}
use Rattle.bits.specs.Fields.{number}
use Rattle.bits.proofs.NumberLaws.{number_low, bit_odd}
use Rattle.archive.specs.Losses.{in_set, nodes_in, SetOf, before}
use Rattle.losses.specs.PrivateSets.{set_at, sized, Decides}

-- ---- all sets of six nodes

-- sets of one size are in order
is_in_order : (x y : ℕ) → Bool
is_in_order x y = pick (eqb (length (nodes_in (set_at x))) (length (nodes_in (set_at y)))) (before (nodes_in (set_at x)) (nodes_in (set_at y))) true

order_test : T (all 64 (λ y. all y (λ x. is_in_order x y)))
unfolding all is_in_order before set_at number nodes_in filtered
order_test = tt

pub set_order : (x y : ℕ) → x < y → y < 64 → length (nodes_in (set_at x)) ≡ length (nodes_in (set_at y)) → before (nodes_in (set_at x)) (nodes_in (set_at y)) ≡ true
unfolding is_in_order
set_order x y h l e =
    sym (ap (λ (b : Bool). pick b (before (nodes_in (set_at x)) (nodes_in (set_at y))) true) (eq-eqb _ _ e))
    ∙ told _ (all_at y _ (all_at 64 _ order_test y l) x h)

-- each set is one of them
found_test : T (all 64 (λ set. eqb (set_at (63 - number (in_set set) 6)) set))
unfolding all set_at number
found_test = tt

pub set_found : (set : ℕ) → set < 64 → set_at (63 - number (in_set set) 6) ≡ set
set_found set h = eqb→eq _ _ (all_at 64 _ found_test set h)

-- of no number of nodes are there more than 20 sets of one size
room_test : T (all 7 (λ nodes. all 7 (λ k. leb (how_many 64 (λ x. sized nodes k (set_at x))) 20)))
unfolding all how_many sized set_at number nodes_in filtered
room_test = tt

pub room : (nodes k : ℕ) → nodes ≤ 6 → k ≤ 6 → how_many 64 (λ x. sized nodes k (set_at x)) ≤ 20
room nodes k h l = leb→le _ _ (all_at 7 _ (all_at 7 _ room_test nodes (omega arith)) k (omega arith))

power_test : T (all 7 (λ nodes. leb (2 ^ nodes) 64))
unfolding all
power_test = tt

pub power_low : (nodes : ℕ) → nodes ≤ 6 → 2 ^ nodes ≤ 64
power_low nodes h = leb→le _ _ (all_at 7 _ power_test nodes (omega arith))

-- ---- as code makes them

pub set_is : (x node : ℕ) {set : ℕ} → set ≡ number (in_set (63 - x)) node → node ≡ 6 → set ≡ set_at x
unfolding set_at
set_is x node e q = e ∙ ap (number (in_set (63 - x))) q

pub set_low : (x : ℕ) → set_at x < 64
unfolding set_at
set_low x = number_low (in_set (63 - x)) 6

pub counted_more : (set node : ℕ) {count : ℕ} → count ≡ how_many node (in_set set) → count + set / 2 ^ node % 2 ≡ how_many (node + 1) (in_set set)
counted_more set node e = omega (arith, e, how_many_more node (in_set set), bit_odd (set / 2 ^ node))

pub nodes_counted : (set node : ℕ) {count : ℕ} → count ≡ how_many node (in_set set) → node ≡ 8 → count ≡ length (nodes_in set)
unfolding nodes_in
nodes_counted set node e q = e ∙ ap (λ (n : ℕ). how_many n (in_set set)) q ∙ sym (length_filtered 8 (in_set set) (λ n. n))

-- ---- a set of k of the nodes

-- as code tests it, by the power of two
pub sized_counted : (nodes k set : ℕ) {power count : ℕ} → power ≡ 2 ^ nodes → set < power → count ≡ length (nodes_in set) → eqb count k ≡ sized nodes k set
unfolding sized
sized_counted nodes k set p h e = rw (lt-ltb set (2 ^ nodes) (rw p at h), e)

pub not_sized : (nodes k set : ℕ) {power : ℕ} → power ≡ 2 ^ nodes → power ≤ set → ltb set power ≡ sized nodes k set
unfolding sized
not_sized nodes k set p h = rw (p, le-ltb set (2 ^ nodes) (rw p at h))

module _ (z : Sizes) (k set : ℕ) where
  both_true : (a b : Bool) → pick a b false ≡ true → (a ≡ true) × (b ≡ true)
  both_true true b e = (refl, e)
  both_true false b e = let q : ◌≡◌ {A = ℕ} 0 1 = cc in absurd (omega arith)

  sized_set : sized z.nodes k set ≡ true → SetOf z k set
  unfolding sized
  sized_set e = let w = both_true _ _ e in (ltb-true _ _ w.0, eqb-true _ _ w.1)

  pub set_sized : SetOf z k set → sized z.nodes k set ≡ true
  unfolding sized
  set_sized w = rw (lt-ltb _ _ w.0, eq-eqb _ _ w.1)

  -- what it decides of a claim about sets of that size
  pub sized_decides : {t : Bool} {P : Type 0} → sized z.nodes k set ≡ true → Decides t P → Decides t (SetOf z k set × P)
  sized_decides e d = (λ f. (sized_set e, d.0 f), λ f w. d.1 f w.1)

  pub unsized_decides : {P : Type 0} → sized z.nodes k set ≡ false → Decides false (SetOf z k set × P)
  unsized_decides e = (λ f. absurd (true≢false (sym f)), λ f w. true≢false (sym (set_sized w.0) ∙ e))
