-- Sets of nodes: which nodes one has, and the order of two. Assumes nothing.
use Prim.Native.Nat.{ℕ, ◌/◌, ◌^◌, ◌<◌, ◌≤◌}
use mathlib.Core.Path.{◌≡◌, sym, ◌∙◌}
use mathlib.Core.Bool.{true, true≢false}
use mathlib.Core.List.{List, [], ◌∷◌}
use mathlib.Core.Logic.{⊎_elim}
use native.Mathlib.Decide.{ℕ_discrete}
use native.Mathlib.Nat.{div-eq_of_lt}
use native.Mathlib.Omega.{arith}
use lib.ListN.{length}
use lib.Pow.{pow_mono}
use borrow.Author.Tests.{ltb-true, eq-eqb, ne_eqb}
use Rattle.lists.specs.Lists.{at, holds}
use Rattle.lists.proofs.TabLaws.{order}
use Rattle.lists.proofs.FilterLaws.{length_filtered, filtered_all}
use Rattle.lists.proofs.HoldLaws.{filtered_holds}
use Rattle.archive.specs.Losses.{in_set, nodes_in, before}

pub nodes_hold : (set node : ℕ) → node < 8 → holds (nodes_in set) node ≡ in_set set node
unfolding nodes_in
nodes_hold set node h = filtered_holds (in_set set) node 8 h

-- a set below 2 to the number of nodes has no other nodes
node_low : (nodes set node : ℕ) → set < 2 ^ nodes → in_set set node ≡ true → node < nodes
node_low nodes set node h e =
    ⊎_elim (λ l. l)
    (λ (m : nodes ≤ node).
    let none : set / 2 ^ node ≡ 0 = div-eq_of_lt (omega (arith, pow_mono {i = nodes} {j = node} m)) in
    absurd (true≢false (sym e ∙ rw none)))
    (order node nodes)

pub nodes_low : (nodes set : ℕ) → set < 2 ^ nodes → (j : ℕ) → j < length (nodes_in set) → at (nodes_in set) j < nodes
unfolding nodes_in
nodes_low nodes set h j l =
    filtered_all (λ node. node < nodes) 8 (in_set set) (λ node. node) (λ node _ e. node_low nodes set node h e) j
    (omega (arith, length_filtered 8 (in_set set) (λ node. node)))

-- of two lists at most one is before the other
pub before_one_way : (xs ys : List ℕ) → before xs ys ≡ true → before ys xs ≡ true → ⊥
unfolding before
before_one_way [] [] p q = true≢false (sym p)
before_one_way [] (y ∷ ys) p q = true≢false (sym q)
before_one_way (x ∷ xs) [] p q = true≢false (sym p)
before_one_way (x ∷ xs) (y ∷ ys) p q =
    elim (ℕ_discrete x y) [
      | yes e ↦ before_one_way xs ys (rw (eq-eqb x y e) at p) (rw (eq-eqb y x (sym e)) at q)
      | no n ↦ omega (arith, ltb-true x y (rw (ne_eqb x y n) at p), ltb-true y x (rw (ne_eqb y x (λ e. n (sym e))) at q))
    ]
