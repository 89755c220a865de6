-- A list of sets that passes computed tests is what Losses lists, and no other list is. Assumes nothing.
use Prim.Native.Nat.{ℕ, zero, suc, ◌*◌, ◌^◌, ◌<◌, ◌≤◌}
use mathlib.Core.Path.{◌≡◌, sym, ap, subst, ◌∙◌}
use mathlib.Core.Bool.{Bool, true, false}
use mathlib.Core.List.{List, [], ◌∷◌}
use mathlib.Core.Logic.{◌≢◌, ◌↔◌, ◌⊎◌, inl, inr, ⊎_elim}
use native.Mathlib.Omega.{arith}
use lib.Dec.{T, eqb, ltb, eqb→eq, ltb→lt, eqb_refl}
use lib.ListN.{length}
use borrow.Author.Tests.{le-ltb}
use Rattle.lists.specs.Lists.{pick, at, zero_padded, any_below}
use Rattle.lists.proofs.AllLaws.{all, all_at, told}
use Rattle.lists.proofs.PadLaws.{padded_behind, length_padded}
use Rattle.answer.specs.Answer.{Counted, Ok}
use Rattle.answer.proofs.RefusalLaws.{passed, differs_same}
use Rattle.sizes.specs.declared.Sizes.{Sizes}
use Rattle.vector.specs.Vectors.{product}
use Rattle.archive.specs.Layout.{sizes_of, bad_archive}
use Rattle.archive.specs.Read.{row_in}
use Rattle.archive.specs.Losses.{nodes_in, before, remains, Hurts, list_length, Stands, Losses, LossesFor, LossesAllows}
use Rattle.promise.proofs.Each.{bytes_each}
use Rattle.promise.proofs.LossesFixed.{losses_are_fixed}

-- ---- a list that passes computed tests is the list

-- b holds where a does
follows : (a b : Bool) → T (pick a b true) → T a → T b
follows true b t e = t
follows false b t e = absurd e

same_passes : (x y : ℕ) → x ≡ y → T (eqb x y)
same_passes x y e = subst (λ (n : ℕ). T (eqb x n)) e (eqb_refl x)

pub either : (a b : Bool) → T (pick a true b) → T a ⊎ T b
either true b t = inl tt
either false b t = inr t

-- an index that passes
found : (count : ℕ) (sets : List ℕ) (set : ℕ) → T (any_below count (λ j. eqb (at sets j) set)) → Stands count sets set
unfolding any_below
found zero sets set t = absurd t
found (suc n) sets set t =
    ⊎_elim (λ t. (n, omega arith, eqb→eq _ _ t)) (λ t. let w = found n sets set t in (w.0, omega (arith, w.1), w.2))
    (either (eqb (at sets n) set) _ t)

-- tests that antt computes: the sets xs, in a list that zeros fill, are those of k nodes that hurt, each before the next, where `hurting`
-- tells which do
abbrev pub Passes : (hurting : ℕ → Bool) (nodes k : ℕ) (xs : List ℕ) → Type 0
Passes hurting nodes k xs =
    let count = length xs in
    let sets = zero_padded list_length xs in
    T (all count (λ j. ltb (at sets j) (2 ^ nodes)))
    × T (all count (λ j. eqb (length (nodes_in (at sets j))) k))
    × T (all count (λ j. hurting (at sets j)))
    × T (all (2 ^ nodes) (λ set. pick (eqb (length (nodes_in set)) k) (pick (hurting set) (any_below count (λ j. eqb (at sets j) set)) true) true))
    × T (all count (λ j. all j (λ i. before (nodes_in (at sets i)) (nodes_in (at sets j)))))

module _ (z : Sizes) (s : List ℕ) (sizes : sizes_of s ≡ z) (good : bad_archive s ≡ false) (hurting : ℕ → Bool)
    (is : (set : ℕ) → Hurts z s set ↔ T (hurting set)) (k : ℕ) (xs lent : List ℕ) where
  abbrev sets : List ℕ
  sets = zero_padded list_length xs

  losses : length xs ≤ list_length → Passes hurting z.nodes k xs → Losses z s k (length xs) sets
  losses low (there, many, hurt, none-missing, rises) =
      record {
        size = length_padded list_length xs low;
        fits = low;
        only = λ j h.
            ((ltb→lt _ _ (all_at _ _ there j h), eqb→eq _ _ (all_at _ _ many j h)), (is (at sets j)).1 (all_at _ _ hurt j h));
        every = λ set of w.
            found _ sets set (follows (hurting set) _
            (follows (eqb (length (nodes_in set)) k) _ (all_at _ _ none-missing set of.0) (same_passes _ _ of.1)) ((is set).0 w));
        order = λ i j h l. told _ (all_at _ _ (all_at _ _ rises j l) i h);
        rest = padded_behind list_length xs;
      }

  pub listed : k ≤ z.nodes → length lent ≡ list_length → length xs ≤ list_length → Passes hurting z.nodes k xs
      → LossesAllows s k lent (Ok (length xs)) sets
  listed most e low t =
      subst (λ (x : Sizes). LossesFor x s k lent (Ok (length xs)) sets) (sym sizes)
      (passed _ _ good ∙ passed _ _ (le-ltb z.nodes k most) ∙ passed _ _ (differs_same e), losses low t)

-- no other list is
pub other : (s : List ℕ) (k : ℕ) (lent : List ℕ) (count : ℕ) (sets sets' wrong : List ℕ) (answer : Counted) (i : ℕ)
    → LossesAllows s k lent (Ok count) sets → LossesAllows s k lent answer sets' → at sets i ≢ at wrong i → sets' ≢ wrong
other s k lent count sets sets' wrong answer i w w' n e =
    n (ap (λ (l : List ℕ). at l i) ((losses_are_fixed s k lent (Ok count) answer sets sets' w w').1 ∙ e))

-- ---- archives of n=3 and m=2

abbrev pub sized : (places nodes tags : ℕ) → Sizes
sized places nodes tags = record { n = 3; m = 2; places = places; nodes = nodes; tags = tags }

-- a set hurts by a vector a b, b not 00, that is orthogonal to the rows that remain
pub hurts_by : (places nodes tags : ℕ) (s : List ℕ) (set a b : ℕ) → a < 256 → b < 256 → b ≢ 0
    → ((k : ℕ) → k < nodes * places → remains (sized places nodes tags) s set k ≡ true
    → product 2 (row_in (sized places nodes tags) s k) (at (a ∷ b ∷ [])) ≡ 0)
    → Hurts (sized places nodes tags) s set
hurts_by places nodes tags s set a b low low' n orthogonal =
    record {
      v = at (a ∷ b ∷ []);
      bytes = bytes_each (a ∷ b ∷ []) (low, (low', tt));
      one = 1;
      one_there = omega arith;
      one_not = n;
      orthogonal = orthogonal;
    }
