-- Losses' answer and its list are fixed. Assumes nothing.
use Prim.Native.Nat.{ℕ, ◌<◌, ◌≤◌}
use mathlib.Core.Path.{◌≡◌, sym, ap, ◌∙◌}
use mathlib.Core.Bool.{true}
use mathlib.Core.List.{List}
use mathlib.Core.Logic.{⊎_elim}
use native.Mathlib.Omega.{arith}
use lib.Seq.{ext_get_or}
use Rattle.lists.specs.Lists.{at}
use Rattle.lists.proofs.TabLaws.{order}
use Rattle.lists.proofs.SortedLaws.{same_rising}
use Rattle.answer.specs.Answer.{Ok, Err}
use Rattle.answer.proofs.RefusalLaws.{never_both, same_refusal}
use Rattle.sizes.specs.declared.Sizes.{Sizes}
use Rattle.archive.specs.Layout.{sizes_of}
use Rattle.archive.specs.Losses.{nodes_in, before, list_length, Stands, Losses}
use Rattle.archive.proofs.SetLaws.{before_one_way}
use Rattle.promise.specs.Losing.{LossesAreFixed}

-- what one lists hurts, so the other lists it
listed_too : (z : Sizes) (s : List ℕ) (k c d : ℕ) (sets sets' : List ℕ) → Losses z s k c sets → Losses z s k d sets'
    → (j : ℕ) → j < c → Stands d sets' (at sets j)
listed_too z s k c d sets sets' w w' j h = let o = w.only j h in w'.every (at sets j) o.0 o.1

module _ (z : Sizes) (s : List ℕ) (k c d : ℕ) (sets sets' : List ℕ) (w : Losses z s k c sets) (w' : Losses z s k d sets') where
  sets_same : (c ≡ d) × ((j : ℕ) → j < c → at sets j ≡ at sets' j)
  sets_same =
      same_rising (λ x y. before (nodes_in x) (nodes_in y) ≡ true) (λ x y. before_one_way (nodes_in x) (nodes_in y)) c d (at sets) (at sets')
      w.order w'.order (listed_too z s k c d sets sets' w w') (listed_too z s k d c sets' sets w' w)

  rest_same : (j : ℕ) → c ≤ j → j < list_length → at sets j ≡ at sets' j
  rest_same j l h = w.rest j l h ∙ sym (w'.rest j (omega (arith, sets_same.0)) h)

  lists_same : sets ≡ sets'
  lists_same = ext_get_or 0 sets sets' (w.size ∙ sym w'.size) (λ j h. ⊎_elim (sets_same.1 j) (λ l. rest_same j l (omega (arith, w.size))) (order j c))

pub losses_are_fixed : LossesAreFixed
losses_are_fixed s k lent (Ok c) (Ok d) sets sets' w w' =
    (ap Ok (sets_same (sizes_of s) s k c d sets sets' w.1 w'.1).0, lists_same (sizes_of s) s k c d sets sets' w.1 w'.1)
losses_are_fixed s k lent (Ok c) (Err r) sets sets' w w' = absurd (never_both w.0 w'.1)
losses_are_fixed s k lent (Err r) (Ok d) sets sets' w w' = absurd (never_both w'.0 w.1)
losses_are_fixed s k lent (Err r) (Err r') sets sets' w w' = (ap Err (same_refusal w.1 w'.1), w.0 ∙ sym w'.0)
