-- Places by number, and rows of m bytes. Assumes nothing.
use Prim.Native.Nat.{ℕ, ◌+◌, ◌-◌, ◌/◌, ◌%◌, ◌<◌, ◌≤◌}
use mathlib.Core.Path.{◌≡◌, refl, sym, ap, ◌∙◌, subst}
use mathlib.Core.Bool.{Bool, true, false}
use mathlib.Core.List.{List, [], ◌∷◌}
use mathlib.Core.Logic.{⊎_elim}
use native.Mathlib.Decide.{ℕ_discrete}
use native.Mathlib.Nat.{mul-le-mul_right, div-add-mod'}
use native.Mathlib.Omega.{arith}
use lib.Arith.{digits_div, digits_mod}
use lib.Dec.{eqb, ltb}
use lib.ListN.{length}
use borrow.Author.Tests.{lt-ltb, le-ltb, eq-eqb, ne_eqb}
use Rattle.lists.specs.Lists.{pick, over, Bytes}
use Rattle.lists.proofs.TabLaws.{order, length_tab, tab_at}
use Rattle.lists.proofs.OverLaws.{over_within, over_below, over_above}
use Rattle.lists.proofs.AnyLaws.{none_at, pick_same}
use Rattle.answer.specs.Answer.{Outcome, done, Ok, Err}
use Rattle.answer.specs.Refusals.{afterwards}
use Rattle.answer.proofs.RefusalLaws.{accepted, same}
use Rattle.field.proofs.SumLaws.{sum_lt}
use Rattle.field.proofs.TimesLaws.{times_lt}
use Rattle.sizes.specs.declared.Sizes.{Sizes}
use Rattle.sizes.specs.Lengths.{place_count, place_number}
use Rattle.archive.specs.Calls.{Call, encode, lose, repair, answer_for}
use Rattle.sizes.proofs.SizeLaws.{Ranged}
use Rattle.sizes.proofs.PlaceLaws.{number_low, node_of, place_of}
use Rattle.promise.specs.Table.{Place, empty, filled, Table, all_empty, element, numbered, table_answer, repaired_row, written, table_effect, table_after, table_run}
use Rattle.promise.specs.Demand3.{Given, TakesOne, Admitted}

-- ---- places by number

pub numbered_empty : (z : Sizes) (k : ℕ) → numbered z all_empty k ≡ empty
unfolding numbered
numbered_empty z k = pick_same (ltb k (place_count z)) empty

module _ (z : Sizes) (R : Ranged z) where
  pub numbered_at : (t : Table) (node place : ℕ) → node < z.nodes → place < z.places → numbered z t (place_number z node place) ≡ t node place
  unfolding numbered
  numbered_at t node place h hp =
      rw (lt-ltb (place_number z node place) (place_count z) (number_low z R node place h hp), digits_div node hp, digits_mod node hp)

  pub numbered_below : (t : Table) (k : ℕ) → k < place_count z → numbered z t k ≡ t (k / z.places) (k % z.places)
  unfolding numbered
  numbered_below t k h = rw (lt-ltb k (place_count z) h)

  module _ (node place count : ℕ) (new : ℕ → Place) (t : Table) (h : node < z.nodes) (hp : place + count ≤ z.places) where
    abbrev T' : Table
    T' = written node place count new t

    abbrev K : ℕ
    K = place_number z node place

    written_own : (p : ℕ) → p < z.places → over place count new (t node) p ≡ over K count new (numbered z t) (place_number z node p)
    written_own p l =
        let kept : numbered z t (place_number z node p) ≡ t node p = numbered_at t node p h l in
        ⊎_elim
        (λ (a : p < place). over_below place count new (t node) p a ∙ sym (over_below K count new (numbered z t) (place_number z node p) (omega arith) ∙ kept))
        (λ (b : place ≤ p).
        ⊎_elim
        (λ (a : p < place + count).
        over_within place count new (t node) p b a ∙ ap new {x = p - place} {y = place_number z node p - K} (omega arith)
        ∙ sym (over_within K count new (numbered z t) (place_number z node p) (omega arith) (omega arith)))
        (λ (a : place + count ≤ p).
        over_above place count new (t node) p a ∙ sym (over_above K count new (numbered z t) (place_number z node p) (omega arith) ∙ kept))
        (order p (place + count)))
        (order p place)

    written_other : (b p : ℕ) → (b ≡ node → ⊥) → b < z.nodes → p < z.places → t b p ≡ over K count new (numbered z t) (place_number z b p)
    written_other b p ne hb l =
        ⊎_elim
        (λ (a : b < node).
        sym (over_below K count new (numbered z t) (place_number z b p) (omega (arith, mul-le-mul_right z.places a)) ∙ numbered_at t b p hb l))
        (λ (g : node ≤ b).
        let a : node < b = omega arith in
        sym (over_above K count new (numbered z t) (place_number z b p) (omega (arith, mul-le-mul_right z.places a)) ∙ numbered_at t b p hb l))
        (order b node)

    written_at : (b p : ℕ) → b < z.nodes → p < z.places → T' b p ≡ over K count new (numbered z t) (place_number z b p)
    unfolding written
    written_at b p hb l =
        elim (ℕ_discrete b node) [
          | yes w ↦ rw (w, eq-eqb node node refl) (written_own p l)
          | no w ↦ rw (ne_eqb b node w) (written_other b p w hb l)
        ]

    past : (k : ℕ) → place_count z ≤ k → numbered z T' k ≡ over K count new (numbered z t) k
    unfolding numbered
    past k l =
        rw (le-ltb k (place_count z) l)
        (sym (over_above K count new (numbered z t) k (omega (arith, mul-le-mul_right z.places h)) ∙ rw (le-ltb k (place_count z) l)))

    pub numbered_written : (k : ℕ) → numbered z T' k ≡ over K count new (numbered z t) k
    numbered_written k =
        ⊎_elim
        (λ (l : k < place_count z).
        subst (λ (x : ℕ). numbered z T' x ≡ over K count new (numbered z t) x) (div-add-mod' k z.places)
        (numbered_at T' (k / z.places) (k % z.places) (node_of z R k l) (place_of z R k)
        ∙ written_at (k / z.places) (k % z.places) (node_of z R k l) (place_of z R k)))
        (past k)
        (order k (place_count z))

-- ---- the table's rows are m bytes

abbrev pub Fine : Sizes → Place → Type 0
Fine z empty = Unit {0}
Fine z (filled row) = (length row ≡ z.m) × Bytes row

abbrev pub AllFine : Sizes → Table → Type 0
AllFine z t = (node place : ℕ) → Fine z (t node place)

pub element_lt : (z : Sizes) (x : Place) → Fine z x → (i : ℕ) → i < z.m → element x i < 256
element_lt z empty f i h = omega arith
element_lt z (filled row) f i h = f.1 i (rw f.0 h)

pub written_fine : (z : Sizes) (node place count : ℕ) (new : ℕ → Place) (t : Table) → ((j : ℕ) → Fine z (new j)) → AllFine z t
    → AllFine z (written node place count new t)
unfolding written over
written_fine z node place count new t hn ht b p = go (eqb b node) (ltb p place) (ltb p (place + count))
  where
    go : (x y w : Bool) → Fine z (pick x (pick y (t node p) (pick w (new (p - place)) (t node p))) (t b p))
    go false y w = ht b p
    go true true w = ht node p
    go true false true = hn (p - place)
    go true false false = ht node p

repaired_fine : (z : Sizes) (t : Table) (helpers : List ℕ) (q : ℕ) (gammas thetas : List ℕ) (k : ℕ) → Fine z (filled (repaired_row z t helpers q gammas thetas k))
unfolding repaired_row
repaired_fine z t helpers q gammas thetas k =
    (length_tab z.m _, λ e h. rw (tab_at z.m _ e (rw length_tab at h)) (sum_lt 8 (length helpers) _ (λ i hi. sum_lt 8 q _ (λ j hj. times_lt _ _))))

module _ (g : Given) where
  effect_fine : (t : Table) → AllFine g.z t → (c : Call) → table_answer g.z t c ≡ done → TakesOne g c → AllFine g.z (table_effect g.z t c)
  unfolding answer_for
  effect_fine t ht (encode node place file padding key row) e o =
      written_fine g.z node place _ _ t
      (λ j. (same (length row) g.z.m (none_at _ 3 (accepted _ _ _ e).0), o.3)) ht
  effect_fine t ht (lose node) e o = written_fine g.z node 0 _ _ t (λ j. tt) ht
  effect_fine t ht (repair target helpers q gammas thetas scratch) e o =
      written_fine g.z target 0 _ _ t (λ k. repaired_fine g.z t helpers q gammas thetas k) ht

  after_fine : (t : Table) → AllFine g.z t → (c : Call) → (table_answer g.z t c ≡ done → TakesOne g c) → AllFine g.z (table_after g.z t c)
  unfolding afterwards
  after_fine t ht c o = go (table_answer g.z t c) refl
    where
      go : (a : Outcome) → table_answer g.z t c ≡ a → AllFine g.z (afterwards a t (table_effect g.z t c))
      go (Ok _) e = effect_fine t ht c e (o e)
      go (Err r) e = ht

  pub run_fine : (t : Table) → AllFine g.z t → (calls : List Call) → Admitted g t calls → AllFine g.z (table_run g.z t calls)
  run_fine t ht [] a = ht
  run_fine t ht (c ∷ cs) a = run_fine (table_after g.z t c) (after_fine t ht c a.0) cs a.1
