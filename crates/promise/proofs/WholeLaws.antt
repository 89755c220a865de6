-- Gathered is whole. Assumes nothing.
use Prim.Native.Nat.{ℕ, ◌+◌, ◌/◌, ◌<◌, ◌≤◌}
use mathlib.Core.Path.{◌≡◌, refl, sym, ap, subst, ◌∙◌}
use mathlib.Core.Bool.{Bool, true, false, not, true≢false}
use mathlib.Core.List.{List, [], ◌∷◌}
use mathlib.Core.Logic.{⊎_elim}
use native.Mathlib.Omega.{arith}
use lib.Arith.{digits_div}
use lib.Dec.{eqb}
use borrow.Author.Tests.{eq-eqb, eqb-true}
use Rattle.lists.specs.Lists.{pick, holds, Bytes}
use Rattle.lists.proofs.TabLaws.{order}
use Rattle.lists.proofs.AnyLaws.{pick_same, pick_test}
use Rattle.lists.proofs.FilterLaws.{length_filtered, filtered_all}
use Rattle.lists.proofs.HoldLaws.{filtered_holds}
use Rattle.answer.specs.Answer.{done}
use Rattle.sizes.specs.declared.Sizes.{Sizes}
use Rattle.sizes.specs.Lengths.{place_count, place_number}
use Rattle.sizes.proofs.SizeLaws.{Ranged}
use Rattle.sizes.proofs.PlaceLaws.{node_of}
use Rattle.archive.specs.Layout.{sizes_of, mark_at, byte_in, bad_archive}
use Rattle.archive.specs.Gather.{gather_answer, gathered, gather_after}
use Rattle.archive.proofs.GoodArchiveLaws.{good_sizes, good_length}
use Rattle.archive.proofs.PartsLaws.{Parts, Tidy, Unused, parts_own, parts_alike, parts_same, stored_tidy, good_unused}
use Rattle.archive.proofs.GatheredLaws.{gathered_parts, gather_done, after_gather}
use Rattle.promise.specs.Shares.{others, keeping, share_of, gather_run, GathersDone, EachOnce, Whole, GatheredIsWhole}
use Rattle.promise.proofs.LoseRunLaws.{Run, lose_run, both}

-- the same choice, its test turned; one node more
turned : {A : Type 0} (b : Bool) (x y : A) → pick (not b) y x ≡ pick b x y
turned true x y = refl
turned false x y = refl

joined : {A : Type 0} (b a : Bool) (x y : A) → pick b (pick (pick b true false) x y) (pick a x y) ≡ pick (pick b true a) x y
joined true a x y = refl
joined false a x y = refl

module _ (s : List ℕ) (are-bytes : Bytes s) (good : bad_archive s ≡ false) where
  abbrev z : Sizes
  z = sizes_of s

  R : Ranged z
  R = good_sizes s good

  unused : Unused z (mark_at s)
  unused = good_unused s refl good

  tidy : Tidy s
  tidy j h = are-bytes (12 + j) (omega (arith, good_length s good))

  -- the marks and records of s at the nodes that pass, and zeros elsewhere
  abbrev mark : (ℕ → Bool) → ℕ → Bool
  mark keep k = pick (keep (k / z.places)) (mark_at s k) false

  abbrev rec : (ℕ → Bool) → ℕ → ℕ → ℕ
  rec keep k p = pick (keep (k / z.places)) (byte_in z s k p) 0

  abbrev Kept : (keep : ℕ → Bool) (t : List ℕ) → Type 0
  Kept keep t = Parts z s (mark keep) (rec keep) t

  kept_unused : (keep : ℕ → Bool) → Unused z (mark keep)
  kept_unused keep k l h = ap (λ (x : Bool). pick (keep (k / z.places)) x false) (unused k l h) ∙ pick_same (keep (k / z.places)) false

  -- the same nodes pass
  kept_alike : {keep keep' : ℕ → Bool} {t : List ℕ} → ((v : ℕ) → keep v ≡ keep' v) → Kept keep t → Kept keep' t
  kept_alike e w =
      parts_alike w (λ k h. ap (λ (b : Bool). pick b (mark_at s k) false) (e (k / z.places)))
      (λ k p h hp. ap (λ (b : Bool). pick b (byte_in z s k p) 0) (e (k / z.places)))

  -- ---- Lose of the nodes outside a set

  run : (set : List ℕ) → Run z s (mark_at s) (byte_in z s) s (others s set)
  run set =
      lose_run z s good refl (parts_own z s (good_length s good)) unused (others s set) (λ j h.
      filtered_all (λ node. node < z.nodes) z.nodes _ (λ node. node) (λ node l _. l) j
      (omega (arith, length_filtered z.nodes (λ node. not (holds set node)) (λ node. node))))

  -- below the last place, a node is among the others if it is not in the set; past it there is no mark
  outside : (set : List ℕ) (k : ℕ) → k < place_count z → holds (others s set) (k / z.places) ≡ not (holds set (k / z.places))
  outside set k h = filtered_holds (λ node. not (holds set node)) (k / z.places) z.nodes (node_of z R k h)

  keeps : (set : List ℕ) → Kept (holds set) (keeping s set)
  keeps set =
      parts_alike (run set).parts
      (λ k h.
      ⊎_elim
      (λ (l : k < place_count z). rw (outside set k l) (turned (holds set (k / z.places)) (mark_at s k) false))
      (λ (l : place_count z ≤ k).
      ap (pick (holds (others s set) (k / z.places)) false) (unused k l h) ∙ pick_same (holds (others s set) (k / z.places)) false
      ∙ sym (kept_unused (holds set) k l h))
      (order k (place_count z)))
      (λ k p h hp. rw (outside set k h) (turned (holds set (k / z.places)) (byte_in z s k p) 0))

  -- ---- one Gather

  module _ (keep : ℕ → Bool) (into : List ℕ) (w : Kept keep into) (node : ℕ) (there : node < z.nodes) (empty : keep node ≡ false) where
    abbrev share : List ℕ
    share = share_of s node

    no_mark : (place : ℕ) → place < z.places → mark keep (place_number z node place) ≡ false
    no_mark place h = rw (digits_div node h, empty)

    gathers : gather_answer into share node ≡ done
    gathers = gather_done s refl good w (keeps (node ∷ [])) (kept_unused keep) (kept_unused (holds (node ∷ []))) node there no_mark

    after : gather_after into share node ≡ gathered z into share node
    after = after_gather s refl good w (keeps (node ∷ [])) (kept_unused keep) (kept_unused (holds (node ∷ []))) node there no_mark

    next : Kept (λ v. pick (eqb v node) true (keep v)) (gather_after into share node)
    next =
        subst (Kept (λ v. pick (eqb v node) true (keep v))) (sym after)
        (parts_alike (gathered_parts s refl good w (keeps (node ∷ [])) (kept_unused keep) (kept_unused (holds (node ∷ []))) node there)
        (λ k h. joined (eqb (k / z.places) node) (keep (k / z.places)) (mark_at s k) false)
        (λ k p h hp. joined (eqb (k / z.places) node) (keep (k / z.places)) (byte_in z s k p) 0))

    next_tidy : Tidy (gather_after into share node)
    next_tidy = subst Tidy (sym after) (stored_tidy z _ _ _ _ into (omega (arith, w.size)))

  -- ---- Gather of all shares of a set

  record Gathers (keep : ℕ → Bool) (into set : List ℕ) : Type 0 where
    all_done : GathersDone s into set
    parts : Kept (λ v. pick (holds set v) true (keep v)) (gather_run s into set)
    bytes : Tidy (gather_run s into set)

  -- none of the set is there yet; so it stays when one of it has come
  apart : (keep : ℕ → Bool) (node : ℕ) (set : List ℕ) → holds set node ≡ false → ((v : ℕ) → holds (node ∷ set) v ≡ true → keep v ≡ false)
      → (v : ℕ) → holds set v ≡ true → pick (eqb v node) true (keep v) ≡ false
  apart keep node set once none v h = go (eqb v node) refl
    where
      go : (b : Bool) → eqb v node ≡ b → pick b true (keep v) ≡ false
      go true q = absurd (true≢false (sym h ∙ ap (holds set) (eqb-true v node q) ∙ once))
      go false q = none v (rw q h)

  gather_all : (set : List ℕ) (keep : ℕ → Bool) (into : List ℕ) → Kept keep into → Tidy into → EachOnce z set
      → ((v : ℕ) → holds set v ≡ true → keep v ≡ false) → Gathers keep into set
  gather_all [] keep into w low once none = record { all_done = tt; parts = w; bytes = low }
  gather_all (node ∷ set) keep into w low once none =
      let empty : keep node ≡ false = none node (rw (eq-eqb node node refl)) in
      let rest =
      gather_all set (λ v. pick (eqb v node) true (keep v)) (gather_after into (share_of s node) node) (next keep into w node once.0 empty)
      (next_tidy keep into w node once.0 empty) once.2 (apart keep node set once.1 none) in
      record {
        all_done = (gathers keep into w node once.0 empty, rest.all_done);
        parts = kept_alike (λ v. both (holds set v) (eqb v node) true (keep v)) rest.parts;
        bytes = rest.bytes;
      }

  whole : (set : List ℕ) → EachOnce z set → Whole s set
  whole set once =
      let from = gather_all set (holds []) (keeping s []) (keeps []) ((run []).tidy tidy) once (λ v h. refl) in
      let made : Kept (holds set) (gather_run s (keeping s []) set) = kept_alike (λ v. pick_test (holds set v)) from.parts in
      record {
        loses_done = λ kept. (run kept).done;
        gathers_done = from.all_done;
        bytes = parts_same made (keeps set) from.bytes ((run set).tidy tidy);
        all = λ every.
            parts_same
            (parts_alike made
            (λ k h.
            ⊎_elim
            (λ (l : k < place_count z). rw (every (k / z.places) (node_of z R k l)))
            (λ (l : place_count z ≤ k). kept_unused (holds set) k l h ∙ sym (unused k l h))
            (order k (place_count z)))
            (λ k p h hp. rw (every (k / z.places) (node_of z R k h))))
            (parts_own z s (good_length s good)) from.bytes tidy;
      }

pub gathered_is_whole : GatheredIsWhole
gathered_is_whole s set are-bytes good once = whole s are-bytes good set once
