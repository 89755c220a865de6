-- A rebuilt archive is a fresh one. Assumes nothing.
use Prim.Native.Nat.{ℕ, zero, suc, ◌+◌, ◌/◌, ◌%◌, ◌<◌, ◌≤◌}
use mathlib.Core.Path.{◌≡◌, refl, sym, ap, ap₂, ◌∙◌, subst}
use mathlib.Core.List.{List, ◌∷◌}
use mathlib.Core.Logic.{⊎_elim}
use native.Mathlib.Nat.{div-add-mod'}
use native.Mathlib.Omega.{arith}
use lib.ListN.{length}
use borrow.Author.Tests.{le-ltb, lt-leb, eq-eqb}
use Rattle.lists.specs.Lists.{over, any_of}
use Rattle.lists.proofs.TabLaws.{order}
use Rattle.lists.proofs.OverLaws.{over_within, over_below, over_above}
use Rattle.lists.proofs.AnyLaws.{none_at}
use Rattle.answer.specs.Answer.{done}
use Rattle.answer.specs.Refusals.{refuse}
use Rattle.answer.proofs.RefusalLaws.{accepted, same, after_done}
use Rattle.sizes.specs.declared.Sizes.{Sizes}
use Rattle.sizes.specs.Lengths.{place_count, archive_length, place_number}
use Rattle.sizes.proofs.SizeLaws.{Ranged}
use Rattle.sizes.proofs.PlaceLaws.{number_low, node_of, place_of}
use Rattle.archive.specs.Open.{open_answer}
use Rattle.archive.specs.Calls.{Call, encode, answer_for, archive_answers, archive_run, all_done}
use Rattle.archive.proofs.LayoutLaws.{archive_same}
use Rattle.promise.specs.Table.{Place, empty, filled, Table, all_empty, is_filled, numbered, table_answer, table_after, table_answers, table_run}
use Rattle.promise.specs.Image.{Setting, place_record, image}
use Rattle.promise.specs.Demand3.{Given, setting, Admitted}
use Rattle.promise.specs.Fresh.{encode_first, fresh_from, fresh_calls, new_archive, RebuiltIsFresh, TableFixesBytes}
use Rattle.promise.proofs.TableLaws.{numbered_empty, numbered_at, numbered_below, numbered_written, Fine, AllFine, run_fine}
use Rattle.promise.proofs.ImageLaws.{Fit}
use Rattle.promise.proofs.DemandLaws.{fits, keys, from_new, run_is}

-- ---- equal tables, equal bytes

numbered_same : (z : Sizes) → Ranged z → (t t' : Table) → ((node place : ℕ) → node < z.nodes → place < z.places → t node place ≡ t' node place)
    → (k : ℕ) → numbered z t k ≡ numbered z t' k
unfolding numbered
numbered_same z R t t' h k =
    ⊎_elim
    (λ (l : k < place_count z).
    numbered_below z R t k l ∙ h (k / z.places) (k % z.places) (node_of z R k l) (place_of z R k) ∙ sym (numbered_below z R t' k l))
    (λ (l : place_count z ≤ k). rw (le-ltb k (place_count z) l))
    (order k (place_count z))

image_same : (s : Setting) → Fit s → (t t' : Table)
    → ((node place : ℕ) → node < s.z.nodes → place < s.z.places → t node place ≡ t' node place) → image s t ≡ image s t'
unfolding image
image_same s F t t' h =
    let now : (k : ℕ) → numbered s.z t k ≡ numbered s.z t' k = numbered_same s.z F.ranged t t' h in
    archive_same s.layout s.z s.id _ _ _ _ (λ k l. ap is_filled (now k)) (λ k p l lp. ap (λ (x : Place). place_record s x p) (now k))

-- Open does not look at what it is lent, but for the length
pub lent_length : (g : Given) → length g.lent ≡ archive_length g.z
unfolding open_answer
lent_length g = same _ _ (none_at _ 1 (accepted _ _ _ (accepted _ _ _ g.open_done).1).0)

pub reopens : (g : Given) (lent : List ℕ) → length lent ≡ archive_length g.z → open_answer g.layout g.z g.id lent ≡ done
unfolding open_answer
reopens g lent long = rw (long ∙ sym (lent_length g)) g.open_done

pub table_fixes_bytes : TableFixesBytes
table_fixes_bytes g calls calls' a a' h lent long =
    run_is g calls a ∙ image_same (setting g) (fits g) _ _ h ∙ sym (from_new g lent (reopens g lent long) calls' a').1

-- ---- the Encodes, one by one

module _ (g : Given) (t : Table) (fine : AllFine g.z t) where
  abbrev z : Sizes
  z = g.z

  R : Ranged z
  R = (fits g).ranged

  -- the table when the places below number k have their rows: these are t's, and the others are empty
  record SoFar (k : ℕ) (u : Table) : Type 0 where
    below : (j : ℕ) → j < k → numbered z u j ≡ numbered z t j
    rest : (j : ℕ) → k ≤ j → numbered z u j ≡ empty

  -- these calls are admitted and done, and make t of the table u
  record Fills (u : Table) (calls : List Call) : Type 0 where
    admitted : Admitted g u calls
    answers : table_answers z u calls ≡ all_done calls
    ends : (node place : ℕ) → node < z.nodes → place < z.places → table_run z u calls node place ≡ t node place

  module _ (k : ℕ) (h : k < place_count z) (u : Table) (w : SoFar k u) where
    abbrev node : ℕ
    node = k / z.places

    abbrev place : ℕ
    place = k % z.places

    still_empty : u node place ≡ empty
    still_empty = sym (numbered_below z R u k h) ∙ w.rest k (omega arith)

    module _ (row : List ℕ) (held : t node place ≡ filled row) where
      abbrev call : Call
      call = encode node place g.file g.padding g.tag_key row

      row_fine : Fine z (filled row)
      row_fine = subst (Fine z) held (fine node place)

      call_done : table_answer z u call ≡ done
      unfolding answer_for refuse any_of
      call_done =
          rw (
            eq-eqb _ _ g.file_size,
            eq-eqb _ _ g.padding_size,
            eq-eqb _ _ (keys g).tag_size,
            eq-eqb _ _ row_fine.0,
            lt-leb z.nodes node (node_of z R k h),
            lt-leb z.places place (place_of z R k),
            still_empty,
          )

      -- the table after the call, by number
      after_is : (j : ℕ) → numbered z (table_after z u call) j ≡ over k 1 (λ _. filled row) (numbered z u) j
      after_is j =
          ap (λ (v : Table). numbered z v j) (after_done _ _ call_done)
          ∙ numbered_written z R node place 1 (λ _. filled row) u (node_of z R k h) (omega (arith, place_of z R k)) j
          ∙ ap (λ (x : ℕ). over x 1 (λ _. filled row) (numbered z u) j) (div-add-mod' k z.places)

      after_so_far : SoFar (k + 1) (table_after z u call)
      after_so_far =
          record {
            below = λ j l.
                ⊎_elim
                (λ (b : j < k). after_is j ∙ over_below k 1 _ _ j b ∙ w.below j b)
                (λ (b : k ≤ j).
                let e : j ≡ k = omega arith in
                rw e (after_is k ∙ over_within k 1 _ _ k (omega arith) (omega arith) ∙ sym held ∙ sym (numbered_below z R t k h)))
                (order j k);
            rest = λ j l. after_is j ∙ over_above k 1 _ _ j l ∙ w.rest j (omega arith);
          }

    -- the calls for place number k and those behind it
    fill_place : (calls : List Call) → ((v : Table) → SoFar (k + 1) v → Fills v calls) → (held : Place) → t node place ≡ held
        → Fills u (encode_first (setting g) node place held calls)
    fill_place calls behind empty e =
        behind u
        (record {
          below = λ j l.
              ⊎_elim
              (w.below j)
              (λ (b : k ≤ j). let q : j ≡ k = omega arith in rw q (w.rest k (omega arith) ∙ sym (numbered_below z R t k h ∙ e)))
              (order j k);
          rest = λ j l. w.rest j (omega arith);
        })
    fill_place calls behind (filled row) e =
        let after = behind (table_after z u (call row e)) (after_so_far row e) in
        record {
          admitted = (λ _. (refl, refl, refl, (row_fine row e).1), after.admitted);
          answers = ap₂ ◌∷◌ (call_done row e) after.answers;
          ends = after.ends;
        }

  fill_from : (count k : ℕ) (u : Table) → k + count ≡ place_count z → SoFar k u → Fills u (fresh_from (setting g) t k count)
  fill_from zero k u e w =
      record {
        admitted = tt;
        answers = refl;
        ends = λ node place h hp.
            sym (numbered_at z R u node place h hp) ∙ w.below (place_number z node place) (omega (arith, number_low z R node place h hp))
            ∙ numbered_at z R t node place h hp;
      }
  fill_from (suc count) k u e w =
      fill_place k (omega arith) u w _ (λ v. fill_from count (k + 1) v (omega arith)) (t (k / z.places) (k % z.places)) refl

  fill_all : Fills all_empty (fresh_calls (setting g) t)
  fill_all =
      fill_from (place_count z) 0 all_empty (omega arith)
      (record { below = λ j l. absurd (omega arith); rest = λ j l. numbered_empty z j })

-- ---- the claim

-- the Encodes of any table's rows are admitted
pub fresh_admitted : (g : Given) (t : Table) → AllFine g.z t → Admitted g all_empty (fresh_calls (setting g) t)
fresh_admitted g t fine = (fill_all g t fine).admitted

-- a new archive with the rows of any table encoded: every Encode is done, and it is the table's image
pub encoded_is : (g : Given) (t : Table) → AllFine g.z t → (lent : List ℕ) → length lent ≡ archive_length g.z
    → (archive_answers (new_archive g lent) (fresh_calls (setting g) t) ≡ all_done (fresh_calls (setting g) t))
    × (archive_run (new_archive g lent) (fresh_calls (setting g) t) ≡ image (setting g) t)
encoded_is g t fine lent long =
    let w = fill_all g t fine in
    let made = from_new g lent (reopens g lent long) (fresh_calls (setting g) t) w.admitted in
    (made.0 ∙ w.answers, made.1 ∙ image_same (setting g) (fits g) _ t w.ends)

pub rebuilt_is_fresh : RebuiltIsFresh
rebuilt_is_fresh g calls a lent long =
    let e = encoded_is g (table_run g.z all_empty calls) (run_fine g all_empty (λ node place. tt) calls a) lent long in
    record { opens = reopens g lent long; encodes = e.0; same = run_is g calls a ∙ sym e.1 }
