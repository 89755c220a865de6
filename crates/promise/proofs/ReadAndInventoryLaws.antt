-- Read and Inventory on the image of a table. Assumes nothing.
use Prim.Native.Nat.{ℕ, ◌+◌, ◌-◌, ◌*◌, ◌/◌, ◌%◌, ◌<◌}
use mathlib.Core.Path.{◌≡◌, refl, sym, ap, ap₂, ◌∙◌, subst}
use mathlib.Core.Bool.{Bool}
use mathlib.Core.List.{List}
use mathlib.Core.Logic.{⊎_elim, ◌↔◌, ◌≢◌}
use native.Mathlib.Omega.{arith}
use lib.ListN.{length}
use borrow.Author.Tests.{eq-eqb, ne_eqb}
use Rattle.lists.specs.Lists.{at, bit, how_many, Bytes}
use Rattle.answer.specs.Answer.{Counted, done, Ok, Err}
use Rattle.answer.specs.declared.Refusal.TheVariants.{Length, BadArchive}
use Rattle.answer.specs.Numbers.{refusal_number, answer_number}
use Rattle.answer.specs.Refusals.{refuse, afterwards, differs}
use Rattle.answer.proofs.RefusalLaws.{never_both, counted_written, counted_kept}
use Rattle.field.specs.Field.{times}
use Rattle.field.proofs.SumLaws.{sum_same}
use Rattle.sizes.specs.declared.Sizes.{Sizes}
use Rattle.vector.specs.Vectors.{product, mixed}
use Rattle.sizes.specs.Lengths.{place_count, file_length}
use Rattle.archive.specs.Layout.{sizes_of, mark_at, byte_in, bad_archive}
use Rattle.archive.specs.Blocks.{coded}
use Rattle.archive.specs.Read.{row_in, Blind, among, Enough, ReadFor, ReadAllows}
use Rattle.archive.specs.Inventory.{shelf, inventory_before, inventory_answer, inventory_out, Listed}
use Rattle.answer.specs.Counted.{counted, counted_value}
use Rattle.sizes.proofs.SizeLaws.{Ranged}
use Rattle.sizes.proofs.PlaceLaws.{count_low, node_of, place_of}
use Rattle.archive.proofs.BlockLaws.{source_file}
use Rattle.lists.proofs.CountLaws.{how_many_same}
use Rattle.archive.proofs.ReadLaws.{blind_same, solution_only}
use Rattle.archive.proofs.ShelfLaws.{shelf_same, shelf_listed}
use Rattle.promise.specs.Table.{Place, Table, is_filled, element, numbered}
use Rattle.promise.specs.Image.{Setting, image}
use Rattle.promise.proofs.TableLaws.{Fine, AllFine, numbered_at, numbered_below}
use Rattle.promise.proofs.ImageLaws.{Fit, image_sizes, image_good, image_mark, image_number, image_rows, record_block}

-- ---- two that agree on the places there are

module _ (z : Sizes) (R : Ranged z) (f g : ℕ → ℕ → Bool) (agree : (node place : ℕ) → node < z.nodes → place < z.places → f node place ≡ g node place) where
  listed_same : (count : ℕ) (list : List ℕ) → Listed z f count list → Listed z g count list
  listed_same count list l =
      record {
        size = l.size;
        number = l.number ∙ how_many_same (place_count z) _ _ (λ k h. agree (k / z.places) (k % z.places) (node_of z R k h) (place_of z R k));
        once = λ node place h hp. l.once node place h hp ∙ ap bit (agree node place h hp);
        only = l.only;
        rest = l.rest;
      }

among_same : (z : Sizes) (count : ℕ) (f g : ℕ → Bool) → ((k : ℕ) → k < place_count z → f k ≡ g k) → (k : ℕ) → k < place_count z → among count f k ≡ among count g k
among_same z count f g same k h = rw (same k h, how_many_same k f g (λ i l. same i (omega arith)))

enough_same : (z : Sizes) (f g : ℕ → Bool) (r r' : ℕ → ℕ → ℕ) (count : ℕ) → ((k : ℕ) → k < place_count z → f k ≡ g k)
    → ((k i : ℕ) → k < place_count z → i < z.m → r k i ≡ r' k i) → Enough z f r count → Enough z g r' count
enough_same z f g r r' count same rows e =
    record {
      least = e.least;
      most = rw (← how_many_same (place_count z) f g same) e.most;
      suffice = λ b. e.suffice (blind_same z _ _ r' r (λ k h. sym (among_same z count f g same k h)) (λ k i h t hi. sym (rows k i h hi)) b);
    }

-- ---- answers

module _ (s : Setting) (F : Fit s) (t : Table) (fine : AllFine s.z t) where
  abbrev A : List ℕ
  A = image s t

  abbrev is_f : ℕ → Bool
  is_f k = is_filled (numbered s.z t k)

  abbrev row : ℕ → ℕ → ℕ
  row k = element (numbered s.z t k)

  before_right : (out : List ℕ) (n : ℕ) → length out ≡ n → refuse (bad_archive A) BadArchive (refuse (differs (length out) n) Length done) ≡ done
  unfolding refuse
  before_right out n e = rw (image_good s F t, eq-eqb (length out) n e)

  before_wrong : (out : List ℕ) (n : ℕ) → length out ≢ n → refuse (bad_archive A) BadArchive (refuse (differs (length out) n) Length done) ≡ Err Length
  unfolding refuse
  before_wrong out n e = rw (image_good s F t, ne_eqb (length out) n e)

  -- ---- Inventory

  mark_is : (k : ℕ) → k < place_count s.z → mark_at A k ≡ is_f k
  mark_is k h = image_mark s F t k (omega (arith, count_low s.z F.ranged))

  abbrev count : ℕ
  count = how_many (place_count s.z) is_f

  table_listed : Listed s.z (λ node place. is_filled (t node place)) count (shelf s.z is_f)
  table_listed =
      listed_same s.z F.ranged _ _ (λ node place h hp. ap is_filled (numbered_at s.z F.ranged t node place h hp)) count _
      (shelf_listed s.z F.ranged is_f)

  -- what demand 3 says of it, by the sizes that are read
  abbrev Inventoried : Sizes → List ℕ → Type 0
  Inventoried z out =
      (length out ≡ place_count s.z
      → (counted (inventory_before z A out) (how_many (place_count z) (mark_at A)) ≡ Ok count)
      × (afterwards (inventory_before z A out) out (shelf z (mark_at A)) ≡ shelf s.z is_f)
      × Listed s.z (λ node place. is_filled (t node place)) count (afterwards (inventory_before z A out) out (shelf z (mark_at A))))
      × (length out ≢ place_count s.z → answer_number (counted (inventory_before z A out) (how_many (place_count z) (mark_at A))) ≡ 2)

  by_sizes : (out : List ℕ) → Inventoried (sizes_of A) out
  by_sizes out =
      let counts : count ≡ how_many (place_count s.z) (mark_at A) = sym (how_many_same (place_count s.z) (mark_at A) is_f mark_is) in
      let shelves : shelf s.z is_f ≡ shelf s.z (mark_at A) = sym (shelf_same s.z (mark_at A) is_f mark_is) in
      subst (λ (z : Sizes). Inventoried z out) (sym (image_sizes s F t)) (
        λ e.
            let w = counted_written out (before_right out _ e) counts shelves in
            (sym w.0, sym w.1, subst (Listed s.z (λ node place. is_filled (t node place)) count) w.1 table_listed),
        λ e. ap answer_number (sym (counted_kept {before = out} _ out (before_wrong out _ e)).0),
      )

  pub inventory : (out : List ℕ)
      → (length out ≡ place_count s.z
      → (inventory_answer A out ≡ Ok count) × (inventory_out A out ≡ shelf s.z is_f)
      × Listed s.z (λ node place. is_filled (t node place)) count (inventory_out A out))
      × (length out ≢ place_count s.z → answer_number (inventory_answer A out) ≡ 2)
  unfolding inventory_answer inventory_out
  inventory = by_sizes

  -- ---- Read

  fine_at : (k : ℕ) → k < place_count s.z → Fine s.z (numbered s.z t k)
  fine_at k h = subst (Fine s.z) (sym (numbered_below s.z F.ranged t k h)) (fine (k / s.z.places) (k % s.z.places))

  row_is : (k i : ℕ) → k < place_count s.z → i < s.z.m → row_in s.z A k i ≡ row k i
  row_is k i h hi = image_rows s F t k i (fine_at k h) h hi

  to_table : Blind s.z (mark_at A) (row_in s.z A) → Blind s.z is_f row
  to_table = blind_same s.z _ _ _ _ mark_is (λ k i h t hi. row_is k i h hi)

  to_archive : Blind s.z is_f row → Blind s.z (mark_at A) (row_in s.z A)
  to_archive = blind_same s.z _ _ _ _ (λ k h. sym (mark_is k h)) (λ k i h t hi. sym (row_is k i h hi))

  -- the file solves every place's equations
  file_solves : (k e : ℕ) → k < place_count s.z → e < s.z.n - 2
      → product s.z.m (row_in s.z A k) (λ i. at s.file (i * (s.z.n - 2) + e)) ≡ byte_in s.z A k e
  unfolding product coded mixed
  file_solves k e h he =
      let x : Place = numbered s.z t k in
      sym (image_number s F t k e h (omega arith) ∙ record_block s F t x e (omega arith)
      ∙ sum_same s.z.m _ _ (λ i hi. ap₂ times (sym (row_is k i h hi)) (source_file s.z s.file s.padding i e he)))

  -- what demand 3 says of an answer and a file
  abbrev Answered : Counted → List ℕ → Type 0
  Answered answer file =
      ((answer_number answer ≡ 8) ↔ Blind s.z is_f row)
      × ((¬ Blind s.z is_f row) → (answer_number answer ≡ 0) × (file ≡ s.file) × ((old : ℕ) → Enough s.z is_f row (counted_value answer old)))

  pub read : length s.file ≡ file_length s.z → Bytes s.file
      → (out : List ℕ) (answer : Counted) (file : List ℕ) → length out ≡ file_length s.z → ReadAllows A out answer file → Answered answer file
  read size bytes out answer file long allows = go answer (subst (λ (z : Sizes). ReadFor z A out answer file) (image_sizes s F t) allows)
    where
      go : (answer : Counted) → ReadFor s.z A out answer file → Answered answer file
      go (Ok k) w = (
        (λ e. absurd (omega arith), λ b. absurd (w.1 (to_archive b))),
        λ nb. (
          refl,
          solution_only s.z A file s.file w.2 F.ranged.n_low size bytes (λ k e h tk he. file_solves k e h he) w.1,
          λ old. enough_same s.z _ _ _ _ k mark_is row_is w.3,
        ),
      )
      go (Err r) w =
          ⊎_elim
          (λ x. absurd (never_both (before_right out _ long) x))
          (λ x. ((λ e. to_table x.2, λ b. ap refusal_number x.1), λ nb. absurd (nb (to_table x.2))))
          w.1
