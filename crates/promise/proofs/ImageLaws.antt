-- What the image of a table says, and that a store into it is a change of the table. Assumes nothing.
use Prim.Native.Nat.{ℕ, ◌+◌, ◌-◌, ◌<◌, ◌≤◌}
use mathlib.Core.Path.{◌≡◌, refl, sym, ap, ◌∙◌}
use mathlib.Core.Bool.{Bool, false}
use mathlib.Core.List.{List}
use mathlib.Core.Logic.{⊎_elim}
use native.Mathlib.Nat.{mul-le-mul_right}
use native.Mathlib.Omega.{arith}
use lib.ListN.{length}
use borrow.Author.Tests.{lt-ltb, le-ltb}
use Rattle.lists.specs.Lists.{at}
use Rattle.lists.proofs.TabLaws.{order, tab_at}
use Rattle.lists.proofs.OverLaws.{over_map, over_same}
use Rattle.field.specs.Field.{times}
use Rattle.field.proofs.SumLaws.{sum_same}
use Rattle.vector.specs.Vectors.{product, mixed}
use Rattle.tag.specs.KeyVector.{with_tags}
use Rattle.vector.proofs.VectorLaws.{mixed_scale, mixed_sum, mixed_same, mixed_zero, product_keys}
use Rattle.tag.proofs.TagLaws.{tags_combine}
use Rattle.sizes.specs.Lengths.{place_count, block_length, record_length, place_number}
use Rattle.archive.specs.Layout.{layout_outside, archive_of, layout_of, sizes_of, id_of, mark_at, filled_in, byte_in, bad_archive, stored}
use Rattle.archive.specs.Open.{opened}
use Rattle.archive.specs.Blocks.{source, coded, coded_record}
use Rattle.archive.specs.Repair.{repair_sum, repair_byte, target_byte}
use Rattle.archive.specs.Read.{row_in}
use Rattle.sizes.proofs.SizeLaws.{Ranged}
use Rattle.sizes.proofs.PlaceLaws.{number_low, count_low}
use Rattle.archive.proofs.LayoutLaws.{archive_front, id_back, byte_back, mark_back, layout_back, sizes_back, good_back, archive_same}
use Rattle.archive.proofs.PartsLaws.{stored_is}
use Rattle.archive.proofs.BlockLaws.{coded_row}
use Rattle.promise.specs.Table.{Place, empty, filled, Table, all_empty, is_filled, element, numbered, repaired_row, written}
use Rattle.promise.specs.Image.{Setting, vector, place_record, image}
use Rattle.promise.proofs.TableLaws.{numbered_empty, numbered_at, numbered_written, Fine, element_lt}

-- a setting in range
pub record Fit (s : Setting) : Type 0 where
  pub laid : layout_outside s.layout s.z.tags ≡ false
  pub ranged : Ranged s.z
  pub id_size : length s.id ≡ 8

module _ (s : Setting) (F : Fit s) (t : Table) where
  abbrev mark : ℕ → Bool
  mark k = is_filled (numbered s.z t k)

  abbrev rec : ℕ → ℕ → ℕ
  rec k = place_record s (numbered s.z t k)

  -- ---- what is read back

  pub image_sizes : sizes_of (image s t) ≡ s.z
  unfolding image
  image_sizes = sizes_back s.layout s.z s.id F.id_size mark rec F.laid F.ranged

  pub image_layout : layout_of (image s t) ≡ s.layout
  unfolding image
  image_layout = layout_back s.layout s.z s.id F.id_size mark rec F.laid

  pub image_id : id_of (image s t) ≡ s.id
  unfolding image
  image_id = id_back s.layout s.z s.id F.id_size mark rec

  pub image_mark : (k : ℕ) → k < 48 → mark_at (image s t) k ≡ is_filled (numbered s.z t k)
  unfolding image
  image_mark k h = mark_back s.layout s.z s.id F.id_size mark rec k h

  pub image_good : bad_archive (image s t) ≡ false
  unfolding image numbered
  image_good = good_back s.layout s.z s.id F.id_size mark rec F.laid F.ranged (λ k h. rw (le-ltb k (place_count s.z) h))

  pub image_number : (k e : ℕ) → k < place_count s.z → e < record_length s.z → byte_in s.z (image s t) k e ≡ place_record s (numbered s.z t k) e
  unfolding image
  image_number k e h he = byte_back s.layout s.z s.id F.id_size mark rec k e h he

  pub image_filled : (node place : ℕ) → node < s.z.nodes → place < s.z.places → filled_in s.z (image s t) node place ≡ is_filled (t node place)
  image_filled node place h hp =
      image_mark (place_number s.z node place) (omega (arith, number_low s.z F.ranged node place h hp, count_low s.z F.ranged))
      ∙ ap is_filled (numbered_at s.z F.ranged t node place h hp)

  pub image_byte : (node place e : ℕ) → node < s.z.nodes → place < s.z.places → e < record_length s.z
      → byte_in s.z (image s t) (place_number s.z node place) e ≡ place_record s (t node place) e
  image_byte node place e h hp he =
      image_number (place_number s.z node place) e (number_low s.z F.ranged node place h hp) he
      ∙ ap (λ (x : Place). place_record s x e) (numbered_at s.z F.ranged t node place h hp)

  -- ---- what is stored into the image, and written into the table

  pub image_stored : (v : ℕ → Bool) (node place count : ℕ) (new : ℕ → Place) (bytes : ℕ → ℕ → ℕ) → node < s.z.nodes → place + count ≤ s.z.places
      → ((j : ℕ) → j < count → v j ≡ is_filled (new j))
      → ((j e : ℕ) → j < count → e < record_length s.z → bytes j e ≡ place_record s (new j) e)
      → stored s.z v (place_number s.z node place) count bytes (image s t) ≡ image s (written node place count new t)
  unfolding image
  image_stored v node place count new bytes h hp hv hb =
      let K : ℕ = place_number s.z node place in
      let now = numbered_written s.z F.ranged node place count new t h hp in
      stored_is s.layout s.z s.id F.id_size mark rec v K count bytes (omega (arith, mul-le-mul_right s.z.places h))
      ∙ archive_same s.layout s.z s.id _ _ _ _
      (λ k l. over_same K count v (λ j. is_filled (new j)) mark mark k hv refl
      ∙ sym (ap is_filled (now k) ∙ over_map is_filled K count new (numbered s.z t) k))
      (λ k e l le.
      over_map (λ (f : ℕ → ℕ). f e) K count bytes rec k
      ∙ over_same K count (λ j. bytes j e) (λ j. place_record s (new j) e) (λ j. rec j e) (λ j. rec j e) k (λ j lj. hb j e lj le) refl
      ∙ sym (ap (λ (x : Place). place_record s x e) (now k) ∙ over_map (λ (x : Place). place_record s x e) K count new (numbered s.z t) k))

  -- ---- Repair

  -- source block i with its tags
  abbrev tagged : ℕ → ℕ → ℕ
  tagged i = with_tags (block_length s.z) (vector s) (source s.z s.file s.padding i)

  -- a record is the source blocks with their tags, combined by the row (zeros where empty)
  pub record_mixed : (x : Place) (e : ℕ) → place_record s x e ≡ mixed s.z.m (element x) tagged e
  unfolding coded_record coded
  record_mixed empty e = sym (mixed_zero s.z.m tagged e)
  record_mixed (filled row) e = tags_combine (block_length s.z) s.z.m (at row) (source s.z s.file s.padding) (vector s) e

  module _ (helpers : List ℕ) (q : ℕ) (gammas thetas : List ℕ) (there : (i : ℕ) → i < length helpers → at helpers i < s.z.nodes) where
    repair_same : (k : ℕ) (x y : ℕ → ℕ → ℕ) → ((node l : ℕ) → node < s.z.nodes → l < s.z.places → x node l ≡ y node l)
        → repair_sum s.z helpers q gammas thetas k x ≡ repair_sum s.z helpers q gammas thetas k y
    repair_same k x y h =
        sum_same (length helpers) _ _ (λ i hi. sum_same q _ _ (λ j hj.
        ap (times _) (sum_same s.z.places _ _ (λ l hl.
        ap (times _) (h (at helpers i) l (there i hi) hl)))))

    repair_mixed : (k e : ℕ) (r : ℕ → ℕ → ℕ → ℕ)
        → repair_sum s.z helpers q gammas thetas k (λ node l. mixed s.z.m (r node l) tagged e)
        ≡ mixed s.z.m (λ i. repair_sum s.z helpers q gammas thetas k (λ node l. r node l i)) tagged e
    repair_mixed k e r = simp (mixed_scale, mixed_sum)

    pub image_repaired : (k e : ℕ) → e < record_length s.z
        → target_byte s.z (image s t) helpers q gammas thetas k e ≡ place_record s (filled (repaired_row s.z t helpers q gammas thetas k)) e
    unfolding target_byte repair_byte mixed repaired_row
    image_repaired k e he =
        repair_same k _ _ (λ node l hb hl. image_byte node l e hb hl he ∙ record_mixed (t node l) e)
        ∙ repair_mixed k e (λ node l. element (t node l))
        ∙ mixed_same s.z.m _ _ tagged e (λ i hi. sym (tab_at s.z.m _ i hi))
        ∙ sym (record_mixed (filled (repaired_row s.z t helpers q gammas thetas k)) e)

  -- ---- blocks, tags and rows

  pub record_block : (x : Place) (e : ℕ) → e < block_length s.z → place_record s x e ≡ coded s.z s.file s.padding (element x) e
  unfolding coded_record with_tags coded
  record_block empty e h = sym (mixed_zero s.z.m _ e)
  record_block (filled row) e h = rw (lt-ltb e (block_length s.z) h)

  pub record_tag : (row : List ℕ) (k : ℕ) → place_record s (filled row) (block_length s.z + k)
      ≡ product (block_length s.z) (coded s.z s.file s.padding (at row)) (vector s k)
  unfolding coded_record with_tags
  record_tag row k =
      let q : block_length s.z + k - block_length s.z ≡ k = omega arith in
      rw (le-ltb (block_length s.z + k) (block_length s.z) (omega arith), q)

  pub record_row : (x : Place) → Fine s.z x → (i : ℕ) → i < s.z.m → place_record s x (s.z.n + i) ≡ element x i
  record_row x f i h =
      record_block x (s.z.n + i) (omega arith) ∙ coded_row s.z s.file s.padding (element x) i h (element_lt s.z x f i h)

  pub image_rows : (k i : ℕ) → Fine s.z (numbered s.z t k) → k < place_count s.z → i < s.z.m
      → row_in s.z (image s t) k i ≡ element (numbered s.z t k) i
  image_rows k i f h hi = image_number k (s.z.n + i) h (omega arith) ∙ record_row (numbered s.z t k) f i hi

-- two images have one front
pub image_front : (s : Setting) → Fit s → (t u : Table) (i : ℕ) → i < 12 → at (image s t) i ≡ at (image s u) i
unfolding image
image_front s F t u i h =
    archive_front s.layout s.z s.id F.id_size _ _ i h ∙ sym (archive_front s.layout s.z s.id F.id_size _ _ i h)

-- ---- the image over other vectors that are equal as far as it goes

module _ (s : Setting) (vectors : ℕ → ℕ → ℕ) (same : (k e : ℕ) → k < s.z.tags → e < block_length s.z → vector s k e ≡ vectors k e) where
  abbrev pub record_over : Place → ℕ → ℕ
  record_over empty p = 0
  record_over (filled row) p = coded_record s.z vectors s.file s.padding (at row) p

  record_over_lem : (x : Place) (p : ℕ) → p < record_length s.z → place_record s x p ≡ record_over x p
  unfolding coded_record with_tags
  record_over_lem empty p h = refl
  record_over_lem (filled row) p h =
      ⊎_elim
      (λ (l : p < block_length s.z). rw (lt-ltb p (block_length s.z) l))
      (λ (l : block_length s.z ≤ p).
      rw (le-ltb p (block_length s.z) l)
      (product_keys (block_length s.z) _ _ _ (λ e he. same (p - block_length s.z) e (omega arith) he)))
      (order p (block_length s.z))

  pub image_over : (t : Table)
      → image s t ≡ archive_of s.layout s.z s.id (λ k. is_filled (numbered s.z t k)) (λ k. record_over (numbered s.z t k))
  unfolding image
  image_over t = archive_same s.layout s.z s.id _ _ _ _ (λ k h. refl) (λ k p h hp. record_over_lem (numbered s.z t k) p hp)

-- ---- the image of the empty table is what Open writes

pub opened_is : (s : Setting) → opened s.layout s.z s.id ≡ image s all_empty
unfolding opened image
opened_is s =
    archive_same s.layout s.z s.id _ _ _ _ (λ k h. ap is_filled (sym (numbered_empty s.z k)))
    (λ k p h hp. ap (λ (x : Place). place_record s x p) (sym (numbered_empty s.z k)))
