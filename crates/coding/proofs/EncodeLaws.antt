-- What Encode's answer tells, and what it writes: the block, its tags, and the mark. Assumes nothing.
use Prim.Native.Nat.{ℕ, ◌+◌, ◌-◌, ◌*◌, ◌<◌, ◌≤◌}
use mathlib.Core.Path.{◌≡◌, refl, sym, ap, ap₂, ◌∙◌}
use mathlib.Core.Bool.{true, false}
use mathlib.Core.List.{List, [], ◌∷◌, ◌++◌}
use native.Mathlib.Omega.{arith}
use lib.Dec.{leb}
use lib.ListN.{length, take}
use lib.Seq.{length-take-le}
use borrow.Author.Tests.{lt-ltb, le-ltb, leb-false}
use borrow.Rule.Slice.PartMut.{mid_of, put_mid}
use Rattle.std.proofs.lemmas.List.{get_or-take}
use Rattle.lists.specs.Lists.{at, tab, put, grid, over, any_of}
use Rattle.lists.proofs.TabLaws.{length_tab, tab_at, is_tab, elements}
use Rattle.lists.proofs.PutLaws.{length_put, put_at, put_below, put_above, is_put}
use Rattle.lists.proofs.AnyLaws.{none_at}
use Rattle.lists.proofs.SliceLaws.{length_part, part_at, put_written}
use Rattle.answer.specs.Refusals.{Passed}
use Rattle.answer.proofs.RefusalLaws.{accepted, same}
use Rattle.field.proofs.SumLaws.{sum_same}
use Rattle.keystream.specs.declared.stream.Stream.{Stream}
use Rattle.keystream.specs.PrivateStream.{drawn, after}
use Rattle.sizes.specs.declared.Sizes.{Sizes}
use Rattle.vector.specs.Vectors.{product, mixed}
use Rattle.tag.specs.KeyVector.{key_vector, with_tags}
use Rattle.sizes.proofs.SizeLaws.{Ranged}
use Rattle.tag.specs.PrivateKeyStream.{GivesKeyVector}
use Rattle.vector.proofs.VectorLaws.{product_same, product_keys}
use Rattle.sizes.specs.Lengths.{block_length, record_length, record_start, place_count, place_number, file_length, padding_length}
use Rattle.archive.specs.Layout.{sizes_of, id_of, mark_at, with_marks, stored}
use Rattle.archive.specs.Blocks.{source, coded, coded_record}
use Rattle.archive.specs.Calls.{encode, answer_for, archive_answer, effect_for}
use Rattle.sizes.proofs.PlaceLaws.{number_low, count_low, record_fits}
use Rattle.archive.proofs.GoodArchiveLaws.{good_sizes, good_length, good_id}
use Rattle.archive.proofs.StoreLaws.{length_marks}
use Rattle.archive.proofs.BlockLaws.{source_file, coded_row}
use Rattle.coding.proofs.CombinedLaws.{joined}

-- ---- the answer

module _ (z : Sizes) (R : Ranged z) where
  pub place_in_lem : (node place : ℕ) → any_of (leb z.nodes node ∷ leb z.places place ∷ []) ≡ false → place_number z node place < place_count z
  place_in_lem node place e = number_low z R node place (leb-false _ _ (none_at _ 0 e)) (leb-false _ _ (none_at _ 1 e))

-- what is known where nothing is refused
pub record Encodable (z : Sizes) (s : List ℕ) (node place : ℕ) (file padding key row : List ℕ) : Type 0 where
  pub sizes : Ranged z
  pub number : place_number z node place < 48
  pub fits : record_start z (place_number z node place) + record_length z ≤ length s
  pub id_length_lem : length (id_of s) ≡ 8
  pub file_length_lem : length file ≡ file_length z
  pub padding_length_lem : length padding ≡ padding_length z
  pub key_length_lem : length key ≡ 32
  pub row_length : length row ≡ z.m

module _ (s : List ℕ) (node place : ℕ) (file padding key row : List ℕ) where
  accepted_encode : Passed (archive_answer s (encode node place file padding key row)) → Encodable (sizes_of s) s node place file padding key row
  unfolding archive_answer answer_for
  accepted_encode ok =
      let z : Sizes = sizes_of s in
      let a = accepted _ _ _ ok in
      let l = accepted _ _ _ a.1 in
      let R : Ranged z = good_sizes s a.0 in
      let low : place_number z node place < place_count z = place_in_lem z R node place (accepted _ _ _ l.1).0 in
      record {
        sizes = R;
        number = omega (arith, count_low z R);
        fits = omega (arith, record_fits z _ low, good_length s a.0);
        id_length_lem = good_id s a.0;
        file_length_lem = same _ _ (none_at _ 0 l.0);
        padding_length_lem = same _ _ (none_at _ 1 l.0);
        key_length_lem = same _ _ (none_at _ 2 l.0);
        row_length = same _ _ (none_at _ 3 l.0);
      }

  -- for the sizes as they were read
  pub encodable : {z : Sizes} → z ≡ sizes_of s → Passed (archive_answer s (encode node place file padding key row)) → Encodable z s node place file padding key row
  encodable read ok = rw read (accepted_encode ok)

-- ---- the block

module _ (z : Sizes) (file padding row : List ℕ) where
  source_padding : (i e : ℕ) → 2 ≤ z.n → e < 2 → source z file padding i (z.n - 2 + e) ≡ at padding (i * 2 + e)
  unfolding source
  source_padding i e l h =
      let q : z.n - 2 + e - (z.n - 2) ≡ e = omega arith in
      rw (le-ltb (z.n - 2 + e) (z.n - 2) (omega arith), lt-ltb (z.n - 2 + e) z.n (omega arith), q)

  -- the combinations, as the code finds their coefficients and vectors
  abbrev file_mixed : ℕ → ℕ
  file_mixed = mixed z.m (λ i. at row (i * 1)) (λ i e. at file (i * (z.n - 2) + e))

  abbrev padding_mixed : ℕ → ℕ
  padding_mixed = mixed z.m (λ i. at row (i * 1)) (λ i e. at padding (i * 2 + e))

  file_coded : (e : ℕ) → e < z.n - 2 → file_mixed e ≡ coded z file padding (at row) e
  unfolding coded mixed
  file_coded e h =
      sum_same z.m _ _ (λ i g.
      let p : i * 1 ≡ i = omega arith in
      rw (p, source_file z file padding i e h))

  padding_coded : (e : ℕ) → 2 ≤ z.n → e < 2 → padding_mixed e ≡ coded z file padding (at row) (z.n - 2 + e)
  unfolding coded mixed
  padding_coded e l h =
      sum_same z.m _ _ (λ i g.
      let p : i * 1 ≡ i = omega arith in
      rw (p, source_padding i e l h))

  -- the file's combination, the padding's and the row
  pub block_written : {front end last : List ℕ} → 2 ≤ z.n → length row ≡ z.m → ((i : ℕ) → i < z.m → at row i < 256) → front ≡ tab (z.n - 2) file_mixed
      → end ≡ tab 2 padding_mixed → last ≡ row → front ++ (end ++ last) ≡ tab (block_length z) (coded z file padding (at row))
  block_written {front} {end} {last} low long bytes files pads rows =
      let of : ℕ → ℕ = coded z file padding (at row) in
      let size : z.n - 2 + (2 + z.m) ≡ block_length z = omega arith in
      let behind : end ++ last ≡ tab (2 + z.m) (λ i. of (z.n - 2 + i)) =
      ap₂ (λ (x y : List ℕ). x ++ y) pads (rows ∙ sym (elements z.m row long))
      ∙ joined 2 z.m padding_mixed (at row) (λ i. of (z.n - 2 + i)) (λ e h. padding_coded e low h)
      (λ i h. let q : z.n - 2 + (2 + i) ≡ z.n + i = omega arith in sym (coded_row z file padding (at row) i h (bytes i h)) ∙ ap of (sym q)) in
      ap₂ (λ (x y : List ℕ). x ++ y) files behind
      ∙ joined (z.n - 2) (2 + z.m) file_mixed (λ i. of (z.n - 2 + i)) of file_coded (λ i h. refl)
      ∙ ap (λ (n : ℕ). tab n of) size

-- ---- the record

with_tags_block : (len : ℕ) (vectors : ℕ → ℕ → ℕ) (block : ℕ → ℕ) (e : ℕ) → e < len → with_tags len vectors block e ≡ block e
unfolding with_tags
with_tags_block len vectors block e h = rw (lt-ltb e len h)

with_tags_tag : (len : ℕ) (vectors : ℕ → ℕ → ℕ) (block : ℕ → ℕ) (k : ℕ) → with_tags len vectors block (len + k) ≡ product len block (vectors k)
unfolding with_tags
with_tags_tag len vectors block k =
    let q : len + k - len ≡ k = omega arith in
    rw (le-ltb (len + k) len (omega arith), q)

-- a block's product with the stream that gives its key vector
pub tag_drawn : (k : ℕ) (key id block : List ℕ) (v : Stream) {tag : ℕ} → GivesKeyVector key id k v
    → tag ≡ product (length block) (at block) (λ e. (drawn (after e v)).byte) → tag ≡ product (length block) (at block) (key_vector key id k)
tag_drawn k key id block v gives tags = tags ∙ product_keys (length block) _ _ (key_vector key id k) (λ e h. gives e)

-- a block, and behind it its products with the key vectors
pub record_written : (z : Sizes) (file padding row key id : List ℕ) {w r : List ℕ} {tags : ℕ} → tags ≡ z.tags → w ≡ tab (block_length z) (coded z file padding (at row))
    → r ≡ tab tags (λ k. product (length w) (at w) (key_vector key id k)) → w ++ r ≡ tab (record_length z) (coded_record z (key_vector key id) file padding (at row))
unfolding coded_record
record_written z file padding row key id {w} {r} count blocks made =
    let len : ℕ = block_length z in
    let block : ℕ → ℕ = coded z file padding (at row) in
    let size : length w ≡ len = ap length blocks ∙ length_tab len block in
    let tag : ℕ → ℕ = λ k. product len (at w) (key_vector key id k) in
    let made-is : r ≡ tab z.tags tag = rw (size, count) at made in
    ap₂ (λ (x y : List ℕ). x ++ y) blocks made-is
    ∙ joined len z.tags block tag (with_tags len (key_vector key id) block) (λ e h. sym (with_tags_block len (key_vector key id) block e h))
    (λ k h.
    product_same len (at w) block (key_vector key id k) (λ e l. ap (λ (x : List ℕ). at x e) blocks ∙ tab_at len block e l)
    ∙ sym (with_tags_tag len (key_vector key id) block k))

-- a block, and its tags behind it
abbrev pub tagged : (z : Sizes) (key id block : List ℕ) → List ℕ
tagged z key id block = block ++ tab z.tags (λ k. product (length block) (at block) (key_vector key id k))

-- ---- the archive

-- a part of a record's length, wherever it stands
pub record_part : (from k len : ℕ) (s : List ℕ) → from + k ≤ length s → k ≡ len → length (mid_of from (from + k - from) s) ≡ len
record_part from k len s h e = length_part from (from + k - from) s (omega arith) ∙ omega (arith, e)

-- the front of a part, after n values were put there
front_part : (n len start : ℕ) (f : ℕ → ℕ) (u : List ℕ) → n ≤ len → start + len ≤ length u → take n (mid_of start len (put n start f u)) ≡ tab n f
front_part n len start f u h fits =
    let long : start + len ≤ length (put n start f u) = omega (arith, fits, length_put n start f u) in
    let size : length (mid_of start len (put n start f u)) ≡ len = length_part start len _ long in
    is_tab n f _ (length-take-le n _ (omega (arith, size)))
    (λ i l. get_or-take n _ i 0 l ∙ part_at start len _ i (omega arith) ∙ put_at n start f u i l (omega arith))

-- fewer values that were put there before are gone
put_over : (n m start : ℕ) (f g : ℕ → ℕ) (d : List ℕ) → m ≤ n → start + n ≤ length d → put n start f (put m start g d) ≡ put n start f d
put_over n m start f g d h fits =
    is_put n start f d (put n start f (put m start g d)) (length_put n start f _ ∙ length_put m start g d) fits
    (λ i l. put_at n start f _ i l (omega (arith, length_put m start g d)))
    (λ k l. put_below n start f _ k l ∙ put_below m start g d k l)
    (λ k l. put_above n start f _ k l ∙ put_above m start g d k (omega arith))

-- marks, then the record
encode_effect : (z : Sizes) (s : List ℕ) (node place : ℕ) (file padding key row : List ℕ)
    → put (record_length z) (record_start z (place_number z node place)) (coded_record z (key_vector key (id_of s)) file padding (at row))
    (with_marks (over (place_number z node place) 1 (λ i. true) (mark_at s)) s)
    ≡ effect_for z (id_of s) s (encode node place file padding key row)
unfolding effect_for stored grid
encode_effect z s node place file padding key row =
    let first : record_start z (place_number z node place) + 0 * record_length z ≡ record_start z (place_number z node place) = omega arith in
    rw first

module _ (z : Sizes) (s : List ℕ) (node place : ℕ) (file padding key row : List ℕ) {start len : ℕ} (ok : Encodable z s node place file padding key row)
    (starts : start ≡ record_start z (place_number z node place)) (lens : len ≡ record_length z) where
  -- the place's record is in the archive
  pub part_fits : start + len ≤ length s
  part_fits = omega (arith, ok.fits)

  -- the sizes read, the marks set, the record written to its part
  pub place_filled : {i u w : List ℕ} {k : ℕ} → z ≡ sizes_of s → i ≡ id_of s → u ≡ with_marks (over (place_number z node place) 1 (λ i. true) (mark_at s)) s → k ≡ len
      → w ≡ tab (record_length z) (coded_record z (key_vector key i) file padding (at row))
      → put_mid start k u w ≡ effect_for (sizes_of s) (id_of s) s (encode node place file padding key row)
  place_filled {u = u} {w = w} read ids marks size record-is =
      let made : w ≡ tab (record_length z) (coded_record z (key_vector key (id_of s)) file padding (at row)) = rw ids at record-is in
      put_written (record_length z) start _ u (size ∙ lens) (omega (arith, part_fits, ap length marks ∙ length_marks _ s)) made
      ∙ ap₂ (λ (from : ℕ) (d : List ℕ). put (record_length z) from (coded_record z (key_vector key (id_of s)) file padding (at row)) d) starts marks
      ∙ encode_effect z s node place file padding key row
      ∙ ap (λ (x : Sizes). effect_for x (id_of s) s (encode node place file padding key row)) read

  -- the steps of the code: the same, where the block was written there before ..
  module _ {u b : List ℕ} {j k : ℕ} (marks : u ≡ with_marks (over (place_number z node place) 1 (λ i. true) (mark_at s)) s) (wide : j ≡ block_length z)
      (size : k ≡ len) (blocks : b ≡ tab (block_length z) (coded z file padding (at row))) where
    abbrev of : ℕ → ℕ
    of = coded z file padding (at row)

    fits : start + record_length z ≤ length u
    fits = omega (arith, part_fits, lens, ap length marks ∙ length_marks _ s)

    put_is : put_mid start j u b ≡ put (block_length z) start of u
    put_is = put_written (block_length z) start of u wide (omega (arith, fits)) blocks

    fits_still : start + record_length z ≤ length (put_mid start j u b)
    fits_still = omega (arith, fits, ap length put_is ∙ length_put (block_length z) start of u)

    front : take (block_length z) (mid_of start k (put_mid start j u b)) ≡ tab (block_length z) of
    front = rw put_is (front_part (block_length z) k start of u (omega (arith, size, lens)) (omega (arith, fits, size, lens)))

    -- .. and the tags behind it
    pub place_filled_in_parts : {i w : List ℕ} → z ≡ sizes_of s → i ≡ id_of s → w ≡ tagged z key i (take (block_length z) (mid_of start k (put_mid start j u b)))
        → put_mid start k (put_mid start j u b) w ≡ effect_for (sizes_of s) (id_of s) s (encode node place file padding key row)
    place_filled_in_parts {i} {w} read ids tags-are =
        let whole : ℕ → ℕ = coded_record z (key_vector key i) file padding (at row) in
        let made : w ≡ tab (record_length z) whole = tags-are ∙ record_written z file padding row key i refl front refl in
        put_written (record_length z) start whole _ (size ∙ lens) fits_still made
        ∙ ap (put (record_length z) start whole) put_is
        ∙ put_over (record_length z) (block_length z) start whole of u (omega arith) fits
        ∙ sym (put_written (record_length z) start whole u (size ∙ lens) fits made)
        ∙ place_filled read ids marks size made
