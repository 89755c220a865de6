-- The parts of a response, written one after another. Assumes nothing.
use Prim.Native.Nat.{ℕ, ◌+◌, ◌-◌, ◌<◌, ◌≤◌}
use mathlib.Core.Path.{◌≡◌, refl, ap, ◌∙◌}
use mathlib.Core.List.{List}
use native.Mathlib.Omega.{arith}
use borrow.Rule.Slice.PartMut.{mid_of, put_mid}
use lib.ListN.{length, set, length-set}
use lib.Seq.{get_or-set_same}
use Rattle.lists.specs.Lists.{at, tab, put}
use Rattle.lists.proofs.PartLaws.{part, length_part}
use Rattle.lists.proofs.SliceLaws.{put_copied, put_whole, put_written}
use Rattle.vector.proofs.SliceLaws.{added_in_part}
use Rattle.lists.proofs.PutLaws.{length_put, put_below, put_at}
use Rattle.field.specs.Field.{plus}
use Rattle.vector.specs.Vectors.{added}
use Rattle.vector.proofs.AddedLaws.{length_added, added_at, added_below}
use Rattle.mask.specs.Masks.{mask_row, mask_coefficient, mask}
use Rattle.sizes.specs.Lengths.{response_length, sum_at, clear_start, tag_at}
use Rattle.message.specs.Response.{response_head, response_bytes}
use Rattle.message.proofs.ResponseLaws.{is_response}

-- first byte, block, mask, seed, mask sums, elements in clear, tags: one store after another, and the length that they keep
module _ (n tags : ℕ) (combined key id seed lent : List ℕ) (head : ℕ) (size : length lent ≡ response_length n tags) where
  abbrev hidden : ℕ → ℕ
  hidden = mask n (mask_coefficient key seed) (mask_row key id)

  abbrev headed : List ℕ
  headed = set lent 0 head

  abbrev filled : List ℕ
  filled = put (n - 2) 1 (λ i. at combined (0 + i)) headed

  headed_length : length headed ≡ response_length n tags
  headed_length = length-set lent 0 head ∙ size

  filled_length : {a : List ℕ} → a ≡ filled → length a ≡ response_length n tags
  filled_length p = ap length p ∙ length_put (n - 2) 1 _ headed ∙ headed_length

  module _ {a b : List ℕ} (p : a ≡ filled) (q : b ≡ added (n - 2) 1 hidden a) where
    masked_length : length b ≡ response_length n tags
    masked_length = ap length q ∙ length_added (n - 2) 1 hidden a ∙ filled_length p

    module _ {d : List ℕ} (r : d ≡ put 11 (n - 1) (at seed) b) where
      seeded_length : length d ≡ response_length n tags
      seeded_length = ap length r ∙ length_put 11 (n - 1) _ b ∙ masked_length

      module _ (total : ℕ → ℕ) {g : List ℕ} (t : g ≡ put tags (n + 10) total d) where
        summed_length : length g ≡ response_length n tags
        summed_length = ap length t ∙ length_put tags (n + 10) total d ∙ seeded_length

        module _ {e : List ℕ} (w : e ≡ put 2 (n + tags + 10) (λ i. at combined (n - 2 + i)) g) where
          cleared_length : length e ≡ response_length n tags
          cleared_length = ap length w ∙ length_put 2 (n + tags + 10) _ g ∙ summed_length

          -- what is read after the last store
          module _ (m : ℕ) (low : 3 ≤ n) {f : List ℕ} (x : f ≡ put tags (n + tags + 12) (λ i. at combined (n + m + i)) e) where
            -- the later stores keep what stands before them
            kept_summed : (k : ℕ) → k < n + tags + 10 → at f k ≡ at g k
            kept_summed k h =
                ap (λ (l : List ℕ). at l k) x ∙ put_below tags (n + tags + 12) _ e k (omega arith) ∙ ap (λ (l : List ℕ). at l k) w
                ∙ put_below 2 (n + tags + 10) _ g k h

            kept_seeded : (k : ℕ) → k < n + 10 → at f k ≡ at d k
            kept_seeded k h = kept_summed k (omega arith) ∙ ap (λ (l : List ℕ). at l k) t ∙ put_below tags (n + 10) total d k (omega arith)

            kept_masked : (k : ℕ) → k < n - 1 → at f k ≡ at b k
            kept_masked k h = kept_seeded k (omega arith) ∙ ap (λ (l : List ℕ). at l k) r ∙ put_below 11 (n - 1) _ b k h

            first : at f 0 ≡ head
            first =
                kept_masked 0 (omega arith) ∙ ap (λ (l : List ℕ). at l 0) q ∙ added_below (n - 2) 1 hidden a 0 (omega arith)
                ∙ ap (λ (l : List ℕ). at l 0) p ∙ put_below (n - 2) 1 _ headed 0 (omega arith) ∙ get_or-set_same lent 0 head 0 (omega arith)

            middle : (i : ℕ) → i < n - 2 → at f (1 + i) ≡ plus (at combined i) (hidden i)
            middle i h =
                let z : 0 + i ≡ i = omega arith in
                kept_masked (1 + i) (omega arith) ∙ ap (λ (l : List ℕ). at l (1 + i)) q ∙ added_at (n - 2) 1 hidden a i h (omega (arith, filled_length p))
                ∙ ap (λ (x : ℕ). plus x (hidden i))
                (ap (λ (l : List ℕ). at l (1 + i)) p ∙ put_at (n - 2) 1 _ headed i h (omega (arith, headed_length)) ∙ ap (at combined) z)

            after : (i : ℕ) → i < 11 → at f (n - 1 + i) ≡ at seed i
            after i h =
                kept_seeded (n - 1 + i) (omega arith) ∙ ap (λ (l : List ℕ). at l (n - 1 + i)) r ∙ put_at 11 (n - 1) _ b i h (omega (arith, masked_length))

            sums : (k : ℕ) → k < tags → at f (sum_at n k) ≡ total k
            sums k h =
                kept_summed (n + 10 + k) (omega arith) ∙ ap (λ (l : List ℕ). at l (n + 10 + k)) t
                ∙ put_at tags (n + 10) total d k h (omega (arith, seeded_length))

            clear : (i : ℕ) → i < 2 → at f (clear_start n tags + i) ≡ at combined (n - 2 + i)
            clear i h =
                let z : n + 10 + tags + i ≡ n + tags + 10 + i = omega arith in
                ap (at f) z ∙ ap (λ (l : List ℕ). at l (n + tags + 10 + i)) x ∙ put_below tags (n + tags + 12) _ e (n + tags + 10 + i) (omega arith)
                ∙ ap (λ (l : List ℕ). at l (n + tags + 10 + i)) w ∙ put_at 2 (n + tags + 10) _ g i h (omega (arith, summed_length))

            tagged : (k : ℕ) → k < tags → at f (tag_at n tags k) ≡ at combined (n + m + k)
            tagged k h =
                let z : n + 12 + tags + k ≡ n + tags + 12 + k = omega arith in
                ap (at f) z ∙ ap (λ (l : List ℕ). at l (n + tags + 12 + k)) x ∙ put_at tags (n + tags + 12) _ e k h (omega (arith, cleared_length))

            tagged_length : length f ≡ response_length n tags
            tagged_length = ap length x ∙ length_put tags (n + tags + 12) _ e ∙ cleared_length

            response_written : (node : ℕ) → length seed ≡ 11 → head ≡ at (response_head node) 0
                → f ≡ response_bytes n tags node (at combined) (λ k. at combined (n + m + k)) hidden seed total
            response_written node sized y =
                is_response n tags node (at combined) (λ k. at combined (n + m + k)) hidden seed total low sized f tagged_length (first ∙ y) middle after
                sums clear tagged

-- the parts of a response, each as the call on it left it: the combined elements, the mask, the seed, the mask sums, the elements in clear
-- and the tags
module _ (n m tags : ℕ) (combined key id seed lent : List ℕ) (head : ℕ) (size : length lent ≡ response_length n tags) (low : 3 ≤ n)
    (sized : length seed ≡ 11) (room : n + m + tags ≤ length combined) (total : ℕ → ℕ) (elements hiding between sums clear tagged : List ℕ) where
  abbrev from_head : List ℕ
  from_head = put_mid 1 (n - 1 - 1) (set lent 0 head) elements

  abbrev from_mask : List ℕ
  from_mask = put_mid 1 (n - 1 - 1) from_head hiding

  abbrev from_seed : List ℕ
  from_seed = put_mid (n - 1) (n + 10 - (n - 1)) from_mask between

  abbrev from_sums : List ℕ
  from_sums = put_mid (n + 10) (n + tags + 10 - (n + 10)) from_seed sums

  abbrev from_clear : List ℕ
  from_clear = put_mid (n + tags + 10) (n + tags + 12 - (n + tags + 10)) from_sums clear

  pub parts_written : (node : ℕ) → head ≡ at (response_head node) 0 → elements ≡ mid_of 0 (n - 2) combined
      → hiding ≡ added (n - 2) 0 (hidden n tags combined key id seed lent head size) (mid_of 1 (n - 1 - 1) from_head) → between ≡ seed
      → sums ≡ tab (length (mid_of (n + 10) (n + tags + 10 - (n + 10)) from_seed)) total
      → clear ≡ mid_of (n - 2) (n - (n - 2)) combined → tagged ≡ mid_of (n + m) (n + m + tags - (n + m)) combined
      → put_mid (n + tags + 12) (length from_clear - (n + tags + 12)) from_clear tagged
      ≡ response_bytes n tags node (at combined) (λ k. at combined (n + m + k)) (hidden n tags combined key id seed lent head size) seed total
  parts_written node begins p q r t w x =
      let h = headed_length n tags combined key id seed lent head size in
      let one = put_copied (n - 2) 1 0 combined (set lent 0 head) {k = n - 1 - 1} (omega arith) refl (omega (arith, h)) (omega arith) p in
      let long = filled_length n tags combined key id seed lent head size one in
      let part_long : length (part 1 (n - 1) from_head) ≡ n - 2 = length_part 1 (n - 1) from_head (omega (arith, long)) ∙ omega arith in
      let two = added_in_part 1 (n - 1) (n - 2) from_head (omega arith) (omega (arith, long)) (hidden n tags combined key id seed lent head size) hiding (rw part_long q) in
      let masked = masked_length n tags combined key id seed lent head size one two in
      let three = put_whole 11 (n - 1) seed from_mask {k = n + 10 - (n - 1)} (omega arith) (omega (arith, masked)) sized r in
      let seeded = seeded_length n tags combined key id seed lent head size one two three in
      let sums_long : length (part (n + 10) (n + tags + 10) from_seed) ≡ tags = length_part (n + 10) (n + tags + 10) from_seed (omega (arith, seeded)) ∙ omega arith in
      let four = put_written tags (n + 10) total from_seed {k = n + tags + 10 - (n + 10)} (omega arith) (omega (arith, seeded)) (rw sums_long at t) in
      let summed = summed_length n tags combined key id seed lent head size one two three total four in
      let five = put_copied 2 (n + tags + 10) (n - 2) combined from_sums {k = n + tags + 12 - (n + tags + 10)} (omega arith) (omega arith) (omega (arith, summed)) (omega arith) w in
      let cleared = cleared_length n tags combined key id seed lent head size one two three total four five in
      let six = put_copied tags (n + tags + 12) (n + m) combined from_clear {k = length from_clear - (n + tags + 12)} (omega (arith, cleared)) (omega arith) (omega (arith, cleared)) (omega arith) x in
      response_written n tags combined key id seed lent head size one two three total four five m low six node sized begins
