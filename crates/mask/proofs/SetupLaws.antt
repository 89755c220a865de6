-- What Setup's answer tells, what is written then, and the mask as its coefficients are drawn. Assumes nothing.
use Prim.Native.Nat.{ℕ, ◌+◌, ◌-◌, ◌*◌, ◌<◌, ◌≤◌}
use mathlib.Core.Path.{◌≡◌, sym, ◌∙◌, ap}
use mathlib.Core.List.{List, ◌∷◌}
use native.Mathlib.Omega.{arith}
use lib.ListN.{length}
use borrow.Rule.Slice.PartMut.{put_mid}
use Rattle.lists.specs.Lists.{at, tab, grid}
use Rattle.lists.proofs.PutLaws.{length_put, put_front, length_grid, grid_at, grid_more, flat_same}
use Rattle.lists.proofs.SliceLaws.{put_written}
use Rattle.lists.proofs.AnyLaws.{none_at}
use Rattle.answer.specs.Answer.{Outcome, done}
use Rattle.answer.proofs.RefusalLaws.{accepted, same}
use Rattle.field.proofs.SumLaws.{sum_same}
use Rattle.field.proofs.TimesLaws.{times_comm}
use Rattle.sizes.specs.Lengths.{n_least, n_most, tags_most, vectors_most, key_length, id_length, auxiliary_length}
use Rattle.sizes.proofs.SizeLaws.{n_range, tags_range}
use Rattle.keystream.specs.PrivateStream.{fresh, drawn, after}
use Rattle.keystream.specs.declared.stream.Stream.{Stream}
use Rattle.keystream.proofs.DrawLaws.{draws_in_order}
use Rattle.tag.specs.KeyVector.{key_vector}
use Rattle.vector.specs.Vectors.{product, added}
use Rattle.vector.proofs.VectorLaws.{mixed_same, product_keys}
use Rattle.vector.proofs.AddedLaws.{added_same}
use Rattle.mask.specs.Masks.{F3, mask_row, mask_coefficient, auxiliary, mask, mask_sum}
use Rattle.mask.specs.Setup.{setup_answer}

-- ---- Setup

module _ (tag_key mask_key id : List ℕ) (n tags : ℕ) (out : List ℕ) {o : Outcome} (answer : o ≡ setup_answer tag_key mask_key id n tags out) where
  pub setup_sizes : o ≡ done
      → (n_least ≤ n) × (n ≤ n_most) × (tags ≤ tags_most) × (length tag_key ≡ key_length) × (length mask_key ≡ key_length) × (length id ≡ id_length)
      × (length out ≡ auxiliary_length n tags)
  unfolding setup_answer
  setup_sizes e =
      let a = accepted _ _ _ (sym answer ∙ e) in
      let r = n_range n (none_at _ 0 a.0) in
      let t = (accepted _ _ _ a.1).0 in
      (r.0, r.1, (tags_range tags (none_at _ 1 a.0)).1, same _ _ (none_at _ 0 t), same _ _ (none_at _ 1 t), same _ _ (none_at _ 2 t), same _ _ (none_at _ 3 t))

-- key vectors one after another: one more, and their elements
module _ (tag_key id d : List ℕ) where
  pub vectors_more : (s : ℕ) (before : List ℕ) {vector vectors : List ℕ} {place n : ℕ} → length before ≡ n_most → length d ≡ vectors_most → s < tags_most
      → vector ≡ tab (length before) (key_vector tag_key id s) → vectors ≡ grid s n_most 0 (key_vector tag_key id) d
      → place ≡ 0 + s * n_most → n ≡ n_most → put_mid place n vectors vector ≡ grid (s + 1) n_most 0 (key_vector tag_key id) d
  vectors_more s before {vector} {vectors} {place} {n} l ld h f g p e =
      let long : length vectors ≡ length d = ap length g ∙ length_grid s n_most 0 (key_vector tag_key id) d in
      put_written n_most place (key_vector tag_key id s) vectors e (omega arith) (f ∙ ap (λ (m : ℕ). tab m (key_vector tag_key id s)) l)
      ∙ grid_more s n_most 0 (key_vector tag_key id) d g p

  pub vectors_at : (tags count : ℕ) {vectors : List ℕ} → length d ≡ vectors_most → tags ≤ count → count ≤ tags_most
      → vectors ≡ grid count n_most 0 (key_vector tag_key id) d
      → (s e : ℕ) → s < tags → e < n_most → at vectors (s * n_most + e) ≡ key_vector tag_key id s e
  vectors_at tags count l all high g s e h he =
      ap (λ (x : List ℕ). at x (s * n_most + e)) g ∙ ap (at (grid count n_most 0 (key_vector tag_key id) d)) {x = s * n_most + e} {y = 0 + s * n_most + e} (omega arith)
      ∙ grid_at count n_most 0 (key_vector tag_key id) d s e (omega arith) he (omega arith)

-- auxiliary elements over equal key elements
auxiliary_same : (n tags : ℕ) (v v' rows : ℕ → ℕ → ℕ) → ((s e : ℕ) → s < tags → e < n - 2 → v s e ≡ v' s e)
    → auxiliary n tags v rows ≡ auxiliary n tags v' rows
unfolding auxiliary
auxiliary_same n tags v v' rows h = flat_same tags (n - 1) _ _ (λ s i l li. product_keys (n - 2) (rows i) (v s) (v' s) (λ e le. h s e l le))

-- the elements over a buffer that holds the key vectors
pub auxiliary_of : (n tags : ℕ) (tag_key mask_key id vectors : List ℕ) {out : List ℕ}
    → ((s e : ℕ) → s < tags → e < n_most → at vectors (s * n_most + e) ≡ key_vector tag_key id s e) → n ≤ n_most
    → out ≡ auxiliary n tags (λ s e. at vectors (s * n_most + e)) (mask_row mask_key id)
    → out ≡ auxiliary n tags (key_vector tag_key id) (mask_row mask_key id)
auxiliary_of n tags tag_key mask_key id vectors f high e =
    e ∙ auxiliary_same n tags (λ s e. at vectors (s * n_most + e)) (key_vector tag_key id) (mask_row mask_key id) (λ s e l le. f s e l (omega arith))

-- ---- the mask

-- element i of F3's stream
coefficient_drawn : (key seed : List ℕ) (i : ℕ) {nonce : List ℕ} {s : Stream} → nonce ≡ 3 ∷ seed → s ≡ fresh key nonce → (drawn (after i s)).byte ≡ mask_coefficient key seed i
unfolding mask_coefficient F3
coefficient_drawn key seed i p q =
    let z : i + 1 - 1 ≡ i = omega arith in
    rw (q, p, z) (draws_in_order key (3 ∷ seed) i)

-- the coefficients drawn from F3's stream
pub mask_drawn : (n from : ℕ) (key seed d : List ℕ) (rows : ℕ → ℕ → ℕ) {nonce w : List ℕ} {s : Stream} → nonce ≡ 3 ∷ seed → s ≡ fresh key nonce
    → w ≡ added (n - 2) from (mask n (λ i. (drawn (after i s)).byte) rows) d → w ≡ added (n - 2) from (mask n (mask_coefficient key seed) rows) d
unfolding mask
mask_drawn n from key seed d rows p q r =
    r ∙ added_same (n - 2) from _ _ d (λ e l. mixed_same (n - 1) _ _ rows e (λ i h. coefficient_drawn key seed i p q))

-- the auxiliary elements of tag k times the coefficients drawn
pub sum_drawn : (n k : ℕ) (key seed elements : List ℕ) {nonce : List ℕ} {s : Stream} {r : ℕ} → nonce ≡ 3 ∷ seed → s ≡ fresh key nonce
    → r ≡ product (n - 1) (λ e. at elements (k * (n - 1) + e)) (λ e. (drawn (after e s)).byte) → r ≡ mask_sum n (mask_coefficient key seed) elements k
unfolding mask_sum product
sum_drawn n k key seed elements p q r =
    r ∙ sum_same (n - 1) _ _ (λ i l.
    rw (coefficient_drawn key seed i p q) (times_comm (at elements (k * (n - 1) + i)) (mask_coefficient key seed i)))
