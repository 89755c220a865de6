-- A response is read back as it was written. Assumes nothing.
use Prim.Native.Nat.{ℕ, ◌+◌, ◌-◌, ◌*◌, ◌<◌, ◌≤◌}
use mathlib.Core.Path.{◌≡◌, refl, sym, ap, ◌∙◌}
use mathlib.Core.List.{List, [], ◌∷◌, ◌++◌, append_assoc}
use mathlib.Core.Logic.{⊎_elim}
use native.Mathlib.Omega.{arith}
use lib.Bits.{xor_zero_r}
use lib.Dec.{T, ltb, eqb, eqb→eq}
use lib.ListN.{length, take, drop, length-append, get_or-append}
use lib.Seq.{take_at, drop_at, ext_get_or}
use borrow.Author.Tests.{lt-ltb, le-ltb}
use Rattle.lists.specs.Lists.{pick, at, tab}
use Rattle.lists.proofs.TabLaws.{order, length_tab, tab_at, tab_same}
use Rattle.lists.proofs.PutLaws.{skip}
use Rattle.lists.proofs.AllLaws.{all, all_at}
use Rattle.field.specs.Field.{plus}
use Rattle.bits.specs.Fields.{◌wide◌, bit_of, bits_of, widths, number, packed, pack, field_at}
use Rattle.bits.proofs.PackLaws.{pack_length}
use Rattle.bits.proofs.AppendLaws.{field_front}
use Rattle.sizes.specs.Lengths.{response_length, sum_at, clear_start, tag_at}
use Rattle.message.specs.Response.{response_head, response_bytes, masked_in, data_in, seed_in, sum_in, tag_in}

pub head_length : (node : ℕ) → length (response_head node) ≡ 1
unfolding widths
head_length node = pack_length ((4 wide 2) ∷ (3 wide node) ∷ (1 wide 0) ∷ [])

-- the first byte as a number
heads : T (all 8 (λ node. eqb (at (response_head node) 0) (32 + 2 * node)))
unfolding pack packed bits_of bit_of widths number tab all
heads = tt

pub head_is : (node : ℕ) → node < 8 → at (response_head node) 0 ≡ 32 + 2 * node
head_is node h = eqb→eq _ _ (all_at 8 _ heads node h)

module _ (n tags node : ℕ) (block tag hidden : ℕ → ℕ) (seed : List ℕ) (total : ℕ → ℕ) (low : 3 ≤ n) (es : length seed ≡ 11) where
  abbrev r : List ℕ
  r = response_bytes n tags node block tag hidden seed total

  abbrev masked : List ℕ
  masked = tab (n - 2) (λ e. plus (block e) (hidden e))

  abbrev clear : List ℕ
  clear = block (n - 2) ∷ block (n - 1) ∷ []

  -- what stands behind the seed
  abbrev back : List ℕ
  back = tab tags total ++ (clear ++ tab tags tag)

  pub response_length_lem : length r ≡ response_length n tags
  unfolding response_bytes
  response_length_lem = simp (length-append, length_tab, head_length, es) (omega arith)

  pub response_first : at r 0 ≡ at (response_head node) 0
  unfolding response_bytes
  response_first = get_or-append (response_head node) (masked ++ (seed ++ back)) 0 0 (omega (arith, head_length node))

  -- the fields of the first byte
  pub response_fields : (from w : ℕ) → from + w ≤ 8 → field_at r from w ≡ field_at (response_head node) from w
  unfolding response_bytes
  response_fields from w h = field_front (response_head node) (masked ++ (seed ++ back)) from w (omega (arith, head_length node))

  pub response_masked : (i : ℕ) → i < n - 2 → masked_in r i ≡ plus (block i) (hidden i)
  unfolding response_bytes
  response_masked i h =
      skip (response_head node) (masked ++ (seed ++ back)) 1 i (head_length node)
      ∙ get_or-append masked (seed ++ back) 0 i (rw length_tab h) ∙ tab_at (n - 2) _ i h

  response_seed_at : (i : ℕ) → i < 11 → at r (n - 1 + i) ≡ at seed i
  unfolding response_bytes
  response_seed_at i h =
      ap (at r) {x = n - 1 + i} {y = 1 + ((n - 2) + i)} (omega arith)
      ∙ skip (response_head node) (masked ++ (seed ++ back)) 1 ((n - 2) + i) (head_length node)
      ∙ skip masked (seed ++ back) (n - 2) i (length_tab (n - 2) _) ∙ get_or-append seed back 0 i (omega arith)

  response_back : (i : ℕ) → at r (n + 10 + i) ≡ at back i
  unfolding response_bytes
  response_back i =
      ap (at r) {x = n + 10 + i} {y = 1 + ((n - 2) + (11 + i))} (omega arith)
      ∙ skip (response_head node) (masked ++ (seed ++ back)) 1 ((n - 2) + (11 + i)) (head_length node)
      ∙ skip masked (seed ++ back) (n - 2) (11 + i) (length_tab (n - 2) _) ∙ skip seed back 11 i es

  pub response_sum : (s : ℕ) → s < tags → sum_in n r s ≡ total s
  response_sum s l =
      response_back s ∙ get_or-append (tab tags total) (clear ++ tab tags tag) 0 s (rw length_tab l) ∙ tab_at tags total s l

  response_clear : (i : ℕ) → i < 2 → at r (clear_start n tags + i) ≡ block (n - 2 + i)
  response_clear i l =
      ap (at r) {x = n + 10 + tags + i} {y = n + 10 + (tags + i)} (omega arith) ∙ response_back (tags + i)
      ∙ skip (tab tags total) (clear ++ tab tags tag) tags i (length_tab tags total) ∙ get_or-append clear (tab tags tag) 0 i l
      ∙ ⊎_elim
      (λ (a : i < 1). let q : i ≡ 0 = omega arith in let w : n - 2 ≡ n - 2 + 0 = omega arith in rw q (ap block w))
      (λ (a : 1 ≤ i). let q : i ≡ 1 = omega arith in let w : n - 1 ≡ n - 2 + 1 = omega arith in rw q (ap block w))
      (order i 1)

  pub response_tag : (s : ℕ) → s < tags → tag_in n tags r s ≡ tag s
  response_tag s l =
      ap (at r) {x = n + 12 + tags + s} {y = n + 10 + (tags + (2 + s))} (omega arith) ∙ response_back (tags + (2 + s))
      ∙ skip (tab tags total) (clear ++ tab tags tag) tags (2 + s) (length_tab tags total) ∙ skip clear (tab tags tag) 2 s refl
      ∙ tab_at tags tag s l

  -- bytes that are these, part by part, are the response
  pub is_response : (s : List ℕ) → length s ≡ response_length n tags → at s 0 ≡ at (response_head node) 0
      → ((e : ℕ) → e < n - 2 → at s (1 + e) ≡ plus (block e) (hidden e)) → ((i : ℕ) → i < 11 → at s (n - 1 + i) ≡ at seed i)
      → ((k : ℕ) → k < tags → at s (sum_at n k) ≡ total k) → ((i : ℕ) → i < 2 → at s (clear_start n tags + i) ≡ block (n - 2 + i))
      → ((k : ℕ) → k < tags → at s (tag_at n tags k) ≡ tag k) → s ≡ r
  is_response s l first middle seeded sums cleared tagged =
      ext_get_or 0 s r (l ∙ sym response_length_lem) (λ (k : ℕ) h.
      ⊎_elim
      (λ (a : k < 1). let q : k ≡ 0 = omega arith in rw q (first ∙ sym response_first))
      (λ (a : 1 ≤ k).
      ⊎_elim
      (λ (b : k < n - 1). let q : k ≡ 1 + (k - 1) = omega arith in rw q (middle (k - 1) (omega arith) ∙ sym (response_masked (k - 1) (omega arith))))
      (λ (b : n - 1 ≤ k).
      ⊎_elim
      (λ (d : k < n + 10).
      let i : ℕ = k - (n - 1) in
      let q : k ≡ n - 1 + i = omega arith in
      rw q (seeded i (omega arith) ∙ sym (response_seed_at i (omega arith))))
      (λ (d : n + 10 ≤ k). behind k (omega arith) d)
      (order k (n + 10)))
      (order k (n - 1)))
      (order k 1))
    where
      behind : (k : ℕ) → k < response_length n tags → n + 10 ≤ k → at s k ≡ at r k
      behind k h d =
          ⊎_elim
          (λ (a : k < n + 10 + tags).
          let i : ℕ = k - (n + 10) in
          let q : k ≡ n + 10 + i = omega arith in
          rw q (sums i (omega arith) ∙ sym (response_sum i (omega arith))))
          (λ (a : n + 10 + tags ≤ k).
          ⊎_elim
          (λ (b : k < n + 12 + tags).
          let i : ℕ = k - (n + 10 + tags) in
          let q : k ≡ n + 10 + tags + i = omega arith in
          rw q (cleared i (omega arith) ∙ sym (response_clear i (omega arith))))
          (λ (b : n + 12 + tags ≤ k).
          let i : ℕ = k - (n + 12 + tags) in
          let q : k ≡ n + 12 + tags + i = omega arith in
          rw q (tagged i (omega arith) ∙ sym (response_tag i (omega arith))))
          (order k (n + 12 + tags)))
          (order k (n + 10 + tags))

  pub response_seed : seed_in n r ≡ seed
  unfolding seed_in response_bytes
  response_seed =
      ap (take 11)
      (ap (drop (n - 1)) (sym (append_assoc (response_head node) masked (seed ++ back)))
      ∙ drop_at (response_head node ++ masked) (seed ++ back) (n - 1) (simp (length-append, length_tab, head_length) (omega arith)))
      ∙ take_at seed back 11 es

  -- the mask lies on the first n - 2 elements
  pub response_data : (i : ℕ) → i < n → data_in n tags r i ≡ plus (block i) (pick (ltb i (n - 2)) (hidden i) 0)
  unfolding data_in
  response_data i h =
      ⊎_elim
      (λ (l : i < n - 2). rw (lt-ltb i (n - 2) l) (response_masked i l))
      (λ (l : n - 2 ≤ i).
      let q : n - 2 + (i - (n - 2)) ≡ i = omega arith in
      rw (le-ltb i (n - 2) l) (response_clear (i - (n - 2)) (omega arith) ∙ ap block q ∙ sym (xor_zero_r (block i))))
      (order i (n - 2))

-- the same block and tags give the same response
pub response_same : (n tags node : ℕ) (b b' tag tag' hidden : ℕ → ℕ) (seed : List ℕ) (total : ℕ → ℕ) → 3 ≤ n
    → ((i : ℕ) → i < n → b i ≡ b' i) → ((s : ℕ) → s < tags → tag s ≡ tag' s)
    → response_bytes n tags node b tag hidden seed total ≡ response_bytes n tags node b' tag' hidden seed total
unfolding response_bytes
response_same n tags node b b' tag tag' hidden seed total low h e =
    rw (
      tab_same (n - 2) (λ j. plus (b j) (hidden j)) (λ j. plus (b' j) (hidden j)) (λ i l. ap (λ (x : ℕ). plus x (hidden i)) (h i (omega arith))),
      h (n - 2) (omega arith),
      h (n - 1) (omega arith),
      tab_same tags tag tag' e,
    )
