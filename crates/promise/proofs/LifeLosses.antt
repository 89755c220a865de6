-- What Losses lists of the archives in which both lives end: of every size the sets with node 2, and no other. Assumes nothing.
use Prim.Native.Nat.{ℕ, ◌+◌, ◌*◌, ◌/◌, ◌<◌, ◌≤◌}
use mathlib.Core.Path.{◌≡◌, refl, sym, ap, subst, ◌∙◌}
use mathlib.Core.Bool.{Bool, true, false}
use mathlib.Core.List.{List, [], ◌∷◌}
use mathlib.Core.Logic.{◌↔◌, ⊎_elim}
use native.Mathlib.Omega.{arith}
use lib.Dec.{T, eqb, eqb→eq}
use lib.ListN.{length}
use Rattle.lists.specs.Lists.{pick, at, tab, zero_padded, filtered, any_of, any_below}
use Rattle.lists.proofs.AllLaws.{all, all_at, told}
use Rattle.lists.proofs.TabLaws.{order}
use Rattle.answer.specs.Answer.{Ok}
use Rattle.answer.specs.Refusals.{outside}
use Rattle.field.specs.Field.{sum, times, xtimes, xtime, modulus}
use Rattle.bits.specs.Fields.{number, bit_at, field_at}
use Rattle.sizes.specs.Sizes.{sizes_outside}
use Rattle.vector.specs.Vectors.{product, mixed}
use Rattle.vector.specs.Taken.{Spanned}
use Rattle.vector.proofs.SpanLaws.{spanned_orthogonal}
use Rattle.linear.specs.PrivateSteps.{unit_at, sel}
use Rattle.linear.proofs.RankLaws.{unit_row}
use Rattle.archive.specs.Layout.{layout_outside, tag_field, layout_of, sizes_of, mark_at, byte_in, bad_for, bad_archive}
use Rattle.archive.specs.Read.{row_in}
use Rattle.archive.specs.Losses.{in_set, nodes_in, before, remains, Hurts, LossesAllows}
use Rattle.archive.proofs.LostLaws.{filled}
use Rattle.promise.specs.Life as L
use Rattle.promise.proofs.ListedLosses.{Passes, listed, hurts_by}

-- ---- rows that combine to a unit vector

-- a vector of bytes that is orthogonal to them is zero there
vanishes : (k m : ℕ) (row : ℕ → ℕ → ℕ) (v : ℕ → ℕ) (i : ℕ) → i < m → v i < 256 → Spanned k m row (λ e. unit_at e i)
    → ((j : ℕ) → j < k → product m (row j) v ≡ 0) → v i ≡ 0
vanishes k m row v i l low s zeros = sym (unit_row m i (λ e. unit_at e i) v (λ e b. refl) l low) ∙ spanned_orthogonal k m row v zeros s

-- ---- what is computed of an archive s

abbrev Header : (tags : ℕ) (s : List ℕ) → Type 0
Header tags s = (sizes_of s ≡ L.z tags) × (bad_archive s ≡ false) × T (all 2 (λ j. mark_at s (4 + j)))

headers : Header 1 (L.one).archive_bytes × Header 3 (L.three).archive_bytes
unfolding all bad_for layout_outside tag_field layout_of sizes_outside outside any_of any_below sizes_of field_at bit_at number mark_at
headers = ((refl, refl, tt), (refl, refl, tt))

-- of the rows of node 2: the first two make 01 00, the others 00 01
abbrev coefficients : (i j : ℕ) → ℕ
coefficients i j = at (0xea ∷ 0x82 ∷ 0x67 ∷ 0xa4 ∷ []) (i * 2 + j)

-- the vector ca 53 is orthogonal to the rows of nodes 0 and 1, and the rows of node 2 combine to both unit vectors
abbrev Rows : (tags : ℕ) (s : List ℕ) → Type 0
Rows tags s =
    T (all 4 (λ k. eqb (product 2 (row_in (L.z tags) s k) (at (0xca ∷ 0x53 ∷ []))) 0))
    × T (all 2 (λ i. all 2 (λ e. eqb (unit_at e i) (mixed 2 (coefficients i) (λ j. row_in (L.z tags) s (4 + j)) e))))

rows : Rows 1 (L.one).archive_bytes × Rows 3 (L.three).archive_bytes
unfolding all sel byte_in product mixed sum times xtimes xtime modulus
rows = ((tt, tt), (tt, tt))

-- ---- a set hurts if it has node 2

abbrev hurting : ℕ → Bool
hurting set = in_set set 2

life_pass : Passes hurting 3 0 [] × Passes hurting 3 1 (0x04 ∷ []) × Passes hurting 3 2 (0x05 ∷ 0x06 ∷ []) × Passes hurting 3 3 (0x07 ∷ [])
unfolding all any_below nodes_in filtered before zero_padded tab
life_pass = ((tt, tt, tt, tt, tt), (tt, tt, tt, tt, tt), (tt, tt, tt, tt, tt), (tt, tt, tt, tt, tt))

-- what the statement says of an archive
abbrev pub LossesAre : List ℕ → Type 0
LossesAre s =
    (out : List ℕ) → length out ≡ 20
    → LossesAllows s 0 out (Ok 0) (zero_padded 20 [])
    × LossesAllows s 1 out (Ok 1) (zero_padded 20 (0x04 ∷ []))
    × LossesAllows s 2 out (Ok 2) (zero_padded 20 (0x05 ∷ 0x06 ∷ []))
    × LossesAllows s 3 out (Ok 1) (zero_padded 20 (0x07 ∷ []))

module _ (tags : ℕ) (s : List ℕ) (h : Header tags s) (r : Rows tags s) where
  -- places 4 and 5 are those of node 2
  of_last : (k : ℕ) → 4 ≤ k → k < 6 → (set : ℕ) → in_set set (k / 2) ≡ hurting set
  of_last k low high set = let q : k / 2 ≡ 2 = omega arith in ap (λ (node : ℕ). in_set set node) q

  orthogonal : (set : ℕ) → T (hurting set) → (k : ℕ) → k < 6 → remains (L.z tags) s set k ≡ true
      → product 2 (row_in (L.z tags) s k) (at (0xca ∷ 0x53 ∷ [])) ≡ 0
  orthogonal set t k high e =
      ⊎_elim
      (λ (l : k < 4). eqb→eq _ _ (all_at 4 _ r.0 k l))
      (λ (l : 4 ≤ k). absurd (subst T (sym (of_last k l high set) ∙ (filled (in_set set (k / 2)) (mark_at s k) e).0) t))
      (order k 4)

  last_remains : (set : ℕ) → hurting set ≡ false → (j : ℕ) → j < 2 → remains (L.z tags) s set (4 + j) ≡ true
  last_remains set p j l =
      ap (λ (t : Bool). pick t false (mark_at s (4 + j))) (of_last (4 + j) (omega arith) (omega arith) set ∙ p) ∙ told _ (all_at 2 _ h.2 j l)

  sighted : (set : ℕ) → hurting set ≡ false → ¬ Hurts (L.z tags) s set
  sighted set p b =
      b.one_not (vanishes 2 2 (λ j. row_in (L.z tags) s (4 + j)) b.v b.one b.one_there (b.bytes b.one b.one_there)
      (coefficients b.one, λ e l. eqb→eq _ _ (all_at 2 _ (all_at 2 _ r.1 b.one b.one_there) e l))
      (λ j l. b.orthogonal (4 + j) (omega arith) (last_remains set p j l)))

  life_hurts : (set : ℕ) → Hurts (L.z tags) s set ↔ T (hurting set)
  life_hurts set = (
    go (hurting set) refl,
    λ t. hurts_by 2 3 tags s set 0xca 0x53 (omega arith) (omega arith) (λ e. omega arith) (orthogonal set t),
  )
    where
      go : (t : Bool) → hurting set ≡ t → Hurts (L.z tags) s set → T t
      go true p w = tt
      go false p w = sighted set p w

  life_listed : (k : ℕ) (xs out : List ℕ) → k ≤ 3 → length out ≡ 20 → length xs ≤ 20 → Passes hurting 3 k xs
      → LossesAllows s k out (Ok (length xs)) (zero_padded 20 xs)
  life_listed = listed (L.z tags) s h.0 h.1 hurting life_hurts

  all_listed : LossesAre s
  all_listed out e = (
    life_listed 0 [] out (omega arith) e (omega arith) life_pass.0,
    life_listed 1 (0x04 ∷ []) out (omega arith) e (omega arith) life_pass.1,
    life_listed 2 (0x05 ∷ 0x06 ∷ []) out (omega arith) e (omega arith) life_pass.2,
    life_listed 3 (0x07 ∷ []) out (omega arith) e (omega arith) life_pass.3,
  )

pub losses_are : LossesAre (L.one).archive_bytes × LossesAre (L.three).archive_bytes
losses_are = (all_listed 1 (L.one).archive_bytes headers.0 rows.0, all_listed 3 (L.three).archive_bytes headers.1 rows.1)
