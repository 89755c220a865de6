-- The file written from the chosen places solves for the blocks, and what Read answers. Assumes nothing.
use Prim.Native.Nat.{ℕ, ◌-◌, ◌<◌}
use mathlib.Core.Path.{◌≡◌, refl, sym, ap, subst, ◌∙◌}
use mathlib.Core.Logic.{inr}
use mathlib.Core.Bool.{Bool, false}
use mathlib.Core.List.{List}
use native.Mathlib.Omega.{arith}
use lib.ListN.{length}
use Rattle.lists.specs.Lists.{at, flat, grid, how_many}
use Rattle.lists.proofs.PutLaws.{length_flat, flat_at, flat_every, grid_all}
use Rattle.answer.specs.Answer.{done, Ok, Err}
use Rattle.answer.specs.declared.Refusal.TheVariants.{Unreadable}
use Rattle.answer.proofs.RefusalLaws.{passed, differs_same}
use Rattle.sizes.specs.declared.Sizes.{Sizes}
use Rattle.vector.specs.Vectors.{product, mixed}
use Rattle.sizes.proofs.SizeLaws.{Ranged}
use Rattle.vector.proofs.VectorLaws.{mixed_lt, product_keys}
use Rattle.linear.specs.PrivateElimination.{Matrix, Reduces}
use Rattle.archive.specs.Layout.{sizes_of, mark_at, byte_in, bad_archive}
use Rattle.sizes.specs.Lengths.{file_length}
use Rattle.archive.specs.Read.{row_in, Solved, read_before, ReadFor, ReadAllows}
use Rattle.archive.proofs.CallLaws.{read_sizes}
use Rattle.choice.specs.declared.Chosen.{Chosen}
use Rattle.choice.specs.PrivateChoice.{listed_rows}
use Rattle.choice.proofs.WholeLaws.{taken_listed, listed_low, count_full, takes_all}
use Rattle.reading.proofs.PlaceRowLaws.{row_byte}
use Rattle.reading.proofs.ReadingLaws.{ChosenIn, unreadable, readable, enough}

module _ (z : Sizes) (s : List ℕ) (c : Chosen) (chosen : ChosenIn z s (mark_at s) c) (t : Matrix) (rank : ℕ)
    (reduced : Reduces c.count z.m (listed_rows (row_in z s) c) t rank) where
  -- block i without its padding
  abbrev block : ℕ → ℕ → ℕ
  block i = mixed z.m (t i) (λ r. byte_in z s (at c.numbers r))

  module _ (R : Ranged z) (low : (i : ℕ) → at s i < 256) (full : rank ≡ z.m) where
    -- the blocks solve for what the listed places hold
    block_solves : (e r : ℕ) → r < c.count → product z.m (listed_rows (row_in z s) c r) (λ i. block i e) ≡ byte_in z s (at c.numbers r) e
    unfolding product mixed byte_in
    block_solves e r h =
        let all = count_full _ _ _ _ c chosen t rank reduced full in
        let column : ℕ → ℕ = λ r. byte_in z s (at c.numbers r) e in
        product_keys z.m (listed_rows (row_in z s) c r) (λ i. block i e) (λ i. product c.count (t i) column) (λ i l. ap (λ (n : ℕ). product n (t i) column) (sym all))
        ∙ reduced.solves full all column (λ j l. low _) r h

    -- the file is a solution
    solved : (out : List ℕ) {file : List ℕ} → length out ≡ file_length z → file ≡ grid z.m (z.n - 2) 0 block out → Solved z s file
    solved out size written = rw (written ∙ grid_all z.m (z.n - 2) block out size) made
      where
        taken : ℕ → Bool
        taken = chosen.choice.taken

        made : Solved z s (flat z.m (z.n - 2) block)
        made =
            record {
              taken = taken;
              takes = takes_all _ _ _ _ c chosen t rank reduced full (row_byte z s low);
              size = length_flat z.m (z.n - 2) block;
              bytes = λ i h.
                  flat_every (λ x. x < 256) z.m (z.n - 2) block (omega (arith, R.n_low)) (λ k p. mixed_lt _ _ _ _) i
                  (omega (arith, h, length_flat z.m (z.n - 2) block));
              solves = λ k e h q he.
                  product_keys z.m (row_in z s k) _ (λ i. block i e) (λ i l. flat_at z.m (z.n - 2) block i e l he)
                  ∙ subst (λ (p : ℕ). product z.m (row_in z s p) (λ i. block i e) ≡ byte_in z s p e) (taken_listed _ _ _ _ c chosen k q)
                  (block_solves e (how_many k taken) (listed_low _ _ _ _ c chosen k q));
            }

  -- ---- the answers

  module _ (out : List ℕ) (good : bad_archive s ≡ false) (read : z ≡ sizes_of s) (size : length out ≡ file_length (sizes_of s)) where
    -- nothing is refused before
    not_before : read_before z s out ≡ done
    not_before = passed _ _ good ∙ passed _ _ (differs_same (size ∙ sym (ap file_length read)))

    -- rank below m
    pub refuses : rank < z.m → ReadAllows s out (Err Unreadable) out
    refuses below = subst (λ (x : Sizes). ReadFor x s out (Err Unreadable) out) read (refl, inr (not_before, refl, unreadable z s (mark_at s) c chosen t rank reduced below))

    -- rank m
    pub reads : {file : List ℕ} → ((i : ℕ) → at s i < 256) → rank ≡ z.m → file ≡ grid z.m (z.n - 2) 0 block out → ReadAllows s out (Ok c.consulted) file
    reads {file} low full written =
        subst (λ (x : Sizes). ReadFor x s out (Ok c.consulted) file) read (
          not_before,
          readable z s (mark_at s) c chosen t rank reduced full,
          solved (read_sizes s read good) low full out (rw read size) written,
          enough z s (mark_at s) c chosen t rank reduced full,
        )
