-- The last m elements of a combination of source blocks are its row. Assumes nothing.
use Prim.Native.Nat.{ℕ, ◌+◌, ◌-◌, ◌*◌, ◌<◌}
use mathlib.Core.Path.{◌≡◌, refl, sym, ◌∙◌}
use mathlib.Core.List.{List}
use native.Mathlib.Omega.{arith}
use lib.Dec.{eqb}
use borrow.Author.Tests.{lt-ltb, le-ltb, eq-eqb, ne_eqb}
use Rattle.lists.specs.Lists.{at, bit}
use Rattle.field.specs.Field.{times}
use Rattle.field.proofs.SumLaws.{sum_one}
use Rattle.field.proofs.TimesLaws.{times_zero, times_comm, one_times}
use Rattle.sizes.specs.declared.Sizes.{Sizes}
use Rattle.vector.specs.Vectors.{mixed}
use Rattle.archive.specs.Blocks.{source, coded}

module _ (z : Sizes) (file padding : List ℕ) where
  pub source_file : (i e : ℕ) → e < z.n - 2 → source z file padding i e ≡ at file (i * (z.n - 2) + e)
  unfolding source
  source_file i e h = rw (lt-ltb e (z.n - 2) h)

  source_tail : (i a : ℕ) → source z file padding i (z.n + a) ≡ bit (eqb a i)
  unfolding source
  source_tail i a =
      let q : z.n + a - z.n ≡ a = omega arith in
      rw (le-ltb (z.n + a) (z.n - 2) (omega arith), le-ltb (z.n + a) z.n (omega arith), q)

  pub coded_row : (r : ℕ → ℕ) (i : ℕ) → i < z.m → r i < 256 → coded z file padding r (z.n + i) ≡ r i
  unfolding coded mixed
  coded_row r i h low =
      sum_one z.m i (λ j. times (r j) (source z file padding j (z.n + i))) h
      (λ j hj ne. rw (source_tail j i, ne_eqb i j (λ q. ne (sym q))) (times_zero (r j)))
      ∙ rw (source_tail i i, eq-eqb i i refl) (times_comm (r i) 1 ∙ one_times low)
