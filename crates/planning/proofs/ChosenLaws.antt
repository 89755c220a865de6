-- From the choice among the repair rows, and elimination on the columns of those taken, to a plan or to a vector that rules one out. Assumes
-- nothing.
use Prim.Native.Nat.{ℕ, ◌*◌, ◌<◌, ◌≤◌}
use mathlib.Core.Path.{◌≡◌, refl, sym, ap, ◌∙◌}
use mathlib.Core.Bool.{Bool, true, false, true≢false}
use mathlib.Core.List.{List}
use native.Mathlib.Omega.{arith}
use lib.ListN.{length}
use Rattle.lists.specs.Lists.{pick, at, flat, grid, how_many}
use Rattle.lists.proofs.PutLaws.{length_flat, flat_at, flat_every, grid_all}
use Rattle.field.specs.Field.{times}
use Rattle.field.proofs.SumLaws.{sum_same, sum_zero}
use Rattle.field.proofs.TimesLaws.{times_zero, zero_times}
use Rattle.vector.specs.Vectors.{product, mixed}
use Rattle.vector.specs.Taken.{Spanned, only}
use Rattle.vector.proofs.VectorLaws.{product_keys, mixed_same}
use Rattle.vector.proofs.TakenLaws.{spanned_taken}
use Rattle.linear.specs.PrivateElimination.{Matrix, BytesTo, Reduces, turned}
use Rattle.linear.proofs.RankLaws.{product_lt}
use Rattle.linear.proofs.TurnedLaws.{ranked, past, reached}
use Rattle.choice.specs.declared.Chosen.{Chosen}
use Rattle.choice.specs.PrivateChoice.{listed_rows, WholeChoice}
use Rattle.choice.proofs.GatherLaws.{spread}
use Rattle.choice.proofs.WholeLaws.{taken, taken_low, taken_listed, listed_low, listed_taken, counted_all, candidates_zero}
use Rattle.sizes.specs.declared.Sizes.{Sizes}
use Rattle.archive.specs.Plan.{Planned, Unreachable}
use Rattle.planning.specs.PrivatePlan.{row_for, Beyond}
use Rattle.planning.proofs.SoughtLaws.{row_for_none, row_for_one}

-- ---- the rows chosen

module _ (count m : ℕ) (row : Matrix) (c : Chosen) (chosen : WholeChoice count m row (λ j. true) c) (t : Matrix) (rank : ℕ)
    (reduced : Reduces m c.count (turned (listed_rows row c)) t rank) (low : (j i : ℕ) → row j i < 256) where
  abbrev is_taken : ℕ → Bool
  is_taken = taken _ _ _ _ c chosen

  listed_byte : (j i : ℕ) → j < c.count → listed_rows row c j i < 256
  listed_byte j i h = low _ i

  full : rank ≡ c.count
  full = ranked c.count m rank (listed_rows row c) t listed_byte reduced chosen.choice.independent

  -- a combination past the rows taken is orthogonal to every row
  past_all : (i : ℕ) → c.count ≤ i → i < m → (j : ℕ) → j < count → product m (row j) (t i) ≡ 0
  past_all i h l j b =
      candidates_zero _ _ _ _ c chosen (omega arith) (t i) (λ k. past c.count m rank (listed_rows row c) t listed_byte reduced full i k h l) j b refl

  -- the combination by which block j gets its thetas
  row_for_lem : (j e : ℕ) → row_for c.count (at c.numbers) t j e ≡ pick (is_taken j) (t (how_many j is_taken) e) 0
  row_for_lem j e = go (is_taken j) refl
    where
      go : (b : Bool) → is_taken j ≡ b → row_for c.count (at c.numbers) t j e ≡ pick b (t (how_many j is_taken) e) 0
      go true q =
          row_for_one c.count (at c.numbers) t j e (how_many j is_taken) (listed_low _ _ _ _ c chosen j q) (taken_listed _ _ _ _ c chosen j q)
          (λ k l is. sym (ap (λ (x : ℕ). how_many x is_taken) (sym is) ∙ (listed_taken _ _ _ _ c chosen k l).1))
      go false q =
          row_for_none c.count (at c.numbers) t j e
          (λ k l is. true≢false (sym (listed_taken _ _ _ _ c chosen k l).0 ∙ ap is_taken is ∙ q))

  module _ (w : ℕ → ℕ) (bytes : BytesTo m w) (unseen : (i : ℕ) → c.count ≤ i → i < m → product m w (t i) ≡ 0) where
    -- the thetas of a place that is to hold w
    abbrev theta : ℕ → ℕ
    theta j = product m w (row_for c.count (at c.numbers) t j)

    theta_is : (j : ℕ) → theta j ≡ pick (is_taken j) (product m w (t (how_many j is_taken))) 0
    unfolding product
    theta_is j = product_keys m w _ _ (λ e l. row_for_lem j e) ∙ go (is_taken j)
      where
        go : (b : Bool) → product m w (λ e. pick b (t (how_many j is_taken) e) 0) ≡ pick b (product m w (t (how_many j is_taken))) 0
        go true = refl
        go false = sum_zero m _ (λ e l. times_zero (w e))

    theta_gives : (i : ℕ) → i < m → mixed count theta row i ≡ w i
    unfolding mixed
    theta_gives i l =
        sum_same count _ (λ j. times (product m w (t (how_many j is_taken))) (only is_taken row j i)) (λ j b. ap (λ (x : ℕ). times x (row j i)) (theta_is j) ∙ go (is_taken j) j)
        ∙ spread is_taken (at c.numbers) row (λ k. product m w (t k)) i count (λ j b. taken_listed _ _ _ _ c chosen j)
        ∙ ap (λ (n : ℕ). mixed n (λ k. product m w (t k)) (listed_rows row c) i) (counted_all _ _ _ _ c chosen)
        ∙ reached c.count m rank (listed_rows row c) t listed_byte reduced full w bytes unseen i l
      where
        go : (b : Bool) (j : ℕ) → times (pick b (product m w (t (how_many j is_taken))) 0) (row j i) ≡ times (product m w (t (how_many j is_taken))) (pick b (row j i) 0)
        go true j = refl
        go false j = zero_times (row j i) ∙ sym (times_zero _)

    theta_unused : (j : ℕ) → j < count → Spanned j m row (row j) → theta j ≡ 0
    theta_unused j l s = theta_is j ∙ go (is_taken j) refl
      where
        go : (b : Bool) → is_taken j ≡ b → pick b (product m w (t (how_many j is_taken))) 0 ≡ 0
        go true q =
            let end = taken_low _ _ _ _ c chosen j q in
            absurd (chosen.choice.takes.independent j end q
            (spanned_taken m row (λ k. true) chosen.end is_taken chosen.choice.takes (λ k b. refl) low j (omega arith) s))
        go false q = refl

-- ---- the answers

module _ (z : Sizes) (count : ℕ) (row wanted : Matrix) (c : Chosen) (chosen : WholeChoice count z.m row (λ j. true) c) (t : Matrix) (rank : ℕ)
    (reduced : Reduces z.m c.count (turned (listed_rows row c)) t rank) (low : (j i : ℕ) → row j i < 256) where
  -- a wanted row is seen past the rows taken
  pub unreachable : ((i e : ℕ) → i < z.m → e < z.m → t i e < 256) → Beyond z.places c.count z.m t wanted → Unreachable z count row wanted
  unreachable bytes b =
      record {
        v = t b.index;
        bytes = λ e l. bytes b.index e b.index_low l;
        orthogonal = past_all count z.m row c chosen t rank reduced low b.index b.index_from b.index_low;
        place = b.place;
        there = b.there;
        not_orthogonal = b.seen;
      }

  -- none is
  pub planned : {thetas : List ℕ} (lent : List ℕ) → 0 < z.places → length lent ≡ count * z.places → ((k i : ℕ) → k < z.places → i < z.m → wanted k i < 256)
      → ((k i : ℕ) → k < z.places → c.count ≤ i → i < z.m → product z.m (wanted k) (t i) ≡ 0)
      → thetas ≡ grid count z.places 0 (λ j k. product z.m (wanted k) (row_for c.count (at c.numbers) t j)) lent
      → Planned z count row wanted thetas
  planned lent some long bytes unseen written = rw (written ∙ grid_all count z.places theta_of lent long) made
    where
      theta_of : ℕ → ℕ → ℕ
      theta_of j k = product z.m (wanted k) (row_for c.count (at c.numbers) t j)

      made : Planned z count row wanted (flat count z.places theta_of)
      made =
          record {
            size = length_flat count z.places theta_of;
            bytes = λ i h.
                flat_every (λ x. x < 256) count z.places theta_of some (λ j k. product_lt z.m _ _) i
                (omega (arith, h, length_flat count z.places theta_of));
            gives = λ k i h l.
                mixed_same count _ (λ j. theta_of j k) row i (λ j b. flat_at count z.places theta_of j k b h)
                ∙ theta_gives count z.m row c chosen t rank reduced low (wanted k) (λ e b. bytes k e h b) (λ e. unseen k e h) i l;
            unused = λ j l s k h.
                flat_at count z.places theta_of j k l h
                ∙ theta_unused count z.m row c chosen t rank reduced low (wanted k) (λ e b. bytes k e h b) (λ e. unseen k e h) j l s;
          }
