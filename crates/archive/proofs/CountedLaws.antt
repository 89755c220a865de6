-- What Inventory, Read and Losses count fits a byte. Assumes nothing.
use Prim.Native.Nat.{ℕ, ◌<◌}
use mathlib.Core.Path.{◌≡◌, refl}
use mathlib.Core.Bool.{Bool, false}
use mathlib.Core.List.{List}
use native.Mathlib.Omega.{arith}
use Rattle.answer.proofs.RefusalLaws.{accepted}
use Rattle.answer.specs.Answer.{Outcome, Counted, Ok, Err}
use Rattle.answer.specs.Counted.{counted, counted_value}
use Rattle.sizes.specs.Lengths.{place_count}
use Rattle.archive.specs.Layout.{sizes_of, mark_at, bad_archive}
use Rattle.lists.specs.Lists.{how_many}
use Rattle.archive.specs.Read.{ReadAllows}
use Rattle.archive.specs.Inventory.{inventory_before, inventory_answer}
use Rattle.archive.specs.Losses.{LossesAllows}
use Rattle.archive.proofs.GoodArchiveLaws.{good_sizes}
use Rattle.sizes.proofs.PlaceLaws.{count_low}
use Rattle.lists.proofs.CountLaws.{how_many_most}

few : (s : List ℕ) (p : ℕ → Bool) → bad_archive s ≡ false → how_many (place_count (sizes_of s)) p < 256
few s p good = omega (arith, how_many_most (place_count (sizes_of s)) p, count_low _ (good_sizes s good))

pub inventory_low : (s out : List ℕ) {a : Counted} → a ≡ inventory_answer s out → counted_value a 0 < 256
unfolding inventory_answer
inventory_low s out e = rw e (go (inventory_before (sizes_of s) s out) refl)
  where
    go : (o : Outcome) → inventory_before (sizes_of s) s out ≡ o → counted_value (counted o (how_many (place_count (sizes_of s)) (mark_at s))) 0 < 256
    go (Ok _) e = few s (mark_at s) (accepted _ _ _ e).0
    go (Err r) e = omega arith

pub read_low : (s out : List ℕ) (a : Counted) (written : List ℕ) → ReadAllows s out a written → counted_value a 0 < 256
read_low s out (Ok k) written w = omega (arith, w.3.most, few s (mark_at s) (accepted _ _ _ w.0).0)
read_low s out (Err r) written w = omega arith

pub losses_low : (s : List ℕ) (k : ℕ) (sets : List ℕ) (a : Counted) (written : List ℕ) → LossesAllows s k sets a written → counted_value a 0 < 256
losses_low s k sets (Ok count) written w = omega (arith, w.1.fits)
losses_low s k sets (Err r) written w = omega arith
