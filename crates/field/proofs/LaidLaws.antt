-- The constants copied to the parts of one table. Assumes nothing.
use Prim.Native.Nat.{ℕ, ◌+◌, ◌<◌, ◌≤◌}
use mathlib.Core.Path.{◌≡◌, ap, ◌∙◌}
use mathlib.Core.List.{List, ◌++◌}
use native.Mathlib.Omega.{arith}
use borrow.Rule.Slice.PartMut.{post_of, put_mid, same_len_mid, mid_len}
use lib.ListN.{length, take, drop, length-append, length-drop, get_or-append}
use lib.Seq.{length-take-le, get_or-take}
use Rattle.lists.specs.Lists.{at}
use Rattle.lists.proofs.PutLaws.{skip}
use Rattle.field.specs.PrivateTables.{logs_start, Laid}

-- the front x of a table y, and then the part z
module _ (x y z : List ℕ) (lx : length x ≡ 255) (ly : length y ≡ 766) (lz : length z ≡ 255) where
  abbrev pub front : List ℕ
  front = x ++ drop 255 y

  abbrev pub twice : List ℕ
  twice = put_mid 255 255 front z

  long_front : length front ≡ 766
  long_front = length-append x (drop 255 y) ∙ omega (arith, lx, ly, length-drop 255 y)

  long_twice : length twice ≡ 766
  long_twice = same_len_mid 255 255 front z (lz ∙ omega (arith, mid_len 255 510 front (omega (arith, long_front)))) ∙ long_front

  -- the third part ends within the table
  pub fits_twice : 766 ≤ length twice
  fits_twice = omega (arith, long_twice)

  twice_first : (k : ℕ) → k < 255 → at twice k ≡ at x k
  twice_first k h =
      get_or-append (take 255 front) (z ++ post_of 255 255 front) 0 k (omega (arith, length-take-le 255 front (omega (arith, long_front))))
      ∙ get_or-take 255 front k 0 h ∙ get_or-append x (drop 255 y) 0 k (omega (arith, lx))

  twice_again : (k : ℕ) → k < 255 → at twice (k + 255) ≡ at z k
  twice_again k h =
      let q : k + 255 ≡ 255 + k = omega arith in
      ap (at twice) q ∙ skip (take 255 front) (z ++ post_of 255 255 front) 255 k (length-take-le 255 front (omega (arith, long_front)))
      ∙ get_or-append z (post_of 255 255 front) 0 k (omega (arith, lz))

  -- and then the logarithms w
  pub laid_parts : (p l w : List ℕ) → x ≡ p → z ≡ p → w ≡ l → length w ≡ 256 → Laid p l (put_mid 510 256 twice w)
  laid_parts p l w ex ez ew lw =
      record {
        first = λ k h. low k (omega arith) ∙ twice_first k h ∙ ap (λ (s : List ℕ). at s k) ex;
        again = λ k h. low (k + 255) (omega arith) ∙ twice_again k h ∙ ap (λ (s : List ℕ). at s k) ez;
        logs = λ a h.
            let q : a + logs_start ≡ 510 + a = omega arith in
            ap (at all) q ∙ skip (take 510 twice) (w ++ post_of 510 256 twice) 510 a cut ∙ get_or-append w (post_of 510 256 twice) 0 a (omega (arith, lw))
            ∙ ap (λ (s : List ℕ). at s a) ew;
      }
    where
      all : List ℕ
      all = put_mid 510 256 twice w

      cut : length (take 510 twice) ≡ 510
      cut = length-take-le 510 twice (omega (arith, long_twice))

      low : (k : ℕ) → k < 510 → at all k ≡ at twice k
      low k h = get_or-append (take 510 twice) (w ++ post_of 510 256 twice) 0 k (omega (arith, cut)) ∙ get_or-take 510 twice k 0 h
