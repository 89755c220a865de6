-- Mask rows in a buffer. Assumes nothing.
use Prim.Native.Nat.{ℕ, ◌+◌, ◌-◌, ◌*◌, ◌/◌, ◌%◌, ◌<◌, ◌≤◌}
use mathlib.Core.Path.{◌≡◌, refl, ap, ◌∙◌}
use mathlib.Core.List.{List, ◌∷◌}
use native.Mathlib.Omega.{arith}
use lib.ListN.{length}
use Rattle.lists.specs.Lists.{at, put}
use Rattle.lists.proofs.PutLaws.{put_front}
use Rattle.keystream.specs.Draws.{byte_at}
use Rattle.mask.specs.Masks.{F2, mask_row}

-- a buffer that was filled with the blocks of a stream
module _ (key : List ℕ) (nonce : List ℕ) (size e : ℕ) (before : List ℕ) {out : List ℕ} (fits : size ≤ length before)
    (filled : out ≡ put size 0 (byte_at key nonce) before) (l : e < size) where
  stream_filled : at out e ≡ byte_at key nonce e
  stream_filled = ap (λ (s : List ℕ). at s e) filled ∙ put_front size (byte_at key nonce) before e l fits

  pub row_filled : (id : List ℕ) (i : ℕ) → nonce ≡ 2 ∷ 0 ∷ (i + 1) / 256 % 256 ∷ (i + 1) % 256 ∷ id → at out e ≡ mask_row key id i e
  unfolding mask_row F2
  row_filled id i p = let q : e + 1 - 1 ≡ e = omega arith in stream_filled ∙ rw (p, q) refl
