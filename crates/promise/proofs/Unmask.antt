-- Unmasking gives back the block that was masked. Assumes nothing.
use Prim.Native.Nat.{ℕ, ◌+◌}
use mathlib.Core.Path.{◌≡◌}
use mathlib.Core.List.{List}
use Rattle.answer.specs.Answer.{done}
use Rattle.answer.proofs.RefusalLaws.{after_done}
use Rattle.mask.specs.Masks.{mask_row, mask_coefficient, mask, mask_sum}
use Rattle.message.specs.Response.{response_bytes}
use Rattle.message.proofs.UnmaskLaws.{unmask_gives}
use Rattle.message.specs.Challenge.{challenge_of}
use Rattle.message.proofs.ChallengeReadLaws.{readable}
use Rattle.sizes.specs.Lengths.{block_length}
use Rattle.archive.specs.Layout.{sizes_of, id_of}
use Rattle.archive.specs.Prove.{prove_answer, response_for, named_byte, proved_for, prove_out}
use Rattle.archive.proofs.GoodArchiveLaws.{good_sizes, good_id}
use Rattle.archive.proofs.ProveCheckLaws.{provable}
use Rattle.promise.specs.Companions.{Unmasking}

-- what Prove wrote
module _ (s mask_key auxiliary seed message lent : List ℕ) (is : prove_answer s mask_key auxiliary seed message lent ≡ done) where
  abbrev block : ℕ → ℕ
  block = named_byte (sizes_of s) s (challenge_of message)

  response_is : prove_out s mask_key auxiliary seed message lent
      ≡ response_bytes (sizes_of s).n (sizes_of s).tags (challenge_of message).node block (λ k. block (block_length (sizes_of s) + k))
      (mask (sizes_of s).n (mask_coefficient mask_key seed) (mask_row mask_key (id_of s))) seed (mask_sum (sizes_of s).n (mask_coefficient mask_key seed) auxiliary)
  unfolding prove_out proved_for response_for
  response_is = after_done _ _ is

pub unmasking : Unmasking
unmasking s mask_key auxiliary seed message lent out is size =
    let p = provable s mask_key auxiliary seed message lent is in
    let R = good_sizes s p.good in
    rw (response_is s mask_key auxiliary seed message lent is)
    (unmask_gives _ _ _ _ _ _ _ _ _ R.n_low p.seed_length_lem _ R.n_high R.tags_low R.tags_high (readable message p.formed).node_low
    (good_id s p.good) p.key_length_lem size)
