-- What an answer of Prove tells, and the response that it sends. Assumes nothing.
use Prim.Native.Nat.{ℕ, ◌+◌, ◌<◌}
use mathlib.Core.Path.{◌≡◌, ◌∙◌}
use mathlib.Core.Bool.{false}
use mathlib.Core.List.{List}
use native.Mathlib.Omega.{arith}
use lib.ListN.{length}
use Rattle.lists.specs.Lists.{at}
use Rattle.lists.proofs.AnyLaws.{none_at}
use Rattle.answer.specs.Answer.{done}
use Rattle.answer.proofs.RefusalLaws.{accepted, same}
use Rattle.sizes.specs.declared.Sizes.{Sizes}
use Rattle.sizes.specs.Lengths.{response_length, block_length, record_length, auxiliary_length}
use Rattle.message.proofs.ResponseLaws.{response_same}
use Rattle.message.specs.Challenge.{challenge_of, malformed_challenge, not_there}
use Rattle.archive.specs.Layout.{sizes_of, id_of, bad_archive}
use Rattle.archive.specs.Prove.{prove_for, prove_answer, response_for, named_byte, proved_for}
use Rattle.archive.proofs.GoodArchiveLaws.{good_sizes}

module _ (s mask_key elements seed message out : List ℕ) where
  pub record Provable : Type 0 where
    pub good : bad_archive s ≡ false
    pub formed : malformed_challenge message ≡ false
    pub there : not_there (sizes_of s) (challenge_of message) ≡ false
    pub key_length_lem : length mask_key ≡ 32
    pub elements_length : length elements ≡ auxiliary_length (sizes_of s).n (sizes_of s).tags
    pub seed_length_lem : length seed ≡ 11
    pub response_length_lem : length out ≡ response_length (sizes_of s).n (sizes_of s).tags

  pub provable : prove_answer s mask_key elements seed message out ≡ done → Provable
  unfolding prove_answer prove_for
  provable e =
      let one = accepted _ _ _ e in
      let two = accepted _ _ _ one.1 in
      let three = accepted _ _ _ two.1 in
      record {
        good = one.0;
        formed = two.0;
        there = (accepted _ _ _ three.1).0;
        key_length_lem = same _ _ (none_at _ 0 three.0);
        elements_length = same _ _ (none_at _ 1 three.0);
        seed_length_lem = same _ _ (none_at _ 2 three.0);
        response_length_lem = same _ _ (none_at _ 3 three.0);
      }

-- the response for the combined records of the named places
pub proved_is : (s mask_key elements seed message combined : List ℕ) {sizes : Sizes} {node : ℕ} {key id w : List ℕ} → bad_archive s ≡ false → sizes ≡ sizes_of s
    → node ≡ (challenge_of message).node → key ≡ mask_key → id ≡ id_of s
    → ((e : ℕ) → e < record_length (sizes_of s) → at combined e ≡ named_byte (sizes_of s) s (challenge_of message) e)
    → w ≡ response_for sizes.n sizes.tags id key elements seed node (at combined) (λ k. at combined (sizes.n + sizes.m + k))
    → w ≡ proved_for (sizes_of s) (id_of s) s mask_key elements seed (challenge_of message)
unfolding proved_for response_for
proved_is s mask_key elements seed message combined good e f k i named w =
    w ∙ rw (e, f, k, i)
    (response_same (sizes_of s).n (sizes_of s).tags (challenge_of message).node _ _ _ _ _ seed _ (good_sizes s good).n_low (λ j h. named j (omega arith))
    (λ k h. named (block_length (sizes_of s) + k) (omega arith)))
