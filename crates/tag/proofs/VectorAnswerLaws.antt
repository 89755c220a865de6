-- What Vector's answer tells, and what is written then. Assumes nothing.
use Prim.Native.Nat.{ℕ, ◌+◌, ◌<◌}
use mathlib.Core.Path.{◌≡◌, sym, ◌∙◌}
use mathlib.Core.List.{List}
use lib.ListN.{length}
use borrow.Author.Tests.{leb-false}
use Rattle.lists.specs.Lists.{tab}
use Rattle.lists.proofs.TabLaws.{tab_same}
use Rattle.lists.proofs.AnyLaws.{none_at}
use Rattle.answer.specs.Answer.{Outcome, done}
use Rattle.answer.proofs.RefusalLaws.{accepted, same}
use Rattle.sizes.specs.Lengths.{tags_most}
use Rattle.keystream.specs.declared.stream.Stream.{Stream}
use Rattle.keystream.specs.PrivateStream.{drawn, after}
use Rattle.tag.specs.Vector.{vector_answer}
use Rattle.tag.specs.KeyVector.{key_vector}
use Rattle.tag.specs.PrivateKeyStream.{GivesKeyVector}

module _ (key id : List ℕ) (n m s : ℕ) (out : List ℕ) {o : Outcome} (answer : o ≡ vector_answer key id n m s out) where
  pub vector_lengths : o ≡ done → (length key ≡ 32) × (length id ≡ 8) × (length out ≡ n + m)
  unfolding vector_answer
  vector_lengths e =
      let t = (accepted _ _ _ (accepted _ _ _ (sym answer ∙ e)).1).0 in
      (same _ _ (none_at _ 0 t), same _ _ (none_at _ 1 t), same _ _ (none_at _ 2 t))

  -- the number of a tag
  pub vector_tag : o ≡ done → s < tags_most
  unfolding vector_answer
  vector_tag e = leb-false _ _ (none_at _ 2 (accepted _ _ _ (sym answer ∙ e)).0)

  pub vector_drawn : o ≡ done → {made : List ℕ} (stream : Stream) → GivesKeyVector key id s stream
      → made ≡ tab (length out) (λ i. (drawn (after i stream)).byte) → made ≡ tab (n + m) (key_vector key id s)
  vector_drawn e stream gives w = w ∙ rw (vector_lengths e).2 (tab_same (n + m) _ (key_vector key id s) (λ i h. gives i))
