-- The operation Vector (SCHEME, Operations), for tag s.
use Rattle.std.specs.Prelude.{ℕ, ◌+◌, List, [], ◌∷◌, length}
use Rattle.lists.specs.Lists.{tab, any_of}
use Rattle.answer.specs.Answer.{Outcome, done}
use Rattle.answer.specs.declared.Refusal.TheVariants.{Size, Length}
use Rattle.answer.specs.Refusals.{refuse, afterwards, differs}
use Rattle.sizes.specs.Sizes.{n_outside, m_outside, tag_outside}
use Rattle.sizes.specs.Lengths.{key_length, id_length}
use Rattle.tag.specs.KeyVector.{key_vector}

-- refuses 1, 2

unfoldable pub vector_answer : (tag_key id : List ℕ) (n m s : ℕ) (out : List ℕ) → Outcome
vector_answer tag_key id n m s out =
    refuse (any_of (n_outside n ∷ m_outside m ∷ tag_outside s ∷ [])) Size
    (refuse (any_of (differs (length tag_key) key_length ∷ differs (length id) id_length ∷ differs (length out) (n + m) ∷ [])) Length
    done)

unfoldable pub vector_out : (tag_key id : List ℕ) (n m s : ℕ) (out : List ℕ) → List ℕ
vector_out tag_key id n m s out = afterwards (vector_answer tag_key id n m s out) out (tab (n + m) (key_vector tag_key id s))
