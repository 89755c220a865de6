-- The operation Setup (SCHEME, Operations).
use Rattle.std.specs.Prelude.{ℕ, ◌-◌, List, [], ◌∷◌, length}
use Rattle.lists.specs.Lists.{any_of, any_below}
use Rattle.answer.specs.Answer.{Outcome, done}
use Rattle.answer.specs.declared.Refusal.TheVariants.{Size, Length, ZeroKeyVector}
use Rattle.answer.specs.Refusals.{refuse, afterwards, differs}
use Rattle.sizes.specs.Sizes.{n_outside, tags_outside}
use Rattle.sizes.specs.Lengths.{key_length, id_length, auxiliary_length}
use Rattle.vector.specs.Vectors.{all_zero}
use Rattle.tag.specs.KeyVector.{key_vector}
use Rattle.mask.specs.Masks.{mask_row, auxiliary}

-- refuses 1, 2, 7: one tag whose vector is zero in its first n - 2 elements is enough
unfoldable pub setup_answer : (tag_key mask_key id : List ℕ) (n tags : ℕ) (out : List ℕ) → Outcome
setup_answer tag_key mask_key id n tags out =
    refuse (any_of (n_outside n ∷ tags_outside tags ∷ [])) Size
    (refuse
    (any_of
    (differs (length tag_key) key_length
    ∷ differs (length mask_key) key_length
    ∷ differs (length id) id_length
    ∷ differs (length out) (auxiliary_length n tags)
    ∷ [])) Length
    (refuse (any_below tags (λ s. all_zero (n - 2) (key_vector tag_key id s))) ZeroKeyVector
    done))

unfoldable pub setup_out : (tag_key mask_key id : List ℕ) (n tags : ℕ) (out : List ℕ) → List ℕ
setup_out tag_key mask_key id n tags out =
    afterwards (setup_answer tag_key mask_key id n tags out) out (auxiliary n tags (key_vector tag_key id) (mask_row mask_key id))
