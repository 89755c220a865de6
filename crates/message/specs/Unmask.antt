-- The operation Unmask (SCHEME, Operations). The number of tags is in the response's length alone.
use Rattle.std.specs.Prelude.{ℕ, ◌-◌, List, [], ◌∷◌, length, ltb}
use Rattle.lists.specs.Lists.{tab, any_of}
use Rattle.answer.specs.Answer.{Outcome, done}
use Rattle.answer.specs.declared.Refusal.TheVariants.{Size, Length, Malformed}
use Rattle.answer.specs.Refusals.{refuse, afterwards, differs}
use Rattle.field.specs.Field.{plus}
use Rattle.bits.specs.Fields.{field_at}
use Rattle.sizes.specs.Sizes.{n_outside, tags_outside}
use Rattle.mask.specs.Masks.{mask_row, mask_coefficient, mask}
use Rattle.sizes.specs.Lengths.{response_length, key_length, id_length}
use Rattle.message.specs.Response.{masked_in, seed_in}

-- refuses 1, 2, 9

unfoldable pub unmask_answer : (n tags : ℕ) (id mask_key response out : List ℕ) → Outcome
unmask_answer n tags id mask_key response out =
    refuse (any_of (n_outside n ∷ tags_outside tags ∷ [])) Size
    (refuse
    (any_of
    (differs (length id) id_length
    ∷ differs (length mask_key) key_length
    ∷ differs (length response) (response_length n tags)
    ∷ differs (length out) (n - 2)
    ∷ [])) Length
    (refuse (any_of (differs (field_at response 0 4) 2 ∷ ltb 5 (field_at response 4 3) ∷ differs (field_at response 7 1) 0 ∷ [])) Malformed
    done))

-- the mask for the response's own seed is taken off again; all that is read here stands before the mask sums
unfoldable pub unmasked : (n : ℕ) (id mask_key response : List ℕ) (e : ℕ) → ℕ
unmasked n id mask_key response e =
    plus (masked_in response e) (mask n (mask_coefficient mask_key (seed_in n response)) (mask_row mask_key id) e)

unfoldable pub unmask_out : (n tags : ℕ) (id mask_key response out : List ℕ) → List ℕ
unmask_out n tags id mask_key response out =
    afterwards (unmask_answer n tags id mask_key response out) out (tab (n - 2) (unmasked n id mask_key response))
