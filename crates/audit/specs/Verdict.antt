-- The operation Verdict (SCHEME, Operations). Refuses 1, 9, 2, 4, 9, 11.
use Rattle.std.specs.Prelude.{ℕ, ◌+◌, ◌-◌, ◌*◌, Bool, not, List, [], ◌∷◌, length, ltb}
use Rattle.lists.specs.Lists.{pick, at, any_of, any_below}
use Rattle.answer.specs.Answer.{Answer, Outcome, done, Ok, Err}
use Rattle.answer.specs.declared.Refusal.TheVariants.{Size, Length, NoSuchPlace, Malformed, ProvesNothing}
use Rattle.answer.specs.Numbers.{refusal_number}
use Rattle.answer.specs.Refusals.{refuse, differs}
use Rattle.field.specs.Field.{plus}
use Rattle.sizes.specs.declared.Sizes.{Sizes}
use Rattle.sizes.specs.Sizes.{sizes_outside}
use Rattle.vector.specs.Vectors.{product, mixed, all_zero}
use Rattle.tag.specs.KeyVector.{key_vector}
use Rattle.sizes.specs.Lengths.{response_length, key_length, id_length}
use Rattle.message.specs.Response.{response_head, data_in, sum_in, tag_in}
use Rattle.message.specs.Challenge.{Challenge, challenge_of, malformed_challenge, not_there}
use Rattle.audit.specs.declared.Judgement.{Judgement}
use Rattle.audit.specs.declared.Judgement.TheVariants.{Accepted, Rejected}

-- the number of each case: 0 for accept and 255 for reject, so that only 0 can be taken for an acceptance
abbrev pub judgement_number : Answer Judgement → ℕ
judgement_number (Ok Accepted) = 0
judgement_number (Ok Rejected) = 255
judgement_number (Err r) = refusal_number r

-- the rows of the named places, and of no others, combined by the challenge; row p stands at p times m
unfoldable pub named_row : (z : Sizes) (rows : List ℕ) (c : Challenge) (i : ℕ) → ℕ
named_row z rows c i = mixed (length c.places) (at c.coefficients) (λ j e. at rows (at c.places j * z.m + e)) i

-- the refusals before 11, once the challenge is read
unfoldable pub verdict_for : (z : Sizes) (tag_key id rows : List ℕ) (c : Challenge) (malformed : Bool) (response : List ℕ) → Outcome
verdict_for z tag_key id rows c malformed response =
    refuse (sizes_outside z) Size
    (refuse malformed Malformed
    (refuse
    (any_of
    (differs (length tag_key) key_length
    ∷ differs (length id) id_length
    ∷ differs (length rows) (z.places * z.m)
    ∷ differs (length response) (response_length z.n z.tags)
    ∷ [])) Length
    (refuse (not_there z c) NoSuchPlace
    (refuse (differs (at response 0) (at (response_head c.node) 0)) Malformed
    done))))

-- the n data elements of the response, then that combined row
unfoldable pub appended : (n tags : ℕ) (response : List ℕ) (row : ℕ → ℕ) (e : ℕ) → ℕ
appended n tags response row e = pick (ltb e n) (data_in n tags response e) (row (e - n))

-- the equation of tag s fails, over any key vectors and combined row: those elements times vector s, and tag s plus mask sum s, differ
unfoldable pub fails : (z : Sizes) (vectors : ℕ → ℕ → ℕ) (row : ℕ → ℕ) (response : List ℕ) (s : ℕ) → Bool
fails z vectors row response s =
    differs (product (z.n + z.m) (appended z.n z.tags response row) (vectors s))
    (plus (tag_in z.n z.tags response s) (sum_in z.n response s))

-- that of no tag does
unfoldable pub accepts : (z : Sizes) (vectors : ℕ → ℕ → ℕ) (row : ℕ → ℕ) (response : List ℕ) → Bool
accepts z vectors row response = not (any_below z.tags (fails z vectors row response))

-- one of those refusals; else the last, 11, where nothing is proved; else what the equations decide
unfoldable pub judgement : (first : Outcome) (nothing accepted : Bool) → Answer Judgement
judgement (Ok _) nothing accepted = pick nothing (Err ProvesNothing) (pick accepted (Ok Accepted) (Ok Rejected))
judgement (Err r) nothing accepted = Err r

-- nothing is proved where the combined row is zero: of the response its length and first byte were looked at, and no more
unfoldable pub verdict_of : (tag_key id : List ℕ) (z : Sizes) (rows message response : List ℕ) → Answer Judgement
verdict_of tag_key id z rows message response =
    judgement (verdict_for z tag_key id rows (challenge_of message) (malformed_challenge message) response)
    (all_zero z.m (named_row z rows (challenge_of message)))
    (accepts z (key_vector tag_key id) (named_row z rows (challenge_of message)) response)
