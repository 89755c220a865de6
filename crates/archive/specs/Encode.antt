-- The operation Encode (SCHEME, Operations), on an archive that is not bad: `filled` tells which places are.
use Rattle.std.specs.Prelude.{ℕ, Bool, true, List, [], ◌∷◌, length, leb}
use Rattle.lists.specs.Lists.{at, any_of}
use Rattle.answer.specs.Answer.{Outcome, done}
use Rattle.answer.specs.declared.Refusal.TheVariants.{Length, NoSuchPlace, PlaceFilled}
use Rattle.answer.specs.Refusals.{refuse, differs}
use Rattle.sizes.specs.declared.Sizes.{Sizes}
use Rattle.sizes.specs.Lengths.{key_length, file_length, padding_length, place_number}
use Rattle.tag.specs.KeyVector.{key_vector}
use Rattle.archive.specs.Layout.{stored}
use Rattle.archive.specs.Blocks.{coded_record}

-- refuses, after 3: 2, 4, 6
abbrev pub encode_for : (z : Sizes) (filled : ℕ → ℕ → Bool) (node place : ℕ) (file padding tag_key row : List ℕ) → Outcome
encode_for z filled node place file padding tag_key row =
    refuse
    (any_of
    (differs (length file) (file_length z)
    ∷ differs (length padding) (padding_length z)
    ∷ differs (length tag_key) key_length
    ∷ differs (length row) z.m
    ∷ [])) Length
    (refuse (any_of (leb z.nodes node ∷ leb z.places place ∷ [])) NoSuchPlace
    (refuse (filled node place) PlaceFilled
    done))

-- the place is marked, and its record is the source blocks combined by the row, with their tags under the archive's id
abbrev pub encoded : (z : Sizes) (id archive : List ℕ) (node place : ℕ) (file padding tag_key row : List ℕ) → List ℕ
encoded z id archive node place file padding tag_key row =
    stored z (λ j. true) (place_number z node place) 1 (λ j. coded_record z (key_vector tag_key id) file padding (at row)) archive
