-- The operation Gather (SCHEME, Operations): the marks and records of one node (the scheme: box) of a share go into an archive. A share is any
-- archive that begins as this one does. Refuses 3, 4, 6.
use Rattle.std.specs.Prelude.{ℕ, Bool, List, [], ◌∷◌, leb}
use Rattle.lists.specs.Lists.{at, any_of, any_below}
use Rattle.answer.specs.Answer.{Outcome, done}
use Rattle.answer.specs.declared.Refusal.TheVariants.{BadArchive, NoSuchPlace, PlaceFilled}
use Rattle.answer.specs.Refusals.{refuse, afterwards, differs}
use Rattle.sizes.specs.declared.Sizes.{Sizes}
use Rattle.sizes.specs.Lengths.{marks_start, place_number}
use Rattle.archive.specs.Layout.{sizes_of, filled_in, byte_in, bad_archive, stored}

-- a byte ahead of the marks differs: layout, sizes, number of tags or id
unfoldable pub other_archive : (archive share : List ℕ) → Bool
other_archive archive share = any_below marks_start (λ i. differs (at archive i) (at share i))

-- refuses, after 3: 4, 6
abbrev pub gather_for : (z : Sizes) (filled : ℕ → ℕ → Bool) (node : ℕ) → Outcome
gather_for z filled node =
    refuse (leb z.nodes node) NoSuchPlace
    (refuse (any_below z.places (λ place. filled node place)) PlaceFilled
    done)

unfoldable pub gather_answer : (archive share : List ℕ) (node : ℕ) → Outcome
gather_answer archive share node =
    refuse (any_of (bad_archive archive ∷ bad_archive share ∷ other_archive archive share ∷ [])) BadArchive
    (gather_for (sizes_of archive) (filled_in (sizes_of archive) archive) node)

-- the node's marks and its records, those of empty places too, are the share's
abbrev pub gathered : (z : Sizes) (archive share : List ℕ) (node : ℕ) → List ℕ
gathered z archive share node =
    stored z (filled_in z share node) (place_number z node 0) z.places (λ place. byte_in z share (place_number z node place)) archive

unfoldable pub gather_after : (archive share : List ℕ) (node : ℕ) → List ℕ
gather_after archive share node = afterwards (gather_answer archive share node) archive (gathered (sizes_of archive) archive share node)
