-- The operation Repair (SCHEME, Operations), on an archive that is not bad: `filled` tells which places are.
use Rattle.std.specs.Prelude.{ℕ, ◌+◌, ◌*◌, ◌/◌, ◌%◌, Bool, true, not, List, [], ◌∷◌, length, leb}
use Rattle.lists.specs.Lists.{at, flat, any_of, any_below}
use Rattle.answer.specs.Answer.{Outcome, done}
use Rattle.answer.specs.declared.Refusal.TheVariants.{Size, Length, NoSuchPlace, PlaceEmpty, PlaceFilled}
use Rattle.answer.specs.Refusals.{refuse, differs, outside}
use Rattle.field.specs.Field.{sum, times}
use Rattle.sizes.specs.declared.Sizes.{Sizes}
use Rattle.sizes.specs.Lengths.{record_length, place_number, helpers_most, sent_most}
use Rattle.vector.specs.Vectors.{mixed}
use Rattle.archive.specs.Layout.{byte_in, stored}

-- ---- what is asked of the helpers

-- the number of helpers, or of repair blocks that each sends, is outside its range
abbrev pub counts_outside : (helpers : List ℕ) (q : ℕ) → Bool
counts_outside helpers q = any_of (outside 1 helpers_most (length helpers) ∷ outside 1 sent_most q ∷ [])

-- how many gammas there are, and how many thetas
abbrev pub coefficient_count : (z : Sizes) (helpers : List ℕ) (q : ℕ) → ℕ
coefficient_count z helpers q = length helpers * q * z.places

-- a helper is no node
abbrev pub helper_missing : (z : Sizes) (helpers : List ℕ) → Bool
helper_missing z helpers = any_below (length helpers) (λ i. leb z.nodes (at helpers i))

-- a place of a helper is empty
abbrev pub helper_empty : (z : Sizes) (filled : ℕ → ℕ → Bool) (helpers : List ℕ) → Bool
helper_empty z filled helpers = any_below (length helpers) (λ i. any_below z.places (λ l. not (filled (at helpers i) l)))

-- ---- refusals and bytes

-- refuses, after 3: 1, 2, 4, 6, 5; `scratch` is the length of that buffer
abbrev pub repair_for :
    (z : Sizes) (filled : ℕ → ℕ → Bool) (target : ℕ) (helpers : List ℕ) (q : ℕ) (gammas thetas : List ℕ) (scratch : ℕ) → Outcome
repair_for z filled target helpers q gammas thetas scratch =
    refuse (counts_outside helpers q) Size
    (refuse
    (any_of
    (differs (length gammas) (coefficient_count z helpers q)
    ∷ differs (length thetas) (coefficient_count z helpers q)
    ∷ differs scratch (length helpers * q * record_length z)
    ∷ [])) Length
    (refuse (any_of (leb z.nodes target ∷ helper_missing z helpers ∷ [])) NoSuchPlace
    (refuse (any_below z.places (λ k. filled target k)) PlaceFilled
    (refuse (helper_empty z filled helpers) PlaceEmpty
    done))))

-- coefficient l of repair block (i,j), of the gammas or of the thetas, all counted from 0
abbrev pub coefficient : (z : Sizes) (q : ℕ) (cs : List ℕ) (i j l : ℕ) → ℕ
coefficient z q cs i j l = at cs ((i * q + j) * z.places + l)

-- what Repair makes, for target place k, of values x by node and place: combined by the gammas within each repair block, then by the thetas
abbrev pub repair_sum : (z : Sizes) (helpers : List ℕ) (q : ℕ) (gammas thetas : List ℕ) (k : ℕ) (x : ℕ → ℕ → ℕ) → ℕ
repair_sum z helpers q gammas thetas k x =
    sum (length helpers) (λ i. sum q (λ j.
    times (coefficient z q thetas i j k) (sum z.places (λ l. times (coefficient z q gammas i j l) (x (at helpers i) l)))))

-- byte e of repair block (i,j), tags included: the records of helper i combined by gamma(i,j,l) over l
unfoldable pub repair_byte : (z : Sizes) (s helpers : List ℕ) (q : ℕ) (gammas : List ℕ) (i j e : ℕ) → ℕ
repair_byte z s helpers q gammas i j e =
    mixed z.places (coefficient z q gammas i j) (λ l. byte_in z s (place_number z (at helpers i) l)) e

-- byte e of the record of target place k: all repair blocks combined by theta(i,j,k)
unfoldable pub target_byte : (z : Sizes) (s helpers : List ℕ) (q : ℕ) (gammas thetas : List ℕ) (k e : ℕ) → ℕ
target_byte z s helpers q gammas thetas k e =
    sum (length helpers) (λ i. sum q (λ j. times (coefficient z q thetas i j k) (repair_byte z s helpers q gammas i j e)))

-- every place of the target is marked, and its record is made of the repair blocks
abbrev pub repaired : (z : Sizes) (archive : List ℕ) (target : ℕ) (helpers : List ℕ) (q : ℕ) (gammas thetas : List ℕ) → List ℕ
repaired z archive target helpers q gammas thetas =
    stored z (λ j. true) (place_number z target 0) z.places (target_byte z archive helpers q gammas thetas) archive

-- what is left in the scratch buffer: the repair blocks, one after another, those of the first helper first
unfoldable pub scratch_made : (z : Sizes) (s helpers : List ℕ) (q : ℕ) (gammas : List ℕ) → List ℕ
scratch_made z s helpers q gammas = flat (length helpers * q) (record_length z) (λ t. repair_byte z s helpers q gammas (t / q) (t % q))
