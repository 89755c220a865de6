-- The operation Plan (SCHEME, Operations), a relation between what is lent, the answer and the thetas afterwards; nothing is free.
-- Refuses 3, 1, 2, 4, 5, 12.
use Rattle.std.specs.Prelude.{ℕ, ◌+◌, ◌*◌, ◌/◌, ◌%◌, ◌<◌, ◌≡◌, ◌⊎◌, ◌≢◌, Bool, List, [], ◌∷◌, length}
use Rattle.lists.specs.Lists.{at, any_of, Bytes}
use Rattle.answer.specs.Answer.{Outcome, done, Ok, Err}
use Rattle.answer.specs.declared.Refusal.TheVariants.{Size, Length, BadArchive, NoSuchPlace, PlaceEmpty, NoPlan}
use Rattle.answer.specs.Refusals.{refuse, differs}
use Rattle.sizes.specs.declared.Sizes.{Sizes}
use Rattle.vector.specs.Vectors.{product, mixed}
use Rattle.vector.specs.Taken.{Spanned}
use Rattle.archive.specs.Layout.{sizes_of, filled_in, bad_archive}
use Rattle.archive.specs.Repair.{counts_outside, coefficient_count, helper_missing, helper_empty, repair_byte}

-- ---- rows and thetas

-- element i of repair row t: that of the row at the end of Repair's block (t / q, t % q), where t counts the blocks helper by helper
abbrev pub repair_row : (z : Sizes) (s helpers : List ℕ) (q : ℕ) (gammas : List ℕ) (t i : ℕ) → ℕ
repair_row z s helpers q gammas t i = repair_byte z s helpers q gammas (t / q) (t % q) (z.n + i)

-- element i of the row that target place k is to hold
abbrev pub wanted_row : (z : Sizes) (rows : List ℕ) (k i : ℕ) → ℕ
wanted_row z rows k i = at rows (k * z.m + i)

-- the theta of repair block t and target place k
abbrev pub theta_in : (z : Sizes) (thetas : List ℕ) (t k : ℕ) → ℕ
theta_in z thetas t k = at thetas (t * z.places + k)

-- ---- a plan, and what rules one out, for `count` repair rows

-- the repair rows, combined by the thetas of a place, are its wanted row; a block whose row is a combination of those of earlier blocks (of
-- none: a row of zeros) has the theta 00 for every place
pub record Planned (z : Sizes) (count : ℕ) (row wanted : ℕ → ℕ → ℕ) (thetas : List ℕ) : Type 0 where
  pub size : length thetas ≡ count * z.places
  pub bytes : Bytes thetas
  pub gives : (k i : ℕ) → k < z.places → i < z.m → mixed count (λ t. theta_in z thetas t k) row i ≡ wanted k i
  pub unused : (t : ℕ) → t < count → Spanned t z.m row (row t) → (k : ℕ) → k < z.places → theta_in z thetas t k ≡ 0

-- a vector of m bytes that is orthogonal to every repair row and not to a wanted row
pub record Unreachable (z : Sizes) (count : ℕ) (row wanted : ℕ → ℕ → ℕ) : Type 0 where
  pub v : ℕ → ℕ
  pub bytes : (i : ℕ) → i < z.m → v i < 256
  pub orthogonal : (t : ℕ) → t < count → product z.m (row t) v ≡ 0
  pub place : ℕ
  pub there : place < z.places
  pub not_orthogonal : product z.m (wanted place) v ≢ 0

-- ---- refusals and the answer

-- refuses, after 3: 1, 2, 4, 5
abbrev pub plan_for : (z : Sizes) (filled : ℕ → ℕ → Bool) (helpers : List ℕ) (q : ℕ) (gammas rows thetas : List ℕ) → Outcome
plan_for z filled helpers q gammas rows thetas =
    refuse (counts_outside helpers q) Size
    (refuse
    (any_of
    (differs (length gammas) (coefficient_count z helpers q)
    ∷ differs (length rows) (z.places * z.m)
    ∷ differs (length thetas) (coefficient_count z helpers q)
    ∷ [])) Length
    (refuse (helper_missing z helpers) NoSuchPlace
    (refuse (helper_empty z filled helpers) PlaceEmpty
    done)))

abbrev pub plan_before : (s helpers : List ℕ) (q : ℕ) (gammas rows thetas : List ℕ) → Outcome
plan_before s helpers q gammas rows thetas =
    refuse (bad_archive s) BadArchive (plan_for (sizes_of s) (filled_in (sizes_of s) s) helpers q gammas rows thetas)

-- refused: nothing is written, and 12 comes last, with its vector; done: there is no such vector, and the thetas are a plan
abbrev pub PlanAnswer : (before : Outcome) (z : Sizes) (count : ℕ) (row wanted : ℕ → ℕ → ℕ) (thetas : List ℕ) → Outcome → List ℕ → Type 0
PlanAnswer before z count row wanted thetas (Err r) written =
    (written ≡ thetas) × ((before ≡ Err r) ⊎ ((before ≡ done) × (r ≡ NoPlan) × Unreachable z count row wanted))
PlanAnswer before z count row wanted thetas (Ok _) written =
    (before ≡ done) × (¬ Unreachable z count row wanted) × Planned z count row wanted written

abbrev pub PlanAllows : (s helpers : List ℕ) (q : ℕ) (gammas rows thetas : List ℕ) (answer : Outcome) (written : List ℕ) → Type 0
PlanAllows s helpers q gammas rows thetas answer written =
    PlanAnswer (plan_before s helpers q gammas rows thetas) (sizes_of s) (length helpers * q) (repair_row (sizes_of s) s helpers q gammas)
    (wanted_row (sizes_of s) rows) thetas answer written
