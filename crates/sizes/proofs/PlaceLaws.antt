-- The numbers of places, and the length of a file, of sizes in range. Assumes nothing.
use Prim.Native.Nat.{ℕ, ◌+◌, ◌*◌, ◌/◌, ◌%◌, ◌<◌, ◌≤◌}
use native.Mathlib.Nat.{mul-le-mul, mul-le-mul_right, mod-lt, div-lt_iff_lt-mul}
use native.Mathlib.Omega.{arith}
use Rattle.sizes.specs.declared.Sizes.{Sizes}
use Rattle.sizes.proofs.SizeLaws.{Ranged}
use Rattle.sizes.specs.Lengths.{n_most, m_most, places_most, nodes_most, mark_count, place_count, file_length, record_length, archive_length, place_number, record_start}

module _ (z : Sizes) (R : Ranged z) where
  pub number_low : (node place : ℕ) → node < z.nodes → place < z.places → place_number z node place < place_count z
  number_low node place h hp = omega (arith, mul-le-mul_right z.places h)

  pub count_low : place_count z ≤ mark_count
  count_low = mul-le-mul {n₂ = nodes_most} {m₂ = places_most} R.nodes_high R.places_high

  -- the mark of a place, and those of a node's places
  pub number_mark : (node place : ℕ) → node < z.nodes → place < z.places → place_number z node place < mark_count
  number_mark node place h hp = omega (arith, number_low node place h hp, count_low)

  pub marks_in : (node : ℕ) → node < z.nodes → node * z.places + z.places ≤ mark_count
  marks_in node h = omega (arith, mul-le-mul_right z.places h, count_low)

  pub file_low : file_length z ≤ m_most * n_most
  file_low = mul-le-mul {n₂ = m_most} {m₂ = n_most} R.m_high (omega (arith, R.n_high))

  -- the node and the place of a number
  pub node_of : (k : ℕ) → k < place_count z → k / z.places < z.nodes
  node_of k h = (div-lt_iff_lt-mul {k = z.places} R.places_low).1 h

  pub place_of : (k : ℕ) → k % z.places < z.places
  place_of k = mod-lt k R.places_low

-- the places of a node are among those there are
pub node_fits : (z : Sizes) (node : ℕ) → node < z.nodes → node * z.places + z.places ≤ place_count z
node_fits z node h = omega (arith, mul-le-mul_right z.places h)

-- the record of a place lies in the archive
pub record_fits : (z : Sizes) (k : ℕ) → k < place_count z → record_start z k + record_length z ≤ archive_length z
record_fits z k h = omega (arith, mul-le-mul_right {m = k + 1} {n = place_count z} (record_length z) (omega arith))

-- and so do the records of a node
pub node_in : (z : Sizes) (node : ℕ) → node < z.nodes → record_start z (node * z.places) + z.places * record_length z ≤ archive_length z
node_in z node h = omega (arith, mul-le-mul_right (z.places * record_length z) h)
