-- What the private contracts cite: where the rows of an archive stand.
use Rattle.std.specs.Prelude.{ℕ, ◌+◌, ◌≡◌, List}
use Rattle.sizes.specs.declared.Sizes.{Sizes}
use Rattle.sizes.specs.Lengths.{header_length, place_count, record_length}
use Rattle.choice.specs.declared.rows.Rows.{Rows}

pub record RowsIn (z : Sizes) (s : List ℕ) (rows : Rows) : Type 0 where
  pub bytes : rows.bytes.now ≡ s
  pub start : rows.start ≡ header_length + z.n
  pub stride : rows.stride ≡ record_length z
  pub count : rows.count ≡ place_count z
  pub m : rows.m ≡ z.m
