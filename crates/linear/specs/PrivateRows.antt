-- Rows as they are kept.
use Rattle.std.specs.Prelude.{ℕ, ltb}
use Rattle.lists.specs.Lists.{pick, tab}
use Rattle.linear.specs.declared.rows.Row.{Row}

-- a row of m elements as it is kept: sixteen bytes, its elements in the first m and zeros behind them (SCHEME, Sizes)
unfoldable pub kept : (m : ℕ) (v : ℕ → ℕ) → Row
kept m v = record { bytes = tab 16 (λ i. pick (ltb i m) (v i) 0) }
