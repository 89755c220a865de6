-- What is promised of responses.
use Rattle.std.specs.Prelude.{ℕ, ◌-◌, ◌<◌, ◌≤◌, ◌≡◌, List, length}
use Rattle.mask.specs.Masks.{mask_row, mask_coefficient, mask}
use Rattle.message.specs.Response.{response_bytes}
use Rattle.message.specs.Unmask.{unmasked}
use Rattle.sizes.specs.Lengths.{seed_length}

-- unmasking gives back what was masked, whatever the block, its tags, the node and the mask sums
abbrev pub Unmasks : Type 0
Unmasks =
    (n tags node : ℕ) (block tag total : ℕ → ℕ) (id key seed : List ℕ) → 3 ≤ n → length seed ≡ seed_length → (e : ℕ) → e < n - 2
    → unmasked n id key (response_bytes n tags node block tag (mask n (mask_coefficient key seed) (mask_row key id)) seed total) e ≡ block e
