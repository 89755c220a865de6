use Prim.Native.Nat.{◌≤◌}
use mathlib.Core.Path.{◌≡◌}
use Rattle.lists.proofs.ListingLaws.{Listing}
use Rattle.sizes.specs.Lengths.{place_count}
use Rattle.archive.specs.Layout.{mark_at}
use Rattle.archive.specs.Inventory.{place_code}
use Rattle.archive.proofs.listing.list_filled.Given as goal

-- The loop has listed the filled places among the first k. Assumes nothing.
abbrev pub invariant-loop-k : goal.invariant-loop-k
invariant-loop-k l =
    (l.k ≤ l.k-end) × (l.places ≡ l.records.z.places) × (l.k-end ≡ place_count l.records.z)
    × Listing (place_count l.records.z) (place_code l.records.z) (mark_at l.records.bytes.now) l.k l.count l.list × (l.count ≤ l.k)
