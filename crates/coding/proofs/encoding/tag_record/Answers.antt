use mathlib.Core.Path.{◌≡◌, ap₂}
use mathlib.Core.List.{List, ◌++◌}
use Prim.Native.Nat.{ℕ}
use lib.ListN.{length}
use native.Mathlib.Omega.{arith}
use Rattle.sizes.proofs.SizeLaws.{ranged}
use Rattle.coding.proofs.encoding.tag_record.Goals as goal

pub overflow_add-z : goal.overflow_add-z
overflow_add-z c = omega (arith, ranged _ c.requires.0)

pub split_at_mut-block-requires : goal.split_at_mut-block-requires
split_at_mut-block-requires c = omega (arith, c.requires.1)

pub write_tags-requires : goal.write_tags-requires
write_tags-requires c = omega (arith, (ranged _ c.requires.0).tags_high, c.split_at_mut-block.ensures.back_len, c.requires.1)

pub returns : goal.returns
returns c =
    let front = c.split_at_mut-block.ensures.front in
    let count : length c.split_at_mut-block.result.1.now ≡ c.args.z.tags = omega (arith, c.split_at_mut-block.ensures.back_len, c.requires.1) in
    ap₂ (λ (x y : List ℕ). x ++ y) front (rw (front, count) at c.write_tags.ensures)
