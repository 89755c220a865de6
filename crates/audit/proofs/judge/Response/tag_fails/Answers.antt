use Prim.Native.Nat.{ℕ, ◌+◌, ◌*◌, ◌/◌, ◌≤◌}
use mathlib.Core.Path.{refl, sym}
use native.Mathlib.Omega.{arith}
use lib.ListN.{replicate}
use lib.Seq.{length-take-le}
use Rattle.lists.proofs.SliceLaws.{front_written}
use Rattle.sizes.specs.declared.Sizes.{Sizes}
use Rattle.sizes.proofs.SizeLaws.{ranged}
use Rattle.audit.proofs.JudgeLaws.{fails_filled}
use Rattle.audit.proofs.judge.Response.tag_fails.Goals as goal

-- the bytes of whole blocks that hold n + m elements
abbrev drawn : Sizes → ℕ
drawn z = ((z.n + z.m) / 64 + 1) * 64

drawn_low : (z : Sizes) → z.n ≤ 1024 → z.m ≤ 16 → drawn z ≤ 1088
drawn_low z n m = omega arith

pub overflow_add-blocks : goal.overflow_add-blocks
overflow_add-blocks c = let r = ranged _ c.args.self.now.ranges in omega arith

pub overflow_add-blocks-2 : goal.overflow_add-blocks-2
overflow_add-blocks-2 c = let r = ranged _ c.args.self.now.ranges in omega arith

pub overflow_mul-size : goal.overflow_mul-size
overflow_mul-size c = let r = ranged _ c.args.self.now.ranges in omega arith

pub slice_bounds-vector-end : goal.slice_bounds-vector-end
slice_bounds-vector-end c = let r = ranged _ c.args.self.now.ranges in drawn_low c.args.self.now.z r.n_high r.m_high

pub slice_bounds-key_vector_into-end : goal.slice_bounds-key_vector_into-end
slice_bounds-key_vector_into-end c =
    let r = ranged _ c.args.self.now.ranges in
    sym (length-take-le {A = ℕ} (drawn c.args.self.now.z) (replicate 1088 0) (drawn_low c.args.self.now.z r.n_high r.m_high))

pub key_vector_into-requires : goal.key_vector_into-requires
key_vector_into-requires c =
    let r = ranged _ c.args.self.now.ranges in
    let size = length-take-le {A = ℕ} (drawn c.args.self.now.z) (replicate 1088 0) (drawn_low c.args.self.now.z r.n_high r.m_high) in
    (omega (arith, c.requires, r.tags_high), omega (arith, size))

pub returns : goal.returns
returns c =
    let r = ranged _ c.args.self.now.ranges in
    let size = drawn c.args.self.now.z in
    fails_filled _ _ _ _ _ _ c.args.s size (omega arith) (drawn_low c.args.self.now.z r.n_high r.m_high)
    (front_written size _ _ {k = size} refl (drawn_low c.args.self.now.z r.n_high r.m_high) c.key_vector_into.ensures) c.fails_at.ensures
