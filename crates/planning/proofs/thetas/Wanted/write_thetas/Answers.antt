use Prim.Native.Nat.{ℕ, ◌*◌}
use mathlib.Core.Path.{◌≡◌, ◌∙◌}
use native.Mathlib.Nat.{mul-le-mul_right}
use native.Mathlib.Omega.{arith}
use Rattle.lists.specs.Lists.{at}
use Rattle.lists.proofs.PutLaws.{put_same, grid_none, grid_more}
use Rattle.lists.proofs.SliceLaws.{put_written}
use Rattle.vector.specs.Vectors.{product}
use Rattle.vector.proofs.VectorLaws.{product_keys}
use Rattle.archive.specs.Plan.{wanted_row}
use Rattle.planning.proofs.thetas.Wanted.write_thetas.Goals as goal

pub loop-t-init : goal.loop-t-init
loop-t-init c = grid_none _ _ _ _

pub loop-t-preserved : goal.loop-t-preserved
loop-t-preserved c =
    let l = c.loop-t in
    let wanted = c.args.self.now in
    let first = l.t * wanted.z.places in
    let theta : ℕ → ℕ = λ k. product wanted.z.m (wanted_row wanted.z wanted.rows.now k) (at c.vector_of-v.result) in
    put_written wanted.z.places first theta l.thetas (omega arith) (omega (arith, mul-le-mul_right wanted.z.places c.loop-t-test.true)) c.write_block.ensures
    ∙ put_same wanted.z.places first theta _ l.thetas
    (λ k h. product_keys wanted.z.m _ _ _ (λ e i. c.vector_of-v.ensures e (omega (arith, wanted.width))))
    ∙ grid_more l.t wanted.z.places 0 _ _ l.invariant (omega arith)

pub returns : goal.returns
returns c =
    let all : c.loop-t.t ≡ c.args.blocks = omega arith in
    rw all at c.loop-t.invariant
