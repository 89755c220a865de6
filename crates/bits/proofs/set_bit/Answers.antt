use Rattle.bits.proofs.WriteLaws.{bit_step}
use Rattle.std.proofs.Common.{◌+◌, arith}
use Rattle.bits.proofs.set_bit.Goals as goal

pub replaced-requires : goal.replaced-requires
replaced-requires c =
    let a = c.args in
    let step =
    bit_step a.s.now (a.from + a.i) a.v _ _ (λ i. omega (arith, c.type_inv.s i))
    (omega arith) (omega arith) c.bit_at-old.ensures c.weight.ensures _ _
    c.byte_of-j.ensures c.from.ensures in
    (omega (arith, step.0), omega (arith, step.1))

pub returns : goal.returns
returns c =
    let a = c.args in
    let step =
    bit_step a.s.now (a.from + a.i) a.v _ _ (λ i. omega (arith, c.slice_known-1.given i))
    (omega arith) (omega arith) c.bit_at-old.ensures c.weight.ensures _ _
    c.byte_of-j.ensures c.from.ensures in
    rw c.replaced.ensures step.2
