use Prim.Native.Nat.{◌+◌}
use native.Mathlib.Omega.{arith}
use Rattle.bits.proofs.PackLaws.{field_low}
use Rattle.message.specs.Challenge.{challenge_bits}
use Rattle.message.proofs.asked.coefficient_in.Goals as goal

pub returns : goal.returns
returns c =
    let a = c.args in
    omega (arith, field_low a.message.now (challenge_bits a.j + 3) 8)
