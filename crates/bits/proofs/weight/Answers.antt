use Prim.Native.Nat.{ℕ, ◌^◌}
use mathlib.Core.Path.{ap, ◌∙◌}
use native.Mathlib.Nat.{one-mul}
use native.Mathlib.Omega.{arith}
use lib.Pow.{shl_exact}
use Rattle.bits.proofs.weight.Goals as goal

pub returns : goal.returns
returns c =
    let e = c.bits_after.result in
    shl_exact {a = 1} 1 e 64 (omega arith) (omega arith) ∙ one-mul (2 ^ e) ∙ ap (λ (x : ℕ). 2 ^ x) c.bits_after.ensures
