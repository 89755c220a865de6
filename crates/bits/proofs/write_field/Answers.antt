use native.Mathlib.Omega.{arith}
use mathlib.Core.Path.{◌≡◌, refl, ap, ◌∙◌}
use lib.ListN.{length}
use Rattle.bits.specs.Fields.{with_field}
use Rattle.bits.proofs.WriteLaws.{write_length, bits_none, bits_more}
use Rattle.bits.proofs.write_field.Goals as goal

pub loop-i-init : goal.loop-i-init
loop-i-init c = (omega arith, refl, bits_none _ _ _ _ (λ i. omega (arith, c.type_inv.s i)))

pub loop-i-preserved : goal.loop-i-preserved
loop-i-preserved c =
    let l = c.loop-i in
    let s = c.args.s.now in
    let wrote = c.set_bit.ensures in
    (omega arith, ap length wrote ∙ write_length _ _ _ _ ∙ l.invariant.1, bits_more s _ _ _ _ _ _ _ wrote l.invariant.2 refl)

pub returns : goal.returns
unfolding with_field
returns c = let e : c.loop-i.i ≡ c.args.width = omega arith in cc
