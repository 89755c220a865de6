use mathlib.Core.Path.{◌≡◌, ap, ◌∙◌}
use Prim.Native.Nat.{◌+◌}
use native.Mathlib.Omega.{arith}
use Rattle.lists.specs.Lists.{at}
use Rattle.field.specs.Field.{power}
use Rattle.field.specs.PrivateTables.{logs_start}
use Rattle.field.proofs.tables.Tables.log.Goals as goal

pub returns : goal.returns
returns c =
    let a = c.args.a in
    let t = c.args.self.now.filled in
    let e : c.from-2.result ≡ at c.args.self.now.entries (a + logs_start) = cc in
    (omega (arith, e, t.exponent a c.ranges.a.fits), λ h. ap (power 3) e ∙ t.logarithm a h c.ranges.a.fits)
