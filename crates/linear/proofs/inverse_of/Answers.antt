use mathlib.Core.Path.{ap, ◌∙◌}
use Prim.Native.Nat.{ℕ}
use Rattle.field.specs.Field.{times, inverse_of}
use Rattle.field.proofs.TimesLaws.{times_comm}
use Rattle.field.proofs.InverseLaws.{times_inverse}
use Rattle.linear.proofs.inverse_of.Goals as goal

pub returns : goal.returns
returns c =
    let a = c.args.a in
    ap (λ (r : ℕ). times r a) c.inverse.ensures ∙ times_comm (inverse_of a) a ∙ times_inverse a c.requires c.ranges.a.fits
