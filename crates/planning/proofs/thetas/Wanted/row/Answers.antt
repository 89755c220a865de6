use Prim.Native.Nat.{◌+◌, ◌*◌}
use mathlib.Core.Path.{refl, ◌∙◌}
use Rattle.linear.proofs.KeptLaws.{kept_part}
use Rattle.planning.proofs.WantedLaws.{wanted_fits}
use Rattle.planning.proofs.thetas.Wanted.row.Goals as goal

pub returns : goal.returns
returns c =
    let wanted = c.args.self.now in
    let first = c.args.k * wanted.z.m in
    c.row_from.ensures
    ∙ kept_part first (first + wanted.z.m) wanted.rows.now wanted.z.m refl (wanted_fits wanted.z c.args.k c.requires wanted.long)
