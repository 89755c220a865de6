use mathlib.Core.Path.{◌∙◌}
use Prim.Native.Nat.{◌+◌, ◌*◌}
use Rattle.linear.proofs.KeptLaws.{kept_part}
use Rattle.choice.proofs.rows.Rows.row.Goals as goal
use mathlib.Core.Path.{refl}

pub returns : goal.returns
returns c =
    let rows = c.args.self.now in
    let first = rows.start + c.args.k * rows.stride in
    c.row_from.ensures ∙ kept_part first (first + rows.m) rows.bytes.now rows.m refl (rows.standing.2 c.args.k c.requires)
