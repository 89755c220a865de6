use mathlib.Core.Path.{sym, ◌∙◌}
use Rattle.sizes.proofs.SizeLaws.{ranged}
use Rattle.losses.proofs.SetLaws.{sized_decides, unsized_decides}
use Rattle.losses.proofs.listed.Goals as goal

pub is_sized-requires : goal.is_sized-requires
is_sized-requires c = (ranged _ c.args.records.ranges).nodes_high

pub returns-then-is_sized : goal.returns-then-is_sized
returns-then-is_sized c =
    sized_decides c.args.records.z c.args.k c.args.set (sym c.is_sized.ensures ∙ c.if-is_sized.true) c.hurts.ensures

pub returns : goal.returns
returns c =
    unsized_decides c.args.records.z c.args.k c.args.set (sym c.is_sized.ensures ∙ c.if-is_sized.false)
