use Rattle.lists.proofs.SliceLaws.{tab_filled}
use mathlib.Core.Path.{◌≡◌}
use native.Mathlib.Omega.{arith}
use Rattle.lists.proofs.CountLaws.{how_many_most}
use Rattle.sizes.proofs.SizeLaws.{ranged}
use Rattle.losses.proofs.ListLaws.{listed_none, listed_size, listed_skip, listed_room, listed_take, listed_all}
use Rattle.losses.proofs.list_losses.Goals as goal
use Rattle.losses.proofs.list_losses.Goals.{then-listed, else-listed}

pub marks-filled-requires : goal.marks-filled-requires
marks-filled-requires c =
    let records = c.args.records in
    (records.ranges, omega (arith, records.long))

pub loop-x-init : goal.loop-x-init
loop-x-init c = (
  omega arith,
  (ranged _ c.args.records.ranges).nodes_high,
  c.requires.0,
  listed_none _ _ _ c.requires.1 (tab_filled _ 0 (c.fill.ensures.after (λ y e. e))),
)

pub listed-requires : goal.listed-requires
listed-requires c = c.marks-filled.ensures

pub bounds-sets-count : goal.bounds-sets-count
bounds-sets-count c =
    let i = c.loop-x.invariant in
    omega (
      arith,
      listed_size _ _ _ i.1 i.2 i.0 i.3,
      listed_room _ _ _ i.1 i.2 (omega arith) c.set_at-set.ensures c.listed.ensures c.if-listed.true i.3,
    )

pub overflow_add-count : goal.overflow_add-count
overflow_add-count c =
    let l = c.loop-x in
    omega (arith, l.invariant.0, l.invariant.3.listing.number, how_many_most l.x l.invariant.3.test)

pub loop-x-preserved : goal.loop-x-preserved
loop-x-preserved c =
    let i = c.loop-x.invariant in
    let is = c.set_at-set.ensures in
    let tested = c.listed.ensures in (
      omega arith,
      i.1,
      i.2,
      elim c.if-listed.branch [
        | then-listed w ↦ listed_take _ _ _ i.1 i.2 (omega arith) is tested w.if-listed.true w.sets-is w.count-is i.3
        | else-listed w ↦ listed_skip _ _ _ is tested w.if-listed.false w.sets-is w.count-is i.3
      ],
    )

pub returns : goal.returns
returns c =
    let l = c.loop-x in
    let end : l.x ≡ 64 = omega (arith, l.invariant.0) in
    listed_all _ _ _ l.invariant.1 l.invariant.2 end l.invariant.3
