use Rattle.lists.proofs.SliceLaws.{tab_filled}
use mathlib.Core.Path.{refl, sym, ◌∙◌}
use native.Mathlib.Omega.{arith}
use Rattle.lists.proofs.ListingLaws.{listing_size, listing_none, listing_skip, listing_take}
use Rattle.sizes.proofs.PlaceLaws.{count_low}
use Rattle.sizes.proofs.SizeLaws.{ranged}
use Rattle.archive.proofs.ListingLaws.{parts_low, code_is, listing_all}
use Rattle.archive.proofs.listing.list_filled.Goals as goal
use Rattle.archive.proofs.listing.list_filled.Goals.{then-marked, else-marked}

pub overflow_mul-k-end : goal.overflow_mul-k-end
overflow_mul-k-end c =
    omega (arith, count_low _ (ranged _ c.args.records.ranges))

pub loop-k-init : goal.loop-k-init
loop-k-init c = (
  omega arith,
  refl,
  refl,
  listing_none _ _ _ c.requires (tab_filled _ 0 (c.fill.ensures.after (λ y e. e))),
  omega arith,
)

pub marked-requires : goal.marked-requires
marked-requires c =
    (omega (arith, count_low _ (ranged _ c.args.records.ranges), c.loop-k.invariant.2), omega (arith, c.args.records.long))

pub nonzero_div-list : goal.nonzero_div-list
nonzero_div-list c =
    omega (arith, (ranged _ c.args.records.ranges).places_low, c.loop-k.invariant.1)

pub overflow_mul-list : goal.overflow_mul-list
overflow_mul-list c =
    let l = c.loop-k in
    omega (arith, parts_low _ (ranged _ c.args.records.ranges) l.k l.invariant.1 (omega arith))

pub nonzero_rem-list : goal.nonzero_rem-list
nonzero_rem-list c =
    omega (arith, (ranged _ c.args.records.ranges).places_low, c.loop-k.invariant.1)

pub overflow_add-list : goal.overflow_add-list
overflow_add-list c =
    let l = c.loop-k in
    omega (arith, parts_low _ (ranged _ c.args.records.ranges) l.k l.invariant.1 (omega arith))

pub bounds-list-count : goal.bounds-list-count
bounds-list-count c =
    let i = c.loop-k.invariant in
    omega (arith, i.4, listing_size _ _ _ (omega (arith, i.4)) i.3)

pub overflow_add-count : goal.overflow_add-count
overflow_add-count c =
    let i = c.loop-k.invariant in
    omega (arith, i.4, count_low _ (ranged _ c.args.records.ranges))

pub loop-k-preserved : goal.loop-k-preserved
loop-k-preserved c =
    let R = ranged _ c.args.records.ranges in
    let i = c.loop-k.invariant in
    let mark = c.marked.ensures in (
      omega arith,
      i.1,
      i.2,
      elim c.if-marked.branch [
        | then-marked w ↦ listing_take _ _ _ (sym mark ∙ w.if-marked.true) (omega (arith, i.4)) (code_is _ R _ i.1 (omega arith)) w.list-is w.count-is i.3
        | else-marked w ↦ listing_skip _ _ _ (sym mark ∙ w.if-marked.false) w.list-is w.count-is i.3
      ],
      elim c.if-marked.branch [ then-marked w ↦ omega (arith, i.4, w.count-is) | else-marked w ↦ omega (arith, i.4, w.count-is) ],
    )

pub returns : goal.returns
returns c =
    record {
      number = (listing_all (c.args.records.z) _ (omega arith) c.loop-k.invariant.3).0;
      output = (listing_all (c.args.records.z) _ (omega arith) c.loop-k.invariant.3).1;
    }
