use Prim.Native.Nat.{◌+◌, ◌-◌, ◌*◌, ◌≤◌}
use mathlib.Core.Path.{◌≡◌}
use native.Mathlib.Omega.{arith}
use lib.ListN.{length}
use Rattle.lists.proofs.PartLaws.{part}
use Rattle.lists.proofs.PutLaws.{grid_none}
use Rattle.sizes.proofs.SizeLaws.{not_sizes_outside}
use Rattle.archive.proofs.GoodArchiveLaws.{good_length}
use Rattle.archive.proofs.CallLaws.{read_sizes}
use Rattle.coding.proofs.CombinedLaws.{part_long, combined_alone, row_written}
use Rattle.coding.proofs.RepairLaws.{blocks_known, turn, block_made, blocks_made}
use Rattle.coding.proofs.repairing.repair_blocks.Goals as goal

pub sizes_in-z-requires : goal.sizes_in-z-requires
sizes_in-z-requires c = omega (arith, good_length _ c.requires.0)

pub record_length-len-requires : goal.record_length-len-requires
record_length-len-requires c = not_sizes_outside _ (read_sizes _ c.sizes_in-z.ensures c.requires.0)

pub loop-t-init : goal.loop-t-init
loop-t-init c =
    let a = c.args in
    let p = c.requires in
    (grid_none _ _ _ _, blocks_known a.helpers.now a.q a.gammas.now a.scratch.now c.sizes_in-z.ensures c.record_length-len.ensures.0 p.0 p.1 p.2 p.3 p.4 p.5 p.6)

pub record_start-first-requires : goal.record_start-first-requires
record_start-first-requires c =
    let l = c.loop-t in
    (not_sizes_outside _ l.invariant.1.sizes, (turn l.invariant.1 l.t (omega arith) c.from.ensures).number)

pub slice_bounds-records-end : goal.slice_bounds-records-end
slice_bounds-records-end c =
    let l = c.loop-t in
    omega (arith, (turn l.invariant.1 l.t (omega arith) c.from.ensures).records, c.record_start-first.ensures)

pub loop-t-preserved : goal.loop-t-preserved
loop-t-preserved c =
    let i = c.loop-t.invariant in
    let t = c.loop-t.t in
    let len = c.record_length-len.result in
    let end = (t + 1) * len in
    let k = turn i.1 t (omega arith) c.from.ensures in
    let first : t * len + len ≡ end = omega arith in
    let fits : end ≤ length c.loop-t.scratch = omega (arith, k.block) in
    let whole : 0 + end ≤ length c.args.scratch.now = omega (arith, k.block) in
    let place : t * len ≡ 0 + t * len = omega arith in
    let size : end - t * len ≡ len = omega arith in
    let made =
    combined_alone len _ _ _ (part (t * len) end c.loop-t.scratch) (part_long (t * len) len end c.loop-t.scratch first fits)
    (c.fill.ensures.after (λ y e. e)) c.combine.ensures in
    (row_written t len 0 _ _ c.args.scratch.now whole i.0 place size made (λ e h. block_made i.1 t e h c.from.ensures c.record_start-first.ensures), i.1)

pub returns : goal.returns
returns c =
    let i = c.loop-t.invariant in
    blocks_made i.1 c.sizes_in-z.ensures (omega arith) i.0
