use mathlib.Core.Path.{sym, ◌∙◌}
use native.Mathlib.Omega.{arith}
use Rattle.lists.proofs.PutLaws.{put_none}
use Rattle.lists.proofs.TabLaws.{tab_same}
use Rattle.lists.proofs.SliceLaws.{tab_filled}
use Rattle.lists.proofs.ChainLaws.{item_more, items_all}
use Rattle.planning.proofs.WantedLaws.{wanted_product, zero_sees}
use Rattle.planning.proofs.thetas.Wanted.write_block.Goals as goal

pub returns-then-all_zero : goal.returns-then-all_zero
returns-then-all_zero c =
    let m = c.args.self.now.z.m in
    tab_filled _ 0 (rw c.requires at c.fill.ensures.after (λ y e. e))
    ∙ sym (tab_same _ _ _ (λ k h. zero_sees m _ _ (sym c.all_zero.ensures ∙ c.if-all_zero.true)))

pub loop-k-init : goal.loop-k-init
loop-k-init c = put_none _ _ _

pub loop-k-preserved : goal.loop-k-preserved
loop-k-preserved c =
    let wanted = c.args.self.now in
    item_more _ _ _ c.loop-k.invariant
    (c.seen.ensures ∙ wanted_product wanted.z c.loop-k.k wanted.rows.now wanted.width c.row.ensures _)

pub returns : goal.returns
returns c = items_all _ _ _ c.loop-k.k (omega arith) (omega arith) c.loop-k.invariant
