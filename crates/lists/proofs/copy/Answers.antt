use mathlib.Core.Path.{refl, ◌∙◌}
use native.Mathlib.Omega.{arith}
use Rattle.lists.proofs.TabLaws.{elements}
use Rattle.lists.proofs.PutLaws.{put_none}
use Rattle.lists.proofs.ChainLaws.{item_more, items_all}
use Rattle.lists.proofs.copy.Goals as goal

pub loop-i-init : goal.loop-i-init
loop-i-init c = put_none _ _ _

pub loop-i-preserved : goal.loop-i-preserved
loop-i-preserved c = item_more _ _ _ c.loop-i.invariant refl

pub returns : goal.returns
returns c =
    items_all _ _ _ _ (omega arith) c.loop-i.auto.to c.loop-i.invariant
    ∙ elements _ _ c.requires
