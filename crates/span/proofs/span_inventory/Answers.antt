use Rattle.archive.proofs.CountedLaws.{inventory_low}
use Rattle.span.proofs.span_inventory.Goals as goal

pub tell-requires : goal.tell-requires
tell-requires c = inventory_low _ _ c.inventory.ensures.answer
