use Rattle.promise.proofs.InventoryLists.{inventory_lists}
use Rattle.promise.proofs.inventory_lists.Goals as goal

pub returns : goal.returns
returns c = inventory_lists
