-- Inventory of any archive lists each filled place once, and nothing else. Assumes nothing.
use Rattle.answer.proofs.RefusalLaws.{accepted, after_done, counted_done}
use Rattle.archive.specs.Layout.{sizes_of, mark_at}
use Rattle.archive.specs.Inventory.{shelf, inventory_before, inventory_answer, inventory_out}
use Rattle.archive.proofs.GoodArchiveLaws.{good_sizes}
use Rattle.archive.proofs.ShelfLaws.{shelf_listed, shelf_rising}
use Rattle.promise.specs.Companions.{InventoryLists}

pub inventory_lists : InventoryLists
unfolding inventory_answer inventory_out
inventory_lists s out count e =
    let d = counted_done (inventory_before (sizes_of s) s out) e in
    let R = good_sizes s (accepted _ _ _ d.0).0 in
    rw (after_done out (shelf (sizes_of s) (mark_at s)) d.0, ← d.1) (shelf_listed (sizes_of s) R (mark_at s), shelf_rising (sizes_of s) R (mark_at s))
