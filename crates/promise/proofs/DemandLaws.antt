-- Demand 3. Assumes nothing.
use Prim.Native.Nat.{ℕ, ◌+◌, ◌<◌}
use mathlib.Core.Path.{◌≡◌, sym, ap, ◌∙◌, subst}
use mathlib.Core.List.{List}
use native.Mathlib.Omega.{arith}
use lib.Seq.{ext_get_or}
use Rattle.lists.specs.Lists.{tab}
use Rattle.lists.proofs.TabLaws.{length_tab, tab_at}
use Rattle.lists.proofs.AnyLaws.{none_at}
use Rattle.answer.specs.Refusals.{afterwards}
use Rattle.answer.specs.Answer.{done}
use Rattle.answer.proofs.RefusalLaws.{accepted, same, after_done}
use Rattle.mask.specs.Setup.{setup_answer, setup_out}
use Rattle.sizes.specs.Lengths.{place_number, block_length}
use Rattle.archive.specs.Open.{open_answer, open_out}
use Rattle.archive.specs.Calls.{Call, archive_answers, archive_run}
use Rattle.archive.specs.Read.{row_in}
use Rattle.sizes.proofs.SizeLaws.{ranged}
use Rattle.promise.specs.Table.{Place, filled, Table, all_empty, table_answers, table_run}
use Rattle.promise.specs.Image.{place_record, image}
use Rattle.promise.specs.Demand3.{Given, setting, Admitted, HoldsCoded, Demand, Demand3}
use Rattle.promise.proofs.TableLaws.{Fine, AllFine, run_fine}
use Rattle.promise.proofs.ImageLaws.{Fit, image_mark, image_byte, record_block, record_tag, record_row, opened_is}
use Rattle.promise.proofs.RunLaws.{runs}
use Rattle.promise.proofs.AuditLaws.{Keys, audit_holds, altered_holds, unproved_holds}
use Rattle.promise.proofs.ReadAndInventoryLaws.{inventory, read}

-- ---- what Open and Setup tested

pub fits : (g : Given) → Fit (setting g)
unfolding open_answer
fits g =
    let o = accepted _ _ _ g.open_done in
    record { laid = none_at _ 0 o.0; ranged = ranged g.z (none_at _ 1 o.0); id_size = same _ _ (none_at _ 0 (accepted _ _ _ o.1).0) }

pub keys : (g : Given) → Keys g
unfolding setup_answer setup_out afterwards
keys g =
    let lengths = (accepted _ _ _ (accepted _ _ _ g.setup_done).1).0 in
    record {
      tag_size = same _ _ (none_at _ 0 lengths);
      mask_size = same _ _ (none_at _ 1 lengths);
      auxiliary_are = rw g.setup_done;
    }

-- whatever Open was lent
open_is : (g : Given) (lent : List ℕ) → open_answer g.layout g.z g.id lent ≡ done
    → open_out g.layout g.z g.id lent ≡ image (setting g) all_empty
unfolding open_out
open_is g lent done = after_done _ _ done ∙ opened_is (setting g)

-- ---- a filled place of the image

module _ (g : Given) (t : Table) (node place : ℕ) (row : List ℕ) (h : node < g.z.nodes) (hp : place < g.z.places) (e : t node place ≡ filled row) where
  abbrev F : Fit (setting g)
  F = fits g

  row_back : Fine g.z (filled row) → tab g.z.m (row_in g.z (image (setting g) t) (place_number g.z node place)) ≡ row
  row_back f =
      ext_get_or 0 _ row (length_tab g.z.m _ ∙ sym f.0) (λ i l.
      let k : i < g.z.m = rw length_tab at l in
      tab_at g.z.m _ i k ∙ image_byte (setting g) F t node place (g.z.n + i) h hp (omega arith)
      ∙ ap (λ (x : Place). place_record (setting g) x (g.z.n + i)) e ∙ record_row (setting g) F t (filled row) f i k)

  coded_back : HoldsCoded g (image (setting g) t) (place_number g.z node place) row
  coded_back =
      record {
        block = λ a l. image_byte (setting g) F t node place a h hp (omega arith) ∙ ap (λ (x : Place). place_record (setting g) x a) e
            ∙ record_block (setting g) F t (filled row) a l;
        tag = λ s l. image_byte (setting g) F t node place (block_length g.z + s) h hp (omega arith)
            ∙ ap (λ (x : Place). place_record (setting g) x (block_length g.z + s)) e ∙ record_tag (setting g) F t row s;
      }

-- ---- the claim

pub on_image : (g : Given) (calls : List Call) (t : Table) → AllFine g.z t
    → archive_answers (open_out g.layout g.z g.id g.lent) calls ≡ table_answers g.z all_empty calls → Demand g calls t (image (setting g) t)
on_image g calls t fine answers =
    record {
      answers = answers;
      marks = image_mark (setting g) (fits g) t;
      rows = λ node place row h hp e. row_back g t node place row h hp e (subst (Fine g.z) e (fine node place));
      inventory = inventory (setting g) (fits g) t fine;
      places = coded_back g t;
      audits = audit_holds g (fits g) (keys g) t;
      altered = altered_holds g (fits g) (keys g) t;
      unproved = unproved_holds g (fits g) (keys g) t;
      read = read (setting g) (fits g) t fine g.file_size g.file_bytes;
    }

-- calls on an archive as Open writes it, whatever it was lent: the table's answers, and the image of the table after them
pub from_new : (g : Given) (lent : List ℕ) → open_answer g.layout g.z g.id lent ≡ done → (calls : List Call) → Admitted g all_empty calls
    → (archive_answers (open_out g.layout g.z g.id lent) calls ≡ table_answers g.z all_empty calls)
    × (archive_run (open_out g.layout g.z g.id lent) calls ≡ image (setting g) (table_run g.z all_empty calls))
from_new g lent done calls a = rw (open_is g lent done) (runs g (fits g) all_empty calls a)

pub run_is : (g : Given) (calls : List Call) → Admitted g all_empty calls
    → archive_run (open_out g.layout g.z g.id g.lent) calls ≡ image (setting g) (table_run g.z all_empty calls)
run_is g calls a = (from_new g g.lent g.open_done calls a).1

pub demand3 : Demand3
demand3 g calls a =
    rw (run_is g calls a)
    (on_image g calls (table_run g.z all_empty calls) (run_fine g all_empty (λ node place. tt) calls a) (from_new g g.lent g.open_done calls a).0)
