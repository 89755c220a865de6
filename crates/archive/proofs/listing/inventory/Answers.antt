use mathlib.Core.Path.{sym, ◌∙◌}
use native.Mathlib.Omega.{arith}
use Rattle.answer.proofs.RefusalLaws.{refused, passed, differs_same, differs_other, after_done, after_refused, count_written, count_kept}
use Rattle.sizes.proofs.SizeLaws.{not_sizes_outside}
use Rattle.sizes.proofs.PlaceLaws.{count_low}
use Rattle.archive.specs.Inventory.{inventory_answer, inventory_out}
use Rattle.archive.proofs.GoodArchiveLaws.{good_length}
use Rattle.archive.proofs.CallLaws.{read_sizes, read_length}
use Rattle.archive.proofs.ListingLaws.{count_read}
use Rattle.archive.proofs.listing.inventory.Goals as goal

pub returns-then-bad_archive : goal.returns-then-bad_archive
unfolding inventory_answer inventory_out
returns-then-bad_archive c =
    record {
      answer = count_kept _ (refused _ _ (cc));
      output = sym (after_refused _ _ (refused _ _ (cc)));
    }

pub sizes_in-z-requires : goal.sizes_in-z-requires
sizes_in-z-requires c = omega (arith, good_length _ (sym c.bad_archive.ensures ∙ c.if-bad_archive.false))

pub overflow_mul-z : goal.overflow_mul-z
overflow_mul-z c = omega (arith, count_low _ (read_sizes _ c.sizes_in-z.ensures (cc)))

pub returns-then-list-z : goal.returns-then-list-z
unfolding inventory_answer inventory_out
returns-then-list-z c =
    let counted = count_read c.sizes_in-z.ensures in
    record {
      answer = count_kept _ (passed _ _ (cc) ∙ refused _ _ (differs_other (λ e. c.if-list-z.true (e ∙ sym counted))));
      output = sym (after_refused _ _ (passed _ _ (cc) ∙ refused _ _ (differs_other (λ e. c.if-list-z.true (e ∙ sym counted)))));
    }

pub invariant_of-records : goal.invariant_of-records
invariant_of-records c =
    let read = c.sizes_in-z.ensures in
    let good = sym c.bad_archive.ensures ∙ c.if-bad_archive.false in
    record {
      ranges = not_sizes_outside _ (read_sizes _ read good);
      long = read_length _ read good;
      all_bytes = λ i l. (c.type_inv.archive i).fits;
    }

pub list_filled-requires : goal.list_filled-requires
list_filled-requires c = c.if-list-z.false

pub returns : goal.returns
unfolding inventory_answer inventory_out
returns c =
    let counted = count_read c.sizes_in-z.ensures in
    let made = c.list_filled.ensures in
    record {
      answer = count_written (passed _ _ (cc) ∙ passed _ _ (differs_same (c.if-list-z.false ∙ counted))) (rw (← c.sizes_in-z.ensures) made.number);
      output = (rw (← c.sizes_in-z.ensures) made.output) ∙ sym (after_done _ _ (passed _ _ (cc) ∙ passed _ _ (differs_same (c.if-list-z.false ∙ counted))));
    }
