use Prim.Native.Nat.{ℕ, ◌<◌, ◌≤◌}
use mathlib.Core.Path.{◌≡◌, refl, sym, subst, ◌∙◌}
use mathlib.Core.Bool.{true, false}
use lib.Dec.{ltb}
use native.Mathlib.Omega.{arith}
use borrow.Author.Tests.{lt-ltb, le-ltb}
use Rattle.sizes.specs.declared.Sizes.{Sizes}
use Rattle.answer.proofs.RefusalLaws.{refused, passed, differs_same, differs_other}
use Rattle.sizes.proofs.SizeLaws.{not_sizes_outside}
use Rattle.archive.specs.Losses.{Losses}
use Rattle.archive.proofs.GoodArchiveLaws.{good_length}
use Rattle.archive.proofs.CallLaws.{read_sizes, read_length}
use Rattle.losses.proofs.losses.Goals as goal

pub returns-then-bad_archive : goal.returns-then-bad_archive
returns-then-bad_archive c = (refl, refused _ _ (cc))

pub sizes_in-z-requires : goal.sizes_in-z-requires
sizes_in-z-requires c = omega (arith, good_length _ (sym c.bad_archive.ensures ∙ c.if-bad_archive.false))

-- k against the number of nodes that was read
above : {z z' : Sizes} {k : ℕ} → z ≡ z' → z.nodes < k → ltb z'.nodes k ≡ true
above {k = k} read h = subst (λ (x : Sizes). ltb x.nodes k ≡ true) read (lt-ltb _ _ h)

not_above : {z z' : Sizes} {k : ℕ} → z ≡ z' → k ≤ z.nodes → ltb z'.nodes k ≡ false
not_above {k = k} read h = subst (λ (x : Sizes). ltb x.nodes k ≡ false) read (le-ltb _ _ h)

pub returns-then-k-z : goal.returns-then-k-z
returns-then-k-z c =
    (refl, passed _ _ (cc) ∙ refused _ _ (above c.sizes_in-z.ensures c.if-k-z.true))

pub returns-then-sets-ne-LIST_LENGTH : goal.returns-then-sets-ne-LIST_LENGTH
returns-then-sets-ne-LIST_LENGTH c =
    let few = not_above c.sizes_in-z.ensures c.if-k-z.false in
    (refl, passed _ _ (cc) ∙ passed _ _ few ∙ refused _ _ (differs_other c.if-sets-ne-LIST_LENGTH.true))

pub invariant_of-records : goal.invariant_of-records
invariant_of-records c =
    let good = sym c.bad_archive.ensures ∙ c.if-bad_archive.false in
    let read = c.sizes_in-z.ensures in
    record {
      ranges = not_sizes_outside _ (read_sizes _ read good);
      long = read_length _ read good;
      all_bytes = λ i l. (c.type_inv.archive i).fits;
    }

pub list_losses-requires : goal.list_losses-requires
list_losses-requires c = (c.if-k-z.false, c.if-sets-ne-LIST_LENGTH.false)

pub returns : goal.returns
returns c =
    let few = not_above c.sizes_in-z.ensures c.if-k-z.false in (
      passed _ _ (cc) ∙ passed _ _ few ∙ passed _ _ (differs_same c.if-sets-ne-LIST_LENGTH.false),
      subst (λ (z : Sizes). Losses z c.args.archive.now c.args.k c.list_losses.result c.list_losses.new.sets) c.sizes_in-z.ensures c.list_losses.ensures,
    )
