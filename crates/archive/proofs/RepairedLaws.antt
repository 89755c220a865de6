-- Rows after Repair, on any archive that is not bad. Assumes nothing.
use Prim.Native.Nat.{ℕ, ◌+◌, ◌*◌, ◌/◌, ◌%◌, ◌<◌, ◌≤◌}
use mathlib.Core.Path.{◌≡◌, sym, ap, ◌∙◌}
use mathlib.Core.Bool.{Bool}
use mathlib.Core.List.{List}
use native.Mathlib.Nat.{div-add-mod'}
use native.Mathlib.Omega.{arith}
use lib.ListN.{length}
use borrow.Author.Tests.{leb-false}
use Rattle.lists.specs.Lists.{at}
use Rattle.lists.proofs.AnyLaws.{none_at}
use Rattle.lists.proofs.OverLaws.{over_in}
use Rattle.answer.proofs.RefusalLaws.{accepted, after_done}
use Rattle.field.specs.Field.{times}
use Rattle.field.proofs.SumLaws.{sum_same, sum_rows}
use Rattle.sizes.specs.declared.Sizes.{Sizes}
use Rattle.vector.specs.Vectors.{mixed}
use Rattle.sizes.specs.Lengths.{record_length, archive_length, place_number}
use Rattle.sizes.proofs.PlaceLaws.{node_fits}
use Rattle.archive.specs.Layout.{sizes_of, byte_in, stored}
use Rattle.archive.specs.Repair.{coefficient, repair_byte, target_byte}
use Rattle.archive.specs.Calls.{answer_for, archive_answer, effect_for, archive_after}
use Rattle.archive.specs.Repaired.{RepairedRows}
use Rattle.archive.proofs.GoodArchiveLaws.{good_length}
use Rattle.archive.proofs.StoreLaws.{stored_byte}

-- a byte of a node's record that was stored
node_byte : (z : Sizes) (mark : ℕ → Bool) (node j p : ℕ) (rec : ℕ → ℕ → ℕ) (s : List ℕ) → length s ≡ archive_length z → node < z.nodes → j < z.places
    → p < record_length z → byte_in z (stored z mark (place_number z node 0) z.places rec s) (place_number z node j) p ≡ rec j p
node_byte z mark node j p rec s long h hj hp =
    let from : ℕ = place_number z node 0 in
    let here : place_number z node j ≡ from + j = omega arith in
    rw here (stored_byte z mark from z.places rec s (omega (arith, node_fits z node h)) long (from + j) p hp)
    ∙ over_in from z.places (λ i. rec i p) (λ i. byte_in z s i p) j hj

pub repaired_rows : RepairedRows
unfolding archive_answer answer_for archive_after effect_for target_byte repair_byte mixed byte_in
repaired_rows s target helpers q gammas thetas scratch done k i h hi =
    let z : Sizes = sizes_of s in
    let a = accepted _ _ _ done in
    let there = (accepted _ _ _ (accepted _ _ _ (accepted _ _ _ a.1).1).1).0 in
    ap (λ (t : List ℕ). byte_in z t (place_number z target k) (z.n + i)) (after_done _ _ done)
    ∙ node_byte z _ target k (z.n + i) _ s (good_length s a.0) (leb-false _ _ (none_at _ 0 there)) h (omega arith)

-- what Repair makes for place k, as one combination of the repair blocks in a row
pub target_mixed : (z : Sizes) (s helpers : List ℕ) (q : ℕ) (gammas thetas : List ℕ) (k e : ℕ) → 1 ≤ q
    → mixed (length helpers * q) (λ t. at thetas (t * z.places + k)) (λ t. repair_byte z s helpers q gammas (t / q) (t % q)) e
    ≡ target_byte z s helpers q gammas thetas k e
unfolding mixed target_byte
target_mixed z s helpers q gammas thetas k e low =
    sum_same (length helpers * q) _ _
    (λ t h. ap (λ (x : ℕ). times (at thetas (x * z.places + k)) (repair_byte z s helpers q gammas (t / q) (t % q) e)) (sym (div-add-mod' t q)))
    ∙ sum_rows (length helpers) q (λ i j. times (coefficient z q thetas i j k) (repair_byte z s helpers q gammas i j e)) low
