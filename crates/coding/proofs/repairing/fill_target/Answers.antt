use Prim.Native.Nat.{◌+◌, ◌-◌, ◌*◌, ◌≤◌}
use mathlib.Core.Path.{◌≡◌, refl, ◌∙◌}
use native.Mathlib.Omega.{arith}
use lib.ListN.{length}
use Rattle.lists.proofs.PartLaws.{part, length_part}
use Rattle.lists.proofs.PutLaws.{grid_none}
use Rattle.sizes.specs.Lengths.{record_length, archive_length, record_start}
use Rattle.sizes.proofs.SizeLaws.{not_sizes_outside}
use Rattle.sizes.proofs.PlaceLaws.{marks_in}
use Rattle.coding.proofs.CombinedLaws.{part_long, combined_alone, row_written}
use Rattle.coding.proofs.RepairLaws.{blocks_low, repairable, place, records_in, record_from, record_made, target_filled}
use Rattle.coding.proofs.repairing.fill_target.Goals as goal

pub sizes_in-z-requires : goal.sizes_in-z-requires
sizes_in-z-requires c = omega (arith, (repairable _ _ _ _ _ _ _ refl c.requires).long)

pub overflow_mul-count : goal.overflow_mul-count
overflow_mul-count c =
    let ok = repairable _ _ _ _ _ _ _ refl c.requires in
    omega (arith, blocks_low _ _ ok.helpers_high ok.q_high)

pub repair_blocks-requires : goal.repair_blocks-requires
repair_blocks-requires c =
    let ok = repairable _ _ _ _ _ _ _ refl c.requires in
    (ok.good, ok.q_low, ok.q_high, ok.helpers_high, ok.present, ok.gammas_length, ok.scratch_length)

pub overflow_mul-target : goal.overflow_mul-target
overflow_mul-target c =
    let ok = repairable _ _ _ _ _ _ _ c.sizes_in-z.ensures c.requires in
    omega (arith, marks_in _ ok.sizes _ ok.target_low)

pub set_marks-requires : goal.set_marks-requires
set_marks-requires c =
    let ok = repairable _ _ _ _ _ _ _ c.sizes_in-z.ensures c.requires in
    (marks_in _ ok.sizes _ ok.target_low, omega (arith, ok.long))

pub record_length-len-requires : goal.record_length-len-requires
record_length-len-requires c = not_sizes_outside _ (repairable _ _ _ _ _ _ _ c.sizes_in-z.ensures c.requires).sizes

pub loop-k-init : goal.loop-k-init
loop-k-init c = grid_none _ _ _ _

pub overflow_mul-target-in-loop-k : goal.overflow_mul-target-in-loop-k
overflow_mul-target-in-loop-k c =
    let ok = repairable _ _ _ _ _ _ _ c.sizes_in-z.ensures c.requires in
    omega (arith, (place ok c.loop-k.k c.loop-k-test.true).number)

pub overflow_add-target : goal.overflow_add-target
overflow_add-target c =
    let ok = repairable _ _ _ _ _ _ _ c.sizes_in-z.ensures c.requires in
    omega (arith, (place ok c.loop-k.k c.loop-k-test.true).number)

pub record_start-start-requires : goal.record_start-start-requires
record_start-start-requires c =
    let ok = repairable _ _ _ _ _ _ _ c.sizes_in-z.ensures c.requires in
    (not_sizes_outside _ ok.sizes, (place ok c.loop-k.k c.loop-k-test.true).number)

pub overflow_add-record : goal.overflow_add-record
overflow_add-record c =
    let ok = repairable _ _ _ _ _ _ _ c.sizes_in-z.ensures c.requires in
    omega (arith, (place ok c.loop-k.k c.loop-k-test.true).fits, c.record_start-start.ensures, c.record_length-len.ensures.0)

pub slice_bounds-record-end : goal.slice_bounds-record-end
slice_bounds-record-end c =
    let ok = repairable _ _ _ _ _ _ _ c.sizes_in-z.ensures c.requires in
    omega (arith, (place ok c.loop-k.k c.loop-k-test.true).fits, c.record_start-start.ensures, c.record_length-len.ensures.0)

pub slice_bounds-combine-count : goal.slice_bounds-combine-count
slice_bounds-combine-count c =
    let ok = repairable _ _ _ _ _ _ _ c.sizes_in-z.ensures c.requires in
    (place ok c.loop-k.k c.loop-k-test.true).first

pub slice_bounds-combine-start : goal.slice_bounds-combine-start
slice_bounds-combine-start c =
    let ok = repairable _ _ _ _ _ _ _ c.sizes_in-z.ensures c.requires in
    (place ok c.loop-k.k c.loop-k-test.true).first

pub combine-requires : goal.combine-requires
combine-requires c =
    let ok = repairable _ _ _ _ _ _ _ c.sizes_in-z.ensures c.requires in
    let here = place ok c.loop-k.k c.loop-k-test.true in
    let thetas = c.args.thetas.now in
    let start = c.record_start-start.result in
    let len = c.record_length-len.result in
    let fits : start + len ≤ length c.loop-k.archive = omega (arith, here.fits, c.record_start-start.ensures, c.record_length-len.ensures.0) in
    let long : length c.fill.new.self ≡ record_length c.sizes_in-z.result =
    omega (arith, part_long start len (start + len) c.loop-k.archive refl fits, c.record_length-len.ensures.0) in
    (λ h. omega (arith, here.last, length_part c.loop-k.k (length thetas) thetas (omega arith)), rw long (omega (arith, ok.scratch_length)))

pub loop-k-preserved : goal.loop-k-preserved
loop-k-preserved c =
    let a = c.args in
    let z = c.sizes_in-z.result in
    let ok = repairable _ _ _ _ _ _ _ c.sizes_in-z.ensures c.requires in
    let k = c.loop-k.k in
    let start = c.record_start-start.result in
    let len = c.record_length-len.result in
    let lens = c.record_length-len.ensures.0 in
    let fits : start + len ≤ length c.loop-k.archive = omega (arith, (place ok k c.loop-k-test.true).fits, c.record_start-start.ensures, lens) in
    let long : length c.set_marks.new.s ≡ archive_length z = omega (arith, ok.long) in
    let size : start + len - start ≡ len = omega arith in
    let made =
    combined_alone len _ _ _ (part start (start + len) c.loop-k.archive) (part_long start len (start + len) c.loop-k.archive refl fits)
    (c.fill.ensures.after (λ y e. e)) c.combine.ensures in
    row_written k len (record_start z (a.target * z.places)) _ _ c.set_marks.new.s
    (records_in z a.target k lens ok.target_low c.loop-k-test.true long) c.loop-k.invariant
    (c.record_start-start.ensures ∙ record_from z (a.target * z.places) k lens) size made
    (λ e h. record_made _ z.places len k e a.thetas.now c.repair_blocks.new.scratch c.loop-k-test.true ok.thetas_length)

pub returns : goal.returns
returns c =
    let ok = repairable _ _ _ _ _ _ _ c.sizes_in-z.ensures c.requires in
    let k : c.loop-k.k ≡ c.sizes_in-z.result.places = omega arith in
    let records = rw (k, c.record_length-len.ensures.0) at c.loop-k.invariant in record {
      blocks = c.repair_blocks.ensures;
      output = target_filled _ _ _ _ _ _ _ _ c.sizes_in-z.ensures ok.q_low c.repair_blocks.ensures c.set_marks.ensures records;
    }
