use Prim.Native.Nat.{ℕ}
use native.Mathlib.Omega.{arith}
use lib.ListN.{replicate}
use lib.Seq.{length-take-le}
use Rattle.sizes.specs.Lengths.{record_most}
use Rattle.message.proofs.NamedLaws.{named_front}
use Rattle.proving.proofs.ProveLaws.{first_low, records_start, records_in_part, records_named}
use Rattle.proving.proofs.named_record.Goals as goal

pub overflow_mul-node : goal.overflow_mul-node
overflow_mul-node c = omega (arith, first_low _ c.args.records.ranges c.node.ensures.1)

pub record_start-start-requires : goal.record_start-start-requires
record_start-start-requires c =
    let outside = c.args.records.ranges in
    (outside, omega (arith, first_low _ outside c.node.ensures.1))

pub slice_bounds-add_named-count : goal.slice_bounds-add_named-count
slice_bounds-add_named-count c =
    let r = c.args.records in
    records_start _ _ c.args.challenge.now r.ranges r.long c.requires c.node.ensures.0 c.record_start-start.ensures c.record_length-len.ensures.0

pub slice_bounds-add_named-start : goal.slice_bounds-add_named-start
slice_bounds-add_named-start c =
    let r = c.args.records in
    records_start _ _ c.args.challenge.now r.ranges r.long c.requires c.node.ensures.0 c.record_start-start.ensures c.record_length-len.ensures.0

pub add_named-requires : goal.add_named-requires
add_named-requires c =
    let r = c.args.records in
    records_in_part _ _ c.args.challenge.now r.ranges r.long c.requires c.node.ensures.0 c.record_start-start.ensures c.record_length-len.ensures.0
    (length-take-le c.record_length-len.result (replicate {A = ℕ} record_most 0) (omega (arith, c.record_length-len.ensures.1)))

pub returns : goal.returns
returns c =
    let r = c.args.records in
    records_named _ _ c.args.challenge.now r.ranges r.long c.requires c.node.ensures.0 c.record_start-start.ensures c.record_length-len.ensures.0
    c.record_length-len.ensures.1
    (named_front c.args.challenge.now _ record_most c.record_length-len.result c.record_length-len.ensures.1 c.add_named.ensures)
