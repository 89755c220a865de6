use native.Mathlib.Omega.{arith}
use borrow.Author.Rules.{rules}
use lib.ListN.{take}
use lib.Seq.{length-take-le}
use Rattle.std.proofs.lemmas.List.{get_or-take}
use Rattle.sizes.proofs.SizeLaws.{ranged}
use Rattle.coding.proofs.CombinedLaws.{combined_alone}
use Rattle.coding.proofs.EncodeLaws.{block_written}
use Rattle.coding.proofs.encoding.write_block.Goals as goal

pub overflow_sub-z : goal.overflow_sub-z
overflow_sub-z c = omega (arith, (ranged _ c.requires.0).n_low)

pub shared_ref_as_front-elements : goal.shared_ref_as_front-elements
shared_ref_as_front-elements c = omega (arith, (ranged _ c.requires.0).m_high)

pub split_at_mut-end-requires : goal.split_at_mut-end-requires
split_at_mut-end-requires c = omega (arith, (ranged _ c.requires.0).n_low, c.split_at_mut-data.ensures.back_len, c.requires.3)

pub copy_from_slice-requires : goal.copy_from_slice-requires
copy_from_slice-requires c =
    let kept = length-take-le c.args.z.m c.args.row.bytes (omega (arith, (ranged _ c.requires.0).m_high)) in
    omega (arith, kept, (ranged _ c.requires.0).n_low, c.split_at_mut-data.ensures.back_len, c.split_at_mut-end.ensures.back_len, c.requires.3)

pub returns : goal.returns
returns c =
    let a = c.args in
    let R = ranged _ c.requires.0 in
    block_written a.z a.file.now a.padding.now (take a.z.m a.row.bytes) (omega (arith, R.n_low)) (length-take-le a.z.m a.row.bytes (omega (arith, R.m_high)))
    (λ i h. rw (get_or-take a.z.m a.row.bytes i 0 h) (search rules))
    (combined_alone _ _ _ a.file.now _ c.split_at_mut-data.ensures.front_len (c.fill.ensures.after (λ y e. e)) c.combine.ensures)
    (combined_alone _ _ _ a.padding.now _ c.split_at_mut-end.ensures.front_len (c.fill-2.ensures.after (λ y e. e)) c.combine-2.ensures)
    c.copy_from_slice.ensures.after
