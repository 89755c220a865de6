use native.Mathlib.Omega.{arith}
use borrow.Author.Rules.{rules}
use Rattle.archive.specs.Prove.{response_for}
use Rattle.proving.proofs.ResponseLaws.{parts_written}
use Rattle.proving.proofs.write_parts.Goals as goal

pub returns : goal.returns
unfolding response_for
returns c =
    let a = c.args in
    let rows = a.rows.now in
    parts_written rows.n a.m a.tags a.combined.now rows.key rows.id a.seed a.response.now c.head_byte.result c.requires.5 rows.n_low (search rules)
    (omega (arith, rows.n_high, c.requires.1, c.requires.2, c.requires.3)) _ _ _ _ _ _ _ a.node c.head_byte.ensures c.copy_from_slice.ensures.after c.add_mask.ensures
    c.copy_from_slice-2.ensures.after c.write_sums.ensures c.copy_from_slice-3.ensures.after c.copy_from_slice-4.ensures.after
