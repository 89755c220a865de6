use native.Mathlib.Omega.{arith}
use Rattle.sizes.proofs.SizeLaws.{ranged}
use Rattle.reading.proofs.ReadingLaws.{reduced_in}
use Rattle.reading.proofs.choosing.eliminate.Goals as goal

pub rows_of-rows-requires : goal.rows_of-rows-requires
rows_of-rows-requires c =
    let is = c.rows_in.ensures in
    (omega (arith, is.m, c.requires.0), λ t h. omega (arith, is.count, c.requires.1 t h))

pub reduce-requires : goal.reduce-requires
reduce-requires c =
    let R = ranged _ c.args.records.ranges in
    (omega (arith, c.requires.0, R.m_high), R.m_high)

pub returns : goal.returns
returns c =
    reduced_in c.args.records.z c.args.records.bytes.now _ c.args.chosen c.rows_in.ensures c.rows_of-rows.ensures c.reduce.ensures
